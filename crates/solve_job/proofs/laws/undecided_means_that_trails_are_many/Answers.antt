use Rattle.solve_job.proofs.Telling.{many_trails}
use Rattle.solve_job.proofs.laws.undecided_means_that_trails_are_many.Goals as goal

pub returns : goal.returns
returns c = many_trails
