use Rattle.solve_job.proofs.Fixed.{line_wins}
use Rattle.solve_job.proofs.laws.winnable_means_that_the_line_wins.Goals as goal

pub returns : goal.returns
returns c = line_wins
