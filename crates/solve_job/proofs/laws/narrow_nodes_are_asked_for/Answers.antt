use Rattle.solve_job.proofs.Telling.{none_asked}
use Rattle.solve_job.proofs.laws.narrow_nodes_are_asked_for.Goals as goal

pub returns : goal.returns
returns c = none_asked
