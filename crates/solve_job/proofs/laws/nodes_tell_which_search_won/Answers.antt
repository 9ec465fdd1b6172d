use Rattle.solve_job.proofs.Telling.{won_plainly, won_narrowly}
use Rattle.solve_job.proofs.laws.nodes_tell_which_search_won.Goals as goal

pub returns-clause-plain : goal.returns-clause-plain
returns-clause-plain c = won_plainly

pub returns-clause-restricted : goal.returns-clause-restricted
returns-clause-restricted c = won_narrowly
