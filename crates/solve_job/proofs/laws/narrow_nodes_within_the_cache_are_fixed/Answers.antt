use Rattle.solve_job.proofs.NarrowFixed.{one_count}
use Rattle.solve_job.proofs.laws.narrow_nodes_within_the_cache_are_fixed.Goals as goal

pub returns : goal.returns
returns c = one_count
