use Rattle.solve_job.proofs.Fixed.{one_verdict}
use Rattle.solve_job.proofs.laws.verdicts_within_the_cache_are_fixed.Goals as goal

pub returns : goal.returns
returns c = one_verdict
