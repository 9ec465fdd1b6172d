use Rattle.std.proofs.Common.{ℕ, ◌<◌}
use Rattle.safe_foundation.proofs.Forcing.{NoSafeOnto}
use Rattle.safe_foundation.proofs.first.first_safe_of.Given as goal

abbrev pub invariant-loop-f : goal.invariant-loop-f
invariant-loop-f g l = (k : ℕ) → k < l.f → NoSafeOnto l.rules (g.T.Table.board l.table) k
