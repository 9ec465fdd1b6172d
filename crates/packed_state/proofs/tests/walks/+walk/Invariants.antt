use Rattle.std.proofs.Common.{◌≡◌}
use Rattle.packed_state.proofs.tests.walks.+walk.Given as goal

abbrev pub decreases-walk : goal.decreases-walk
decreases-walk l = l.depth

abbrev pub invariant-loop-m : goal.invariant-loop-m
invariant-loop-m l = l.packed ≡ l.initial.packed
