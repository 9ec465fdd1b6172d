use Rattle.std.proofs.Common.{length}
use Rattle.play_session.proofs.Steps.{ReadSoFar}
use Rattle.play_session.proofs.read.orders_of.Given as goal

abbrev pub invariant-loop-part : goal.invariant-loop-part
invariant-loop-part l = ReadSoFar l.fn.text l.line l.orders.items l.rest

abbrev pub decreases-loop-part : goal.decreases-loop-part
decreases-loop-part l = length l.rest
