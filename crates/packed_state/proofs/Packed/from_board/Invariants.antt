use Rattle.packed_state.proofs.Placed.{Placed}
use Rattle.packed_state.proofs.Packed.from_board.Given as goal

abbrev pub invariant-loop-place : goal.invariant-loop-place
invariant-loop-place l = Placed l.rules l.board l.packed l.place
