use Rattle.std.proofs.Common.{◌≡◌, map}
use Rattle.std.specs.List.{range_with_len}
use Rattle.packed_state.specs.Packed.{face_at}
use Rattle.packed_state.proofs.Packed.face_down_of.Given as goal

abbrev pub invariant-loop-i : goal.invariant-loop-i
invariant-loop-i l = l.out ≡ map (face_at l.self) (range_with_len 0 l.i)
