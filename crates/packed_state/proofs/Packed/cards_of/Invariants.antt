use Rattle.std.proofs.Common.{◌≡◌, take}
use Rattle.packed_state.specs.Packed.{cards_at}
use Rattle.packed_state.proofs.Packed.cards_of.Given as goal

abbrev pub invariant-loop-i : goal.invariant-loop-i
invariant-loop-i l = l.out ≡ take l.i (cards_at l.self l.place)
