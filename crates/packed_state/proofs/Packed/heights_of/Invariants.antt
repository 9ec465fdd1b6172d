use Rattle.std.proofs.Common.{◌≡◌, ◌+◌, map, length}
use Rattle.std.specs.List.{range_with_len}
use Rattle.packed_state.specs.Packed.{cards_at}
use Rattle.packed_state.proofs.Packed.heights_of.Given as goal

abbrev pub invariant-loop-f : goal.invariant-loop-f
invariant-loop-f l = l.out ≡ map (λ f. length (cards_at l.self (90 + f))) (range_with_len 0 l.f)
