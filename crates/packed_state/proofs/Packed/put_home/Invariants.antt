use Rattle.std.proofs.Common.{◌+◌, map}
use Rattle.std.specs.List.{range_with_len}
use Rattle.packed_state.specs.Packed.{Added}
use Rattle.packed_state.proofs.Due.{home_card}
use Rattle.packed_state.proofs.Packed.put_home.Given as goal

abbrev pub invariant-loop-k : goal.invariant-loop-k
invariant-loop-k l =
    Added l.initial.self l.self (90 + l.f) (map (home_card l.rules l.f l.height) (range_with_len 0 l.k))
