use Rattle.std.proofs.Common.{◌≡◌, ◌++◌}
use Rattle.std.specs.Prelude.{map}
use Rattle.std.specs.List.{flat_map, range_with_len}
use Rattle.packed_state.specs.Packed.{board_of}
use Rattle.stock_moves.specs.Onto.{place_in, steps_onto}
use Rattle.stock_moves.proofs.onto.push_onto_each.Given as goal

abbrev pub invariant-loop-i : goal.invariant-loop-i
invariant-loop-i l =
    l.out.items ≡ l.initial.out.items ++ flat_map (steps_onto l.rules (board_of l.packed) l.fn.deals)
    (map (place_in l.fn.kind) (range_with_len 0 l.i))
