use Rattle.std.proofs.Common.{◌≡◌, map}
use Rattle.std.specs.List.{range_with_len}
use Rattle.game_rules.specs.Winning.{row_at}
use Rattle.packed_state.specs.Packed.{board_of}
use Rattle.packed_state.proofs.Packed.rows_of.Given as goal

abbrev pub invariant-loop-r : goal.invariant-loop-r
invariant-loop-r l = l.out ≡ map (row_at l.rules (board_of l.self)) (range_with_len 0 l.r)
