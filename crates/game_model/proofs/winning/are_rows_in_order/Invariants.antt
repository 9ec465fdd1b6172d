use Rattle.std.proofs.Common.{◌≡◌, ◌-◌, true, take}
use Rattle.std.specs.List.{list_all, range_with_len}
use Rattle.game_rules.specs.Winning.{row_at, is_in_sequence}
use Rattle.game_model.proofs.winning.are_rows_in_order.Given as goal

abbrev pub invariant-loop-row : goal.invariant-loop-row
invariant-loop-row g l =
    list_all (λ row. is_in_sequence (take (l.rules.max_rank - 1) (row_at l.rules (g.T.Table.board l.table) row)))
    (range_with_len 0 l.row) ≡ true
