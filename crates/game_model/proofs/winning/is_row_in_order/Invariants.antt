use Rattle.std.proofs.Common.{◌≡◌, true, take}
use Rattle.game_rules.specs.Winning.{row_at, is_in_sequence}
use Rattle.game_model.proofs.winning.is_row_in_order.Given as goal

abbrev pub invariant-loop-column : goal.invariant-loop-column
invariant-loop-column g l = is_in_sequence (take l.column (row_at l.rules (g.T.Table.board l.table) l.fn.row)) ≡ true
