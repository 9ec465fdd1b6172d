use Rattle.std.proofs.Common.{◌≡◌, map}
use Rattle.serde_json.specs.View.{view}
use Rattle.std.specs.List.{range_with_len}
use Rattle.game_rules.specs.Winning.{row_at}
use Rattle.deal_reader.specs.Spelling.{entry_tree, list_tree}
use Rattle.deal_reader.proofs.write.rows_value.Given as goal

abbrev pub invariant-loop-r : goal.invariant-loop-r
invariant-loop-r l = map view l.list.items ≡ map (list_tree entry_tree)
    (map (row_at l.rules l.board) (range_with_len 0 l.r))
