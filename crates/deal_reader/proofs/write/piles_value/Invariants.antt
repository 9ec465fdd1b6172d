use Rattle.std.proofs.Common.{◌≡◌, take, map}
use Rattle.serde_json.specs.View.{view}
use Rattle.deal_reader.specs.Spelling.{card_tree, list_tree}
use Rattle.deal_reader.proofs.write.piles_value.Given as goal

abbrev pub invariant-loop-i : goal.invariant-loop-i
invariant-loop-i l = map view l.list.items ≡ map (list_tree card_tree)
    (map (λ pile. pile.cards) (take l.i l.board.piles))
