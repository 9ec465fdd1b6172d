use Rattle.std.proofs.Common.{◌≡◌, take, map}
use Rattle.serde_json.specs.View.{view}
use Rattle.deal_reader.specs.Spelling.{card_tree}
use Rattle.deal_reader.proofs.write.cards_value.Given as goal

abbrev pub invariant-loop-card : goal.invariant-loop-card
invariant-loop-card l = map view l.list.items ≡ map card_tree (take l.card-index l.cards)
