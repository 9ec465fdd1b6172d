use Rattle.std.proofs.Common.{◌≡◌, replicate}
use Rattle.std.specs.List.{flat_map, range_with_len}
use Rattle.game_rules.specs.Position.{card_numbered}
use Rattle.pile_symmetry.specs.Reading.{lacking}
use Rattle.pile_symmetry.proofs.filling.lacking_cards.Given as goal

abbrev pub invariant-loop-number : goal.invariant-loop-number
invariant-loop-number l =
    l.cards ≡ flat_map (λ n. replicate (lacking l.rules l.parts (card_numbered n)) (card_numbered n))
    (range_with_len 0 l.number)
