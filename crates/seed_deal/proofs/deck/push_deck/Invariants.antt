use Rattle.std.proofs.Common.{◌≡◌, ◌++◌}
use Rattle.std.specs.List.{flat_map, range_with_len}
use Rattle.game_rules.specs.Board.{suit_at}
use Rattle.seed_deal.specs.Shuffle.{suit_in_order}
use Rattle.seed_deal.proofs.deck.push_deck.Given as goal

abbrev pub invariant-loop-suit : goal.invariant-loop-suit
invariant-loop-suit l = l.deck.items ≡ l.initial.deck.items
    ++ flat_map (λ place. suit_in_order l.max_rank (suit_at place)) (range_with_len 0 l.suit)
