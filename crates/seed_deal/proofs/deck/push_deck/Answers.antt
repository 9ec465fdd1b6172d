use Rattle.std.proofs.Common.{ℕ, List, ◌++◌, ap, ap₂, sym, ◌∙◌, append_assoc}
use Rattle.std.specs.List.{flat_map, range_with_len}
use Rattle.card_piles.specs.declared.Card.{Card}
use Rattle.card_piles.specs.declared.Suit.{Suit}
use Rattle.game_rules.specs.Board.{suit_at}
use Rattle.game_rules.proofs.PositionLoops.{flat_map-range_more}
use Rattle.seed_deal.specs.Shuffle.{suit_in_order}
use Rattle.seed_deal.proofs.deck.push_deck.Goals as goal

pub loop-suit-preserved : goal.loop-suit-preserved
loop-suit-preserved c =
    let suit_of : ℕ → List Card = λ (place : ℕ). suit_in_order c.args.max_rank (suit_at place) in
    c.in_ok-push_suit.ensures
    ∙ ap₂ (λ (xs : List Card) (suit : Suit). xs ++ suit_in_order c.args.max_rank suit)
    c.loop-suit.invariant c.suit_at.ensures
    ∙ append_assoc c.args.deck.now.items (flat_map suit_of (range_with_len 0 c.loop-suit.suit))
    (suit_of c.loop-suit.suit)
    ∙ ap (λ (xs : List Card). c.args.deck.now.items ++ xs) (sym (flat_map-range_more suit_of c.loop-suit.suit))
