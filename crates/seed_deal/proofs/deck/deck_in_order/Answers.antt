use Rattle.std.proofs.Common.{ℕ, List, ◌++◌, ap₂, sym, ◌∙◌}
use Rattle.card_piles.specs.declared.Card.{Card}
use Rattle.game_rules.proofs.PositionLoops.{flat_map-range_more}
use Rattle.seed_deal.specs.Shuffle.{one_deck}
use Rattle.seed_deal.proofs.deck.deck_in_order.Goals as goal

pub loop-preserved : goal.loop-preserved
loop-preserved c =
    c.in_ok-push_deck.ensures
    ∙ ap₂ (λ (xs : List Card) (m : ℕ). xs ++ one_deck m) c.loop.invariant c.max_rank.ensures.value
    ∙ sym (flat_map-range_more (λ (copy : ℕ). one_deck c.args.rules.now.max_rank) c.loop.counter)
