use Rattle.std.proofs.Common.{ℕ, ◌+◌, List, [], ◌∷◌, ◌++◌, map, ap, ap₂, sym, ◌∙◌, append_assoc, arith}
use Rattle.std.specs.List.{range_with_len}
use Rattle.std.proofs.lemmas.List.FromFn.{map-range_with_len_more}
use Rattle.card_piles.specs.declared.Card.{Card}
use Rattle.seed_deal.proofs.deck.push_suit.Goals as goal

pub loop-place-preserved : goal.loop-place-preserved
loop-place-preserved c =
    let card_at : ℕ → Card = λ (place : ℕ). record { suit = c.args.suit; rank = place + 1 } in
    let more = map-range_with_len_more card_at 0 c.loop-place.place c.loop-place.place (omega arith) in
    c.in_ok-push.ensures.items
    ∙ ap₂ (λ (xs : List Card) (x : Card). xs ++ x ∷ []) c.loop-place.invariant c.card_at.ensures
    ∙ append_assoc c.args.deck.now.items (map card_at (range_with_len 0 c.loop-place.place))
    (card_at c.loop-place.place ∷ [])
    ∙ ap (λ (xs : List Card). c.args.deck.now.items ++ xs) (sym more)
