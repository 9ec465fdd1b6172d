use Rattle.std.proofs.Common.{◌≡◌, ℕ, ◌+◌, ◌-◌, ◌%◌, List, [], ◌∷◌, ◌++◌, map, length, drop, get_or, set, ap, ap₂}
use Rattle.std.proofs.Common.{sym, ◌∙◌}
use Rattle.std.specs.List.{range_with_len}
use Rattle.card_piles.specs.declared.Card.{Card}
use Rattle.seed_deal.specs.Layout.{laid_on}
use Rattle.seed_deal.proofs.Laying.{turn-next, length-grown}
use Rattle.seed_deal.proofs.piles.lay_in_turn.Goals as goal

pub loop-k-preserved : goal.loop-k-preserved
loop-k-preserved c =
    let k : ℕ = c.loop-k.k in
    let count : ℕ = c.args.piles in
    let cards : List Card = c.args.cards.now in
    let piles : List (List Card) = c.loop-k.tableau.items in
    let grown : List (List Card) = c.lay_on.new.tableau.items in
    let put : grown ≡ set piles (k % count)
    (get_or piles (k % count) [] ++ get_or cards k c.index-cards-k.result ∷ []) =
    c.in_ok-lay_on.ensures.laid
    ∙ ap₂ (λ (n : ℕ) (card : Card). set piles (k % n) (get_or piles (k % n) [] ++ card ∷ [])) c.from.ensures
    c.index-cards-k.is in
    let others : List ℕ = map (λ (j : ℕ). j % count) (range_with_len (k + 1) (length cards - (k + 1))) in
    record {
      all = length-grown _ _ _ _ put ∙ c.loop-k.invariant.all;
      laid = ap (λ (ps : List (List Card)). laid_on others (drop (k + 1) cards) ps) put
          ∙ sym (turn-next count k cards c.index-cards-k.result piles c.loop-k-test.true)
          ∙ c.loop-k.invariant.laid;
    }
