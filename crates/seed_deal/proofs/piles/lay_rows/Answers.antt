use Rattle.std.proofs.Common.{◌≡◌, ◌∙◌, ◌-◌, ℕ, [], ◌∷◌, ◌++◌, ap, set, get_or, arith}
use Rattle.std.specs.List.{flat_map, range_with_len}
use Rattle.std.proofs.lemmas.List.{nil_from_length}
use Rattle.seed_deal.specs.Layout.{laid_on}
use Rattle.seed_deal.proofs.Laying.{lays_same, row-begins, row-more, row-ends, cards-end, length-grown}
use Rattle.seed_deal.proofs.piles.lay_rows.Goals as goal

pub loop-pile-init : goal.loop-pile-init
loop-pile-init c = record {
  all = c.loop-row.invariant.all;
  lays = lays_same _ _ _ _ _ _ _ (row-begins c.args.piles c.loop-row.row (omega arith)) c.loop-row.invariant.lays;
}

pub loop-pile-preserved : goal.loop-pile-preserved
loop-pile-preserved c = record {
  all = length-grown _ _ _ _ c.in_ok-lay_on.ensures.laid ∙ c.loop-pile.invariant.all;
  lays = row-more c.args.piles c.loop-row.row c.loop-pile.pile _ _ _ _ _ _ _ _ (omega arith) c.in-Some.ensures.cases.0
      (c.in_ok-lay_on.ensures.laid ∙ ap (λ (p : ℕ). set c.loop-pile.tableau.items p
      (get_or c.loop-pile.tableau.items p [] ++ c.in-Some.card.now ∷ [])) c.from.ensures)
      c.loop-pile.invariant.lays;
}

pub loop-row-preserved : goal.loop-row-preserved
loop-row-preserved c = record {
  all = c.loop-pile.invariant.all;
  lays = lays_same _ _ _ _ _ _ _ (row-ends c.args.piles c.loop-row.row c.loop-pile.pile (omega arith))
      c.loop-pile.invariant.lays;
}

pub returns-in_default-clause-laid : goal.returns-in_default-clause-laid
returns-in_default-clause-laid c =
    let none = nil_from_length c.loop-pile.rest.now c.in_default.ensures.cases in
    let piles : ℕ = c.args.piles in
    let whole : piles - 0 ≡ piles = omega arith in
    (cards-end _ _ _ _ _ _ none c.loop-pile.invariant.lays).0
    ∙ ap (λ (n : ℕ). laid_on (flat_map (λ (row : ℕ). range_with_len row (piles - row)) (range_with_len 0 n))
    c.args.cards.now c.args.tableau.now.items) whole
