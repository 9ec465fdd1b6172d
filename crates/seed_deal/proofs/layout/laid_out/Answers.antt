use Rattle.std.proofs.Common.{◌≡◌, ℕ, List, map, take, drop, ap, ap₂, ◌∙◌, length, arith, length-take, length-drop}
use Rattle.std.specs.Prelude.{Option, Some, None}
use Rattle.std.specs.List.{sum_by}
use Rattle.card_piles.specs.declared.Card.{Card}
use Rattle.game_rules.specs.declared.RuleParts.{RuleParts}
use Rattle.game_rules.specs.declared.Face.{Face}
use Rattle.game_rules.specs.declared.Layout.{Layout}
use Rattle.game_rules.specs.Belonging.{most_redeals}
use Rattle.game_rules.specs.Position.{filled}
use Rattle.seed_deal.specs.Layout.{after_hole, after_cells, after_reserve, after_stock, beside_hole, dealt_hole}
use Rattle.seed_deal.specs.Layout.{piles_laid, turned}
use Rattle.seed_deal.proofs.Laying.{few-lengths}
use Rattle.seed_deal.proofs.Dealt.{few-first, few-beside, few_filled, laid_out-parts}
use Rattle.seed_deal.proofs.layout.laid_out.Goals as goal

pub face_down_of-requires : goal.face_down_of-requires
face_down_of-requires c =
    let tableau = ap (λ (xs : List (List Card)). sum_by (λ (cs : List Card). length cs) xs)
    (c.items.ensures ∙ c.in_ok-tableau.ensures) in
    let few = few-lengths c.layout.result c.piles.result c.split-3.result.1.now in
    let third = ap length c.split-3.ensures.rest in
    let second = ap length c.split-2.ensures.rest in
    let first = ap length c.split.ensures.rest in
    let deck = ap length c.as_slice.ensures.value in
    let hole = ap length c.in_ok-hole.ensures.beside in
    let stays = ap length c.in_ok-deck.ensures in
    omega (
      arith,
      tableau,
      few,
      third,
      second,
      first,
      deck,
      hole,
      stays,
      c.requires.few,
      length-drop c.from-3.result c.split-2.result.1.now,
      length-drop c.from-2.result c.split.result.1.now,
      length-drop c.from.result c.as_slice.result.now,
      few-beside c.parts.result.goal c.in_ok-deck.deck.items,
      few-first c.args.rules.now c.args.deck.now,
    )

pub cells_with-requires : goal.cells_with-requires
cells_with-requires c =
    let front = ap length c.split.ensures.front in
    let cut = length-take c.from.result c.as_slice.result.now in
    let n = c.from.ensures ∙ c.cells_filled.ensures in
    let few = few_filled c.args.rules.now c.parts.ensures.playable in
    omega (arith, front, cut, n, few, c.cells.ensures)

pub returns : goal.returns
returns c =
    let rules : RuleParts = c.args.rules.now in
    let deck : List Card = c.args.deck.now in
    let beside : c.as_slice.result.now ≡ after_hole rules deck =
    c.as_slice.ensures.value ∙ c.in_ok-hole.ensures.beside
    ∙ ap₂ (λ (r : RuleParts) (xs : List Card). beside_hole r.goal xs) c.parts.ensures.value c.in_ok-deck.ensures in
    let first_n = c.from.ensures ∙ c.cells_filled.ensures in
    let second_n = c.from-2.ensures ∙ c.reserve.ensures in
    let third_n = c.from-3.ensures ∙ c.stock.ensures in
    let first : c.split.result.1.now ≡ after_cells rules deck = c.split.ensures.rest
    ∙ ap₂ (λ (n : ℕ) (xs : List Card). drop n xs) first_n beside in
    let second : c.split-2.result.1.now ≡ after_reserve rules deck = c.split-2.ensures.rest
    ∙ ap₂ (λ (n : ℕ) (xs : List Card). drop n xs) second_n first in
    let third : c.split-3.result.1.now ≡ after_stock rules deck = c.split-3.ensures.rest
    ∙ ap₂ (λ (n : ℕ) (xs : List Card). drop n xs) third_n second in
    let cards : List Card → List (Option Card) = λ (xs : List Card). map (λ (card : Card). Some card) xs in
    laid_out-parts rules deck _ c.requires.no_rows
    (c.in_ok-tableau.ensures ∙ ap (λ (l : Layout). piles_laid l c.piles.result c.split-3.result.1.now) c.layout.ensures
    ∙ ap₂ (λ (n : ℕ) (xs : List Card). piles_laid rules.layout n xs) c.piles.ensures third)
    (c.in_ok-face_down.ensures
    ∙ ap₂ (λ (f : Face) (xs : List (List Card)). map (λ (cs : List Card). (turned f cs).face_down) xs)
    c.face.ensures c.items.ensures)
    (c.in_ok-cells.ensures
    ∙ ap₂ (λ (n : ℕ) (xs : List Card). filled n None (cards xs)) c.cells.ensures
    (c.split.ensures.front ∙ ap₂ (λ (n : ℕ) (xs : List Card). take n xs) first_n beside))
    (c.from_vec.ensures ∙ c.in_ok-reserve.ensures
    ∙ ap cards (c.split-2.ensures.front ∙ ap₂ (λ (n : ℕ) (xs : List Card). take n xs) second_n first))
    (c.in_ok-stock.ensures ∙ c.split-3.ensures.front ∙ ap₂ (λ (n : ℕ) (xs : List Card). take n xs) third_n second)
    c.new.ensures
    (c.most_left.ensures ∙ ap most_redeals c.redeals.ensures)
    c.in_ok-foundations.ensures
    (c.in_ok-hole.ensures.hole ∙ ap₂ (λ (r : RuleParts) (xs : List Card). dealt_hole r.goal xs) c.parts.ensures.value
    c.in_ok-deck.ensures)
    c.new-2.ensures
