use Rattle.std.proofs.Common.{◌≡◌, ℕ, ◌+◌, ◌*◌, List, [], ◌∷◌, ◌++◌, map, take, drop, ap, ap₂, sym, ◌∙◌, arith}
use Rattle.std.specs.declared.option.Option.{Option}
use Rattle.std.proofs.lemmas.List.{drop-drop}
use Rattle.std.proofs.lemmas.List.FromFn.{map-range_with_len_more}
use Rattle.card_piles.specs.declared.Card.{Card}
use Rattle.game_rules.specs.Winning.{row_at}
use Rattle.seed_deal.specs.Layout.{laid_in_rows, slot_for}
use Rattle.seed_deal.proofs.layout.rows_of.Goals as goal

pub loop-init : goal.loop-init
loop-init c =
    let none : 0 * c.args.rules.now.max_rank ≡ 0 = omega arith in
    record {
      rows = c.new-rows.ensures;
      rest = c.as_slice-rest.ensures.value ∙ c.in_ok-slots.ensures
          ∙ sym (ap (λ (n : ℕ). drop n (map slot_for c.args.deck.now)) none);
    }

pub loop-preserved : goal.loop-preserved
loop-preserved c =
    let m : ℕ = c.args.rules.now.max_rank in
    let k : ℕ = c.loop.counter in
    let slots : List (Option Card) = map slot_for c.args.deck.now in
    let n_is = c.from.ensures ∙ c.max_rank.ensures.value in
    let row = c.in_ok-from_slice.ensures ∙ c.split.ensures.front
    ∙ ap₂ (λ (n : ℕ) (xs : List (Option Card)). take n xs) n_is c.loop.invariant.rest in
    let further : k * m + m ≡ (k + 1) * m = omega arith in
    record {
      rows = c.in_ok-push.ensures.ok ∙ ap₂ (λ (xs : List (List (Option Card))) (x : List (Option Card)). xs ++ x ∷ [])
          c.loop.invariant.rows row
          ∙ sym (map-range_with_len_more (row_at c.args.rules.now (laid_in_rows c.args.rules.now c.args.deck.now)) 0
          k k (omega arith));
      rest = c.split.ensures.rest ∙ ap₂ (λ (n : ℕ) (xs : List (Option Card)). drop n xs) n_is c.loop.invariant.rest
          ∙ drop-drop m (k * m) slots
          ∙ ap (λ (n : ℕ). drop n slots) further;
    }
