-- The cards of a foundation, put one after the other.
use Rattle.std.proofs.Common.{◌≡◌, ℕ, ◌+◌, ◌-◌, ◌<◌, ◌≤◌, Bool, true, false, List, [], ◌∷◌, ◌++◌, map, length}
use Rattle.std.proofs.Common.{sym, ap, ◌∙◌, subst, arith, length-append}
use Rattle.std.specs.Prelude.{if◌then◌else◌}
use Rattle.std.specs.List.{range_with_len}
use Rattle.std.proofs.lemmas.Bool.Decides.{nat_tests}
use Rattle.std.proofs.lemmas.List.FromFn.{length-map-range_with_len, map-range_with_len_more}
use Rattle.card_piles.specs.declared.Card.{Card}
use Rattle.game_rules.specs.declared.RuleParts.{RuleParts}
use Rattle.game_rules.specs.Rules.{takes_complete_runs}
use Rattle.game_rules.specs.Board.{foundation_card}
use Rattle.packed_state.specs.Packed.{Linked, IsLinked, is_inside, is_single, with_put, Added, home_cards}
use Rattle.packed_state.proofs.Filling.{added_both, put_is_added, not_both}
use Rattle.packed_state.proofs.Due.{home_card, home_listed}

pub home_many : (f : ℕ) → f < 16 → is_single (90 + f) ≡ false
home_many f lf = grind (arith, nat_tests)

module _ (rules : RuleParts) (f height k : ℕ) (l m : Linked) (lf : f < 16) (room : l.links.used + height ≤ 208)
    (so_far : Added l m (90 + f) (map (home_card rules f height) (range_with_len 0 k))) where
  abbrev cards : List Card
  cards = map (home_card rules f height) (range_with_len 0 k)

  long : length cards ≡ k
  long = length-map-range_with_len (home_card rules f height) 0 k

  pub home_room : k < height → m.links.used < 208
  home_room lk = let u = so_far.used in let n = long in omega arith

  pub home_more : (n : Linked) (o : ℕ) (runs : Bool) → IsLinked m → k < height
      → (1 ≤ height → is_inside l.shape (90 + f) ≡ true)
      → runs ≡ takes_complete_runs rules.goal → o ≡ (if runs then height - k else k + 1)
      → n ≡ with_put m (90 + f) (foundation_card rules f (o - 1))
      → Added l n (90 + f) (map (home_card rules f height) (range_with_len 0 (k + 1)))
  home_more n o runs h lk inside er eo en =
      let its : is_inside m.shape (90 + f) ≡ true =
      ap (λ s. is_inside s (90 + f)) so_far.shape ∙ inside (omega arith) in
      let order : o ≡ (if takes_complete_runs rules.goal then height - k else k + 1) =
      eo ∙ ap (λ b. if b then height - k else k + 1) er in
      let card : foundation_card rules f (o - 1) ≡ home_card rules f height k =
      ap (λ x. foundation_card rules f (x - 1)) order in
      let put = put_is_added m n h (90 + f) (foundation_card rules f (o - 1)) (omega arith) its
      (λ one. not_both _ _ (home_many f lf) one) (home_room lk) en in
      let more = map-range_with_len_more (home_card rules f height) 0 k k (omega arith) in
      subst (Added l n (90 + f)) (ap (λ c. cards ++ c ∷ []) card ∙ sym more)
      (added_both l m n (90 + f) cards (foundation_card rules f (o - 1) ∷ []) so_far put
      (length-append cards (foundation_card rules f (o - 1) ∷ [])))

pub home_all : (rules : RuleParts) (f height k : ℕ) (l m : Linked) → k ≡ height
    → Added l m (90 + f) (map (home_card rules f height) (range_with_len 0 k))
    → Added l m (90 + f) (home_cards rules f height)
home_all rules f height k l m e added =
    subst (Added l m (90 + f)) (ap (λ n. map (home_card rules f height) (range_with_len 0 n)) e
    ∙ home_listed rules f height) added
