-- No card is left in play exactly where the places below 90 have no slot.
use Rattle.std.proofs.Common.{◌≡◌, ◌≢◌, ℕ, zero, suc, ◌+◌, ◌-◌, ◌<◌, ◌≤◌, Bool, true, false, ◌&&◌, ◌||◌, inl, inr}
use Rattle.std.proofs.Common.{List, [], ◌∷◌, length, map, take, get_or, refl, sym, ap, ◌∙◌, subst, arith}
use Rattle.std.proofs.Common.{get_or-take, length-take-le}
use Rattle.std.specs.Prelude.{IsTrue, is_none, nat_lt, nat_le, nat_eq}
use Rattle.std.specs.List.{sum, list_all, range_with_len}
use Rattle.std.proofs.lemmas.Bool.{cases_eq, cases_lt}
use Rattle.std.proofs.lemmas.Bool.Decides.{nat_tests}
use Rattle.std.proofs.lemmas.List.Sums.{sum_by-cons}
use Rattle.card_piles.specs.declared.Card.{Card}
use Rattle.game_rules.specs.Board.{Board, Pile, top_of}
use Rattle.game_rules.specs.Play.{is_empty}
use Rattle.game_rules.proofs.Limits.{both}
use Rattle.game_rules.proofs.ListFacts.{and_both}
use Rattle.card_links.specs.Chains.{top_at, size_at, chain}
use Rattle.card_links.proofs.Sums.{one_below_first}
use Rattle.packed_state.specs.declared.Shape.{Shape}
use Rattle.packed_state.specs.Packed.{Linked, IsLinked, is_inside, cards_at, face_at, board_of}
use Rattle.packed_state.proofs.Contents.{up}
use Rattle.packed_state.proofs.Moving.{none_top}
use Rattle.packed_state.proofs.Tops.{size_is}

-- whether no card lies in tableau, cells, reserve, stock or waste
abbrev pub has_none : Board → Bool
has_none board =
    list_all (λ pile. is_empty pile.cards) board.piles && list_all (λ e. is_none e) board.cells
    && list_all (λ e. is_none e) board.reserve && is_empty board.stock && is_empty board.waste

all_zero : (xs : List ℕ) → ((i : ℕ) → i < length xs → get_or xs i 0 ≡ 0) → sum xs ≡ 0
all_zero [] h = refl
all_zero (x ∷ xs) h =
    let first : x ≡ 0 = h 0 (omega arith) in
    let rest = all_zero xs (λ i li. h (suc i) (omega arith)) in
    let parts = sum_by-cons (λ (n : ℕ). n) x xs in
    omega arith

pub range_all : {X : Type 0} (p : X → Bool) (g : ℕ → X) (a n : ℕ)
    → ((i : ℕ) → a ≤ i → i < a + n → IsTrue (p (g i))) → IsTrue (list_all p (map g (range_with_len a n)))
range_all p g a zero h = refl
range_all p g a (suc n) h =
    and_both (p (g a)) _ (h a (omega arith) (omega arith))
    (range_all p g (a + 1) n (λ i la lb. h i (omega arith) (omega arith)))

pub range_each : {X : Type 0} (p : X → Bool) (g : ℕ → X) (a n i : ℕ)
    → IsTrue (list_all p (map g (range_with_len a n))) → a ≤ i → i < a + n → IsTrue (p (g i))
range_each p g a zero i h la lb = absurd (omega arith)
range_each p g a (suc n) i h la lb =
    let t = both (p (g a)) (list_all p (map g (range_with_len (a + 1) n))) h in
    elim (cases_eq i a) [
      | inl e ↦ subst (λ x. IsTrue (p (g x))) (sym e) t.0
      | inr ne ↦ range_each p g (a + 1) n i t.1 (omega arith) (omega arith)
    ]

or_none : (a b : Bool) → a ≡ false → b ≡ false → (a || b) ≡ false
or_none true b e f = cc
or_none false b e f = f

and_no_left : (a b : Bool) → a ≡ false → (a && b) ≡ false
and_no_left true b e = cc
and_no_left false b e = refl

and_no_right : (a b : Bool) → b ≡ false → (a && b) ≡ false
and_no_right true b e = e
and_no_right false b e = refl

lt_no : (a b : ℕ) → b ≤ a → nat_lt a b ≡ false
lt_no a b h = grind (arith, nat_tests)

le_no : (a b : ℕ) → b < a → nat_le a b ≡ false
le_no a b h = grind (arith, nat_tests)

eq_no : (a b : ℕ) → a ≢ b → nat_eq a b ≡ false
eq_no a b h = grind (arith, nat_tests)

outside_of : (sh : Shape) (p : ℕ) → p < 88 → (p < 20 → sh.piles ≤ p) → sh.piles ≤ 20
    → (20 ≤ p → p < 36 → 20 + sh.cells ≤ p) → sh.cells ≤ 16 → (36 ≤ p → 36 + sh.entries ≤ p) → is_inside sh p ≡ false
outside_of sh p lp a fa b fb c =
    or_none _ _ (or_none _ _ (or_none _ _ (or_none _ _ (or_none _ _ (or_none _ _ (or_none _ _
    (elim (cases_lt p 20) [ inl x ↦ lt_no p sh.piles (a x) | inr x ↦ lt_no p sh.piles (omega arith) ])
    (elim (cases_lt p 20) [
      | inl x ↦ and_no_left _ _ (le_no 20 p x)
      | inr x ↦ elim (cases_lt p 36) [
        | inl y ↦ and_no_right (nat_le 20 p) _ (lt_no p (20 + sh.cells) (b x y))
        | inr y ↦ and_no_right (nat_le 20 p) _ (lt_no p (20 + sh.cells) (omega arith))
      ]
    ]))
    (elim (cases_lt p 36) [
      | inl x ↦ and_no_left _ _ (le_no 36 p x)
      | inr x ↦ and_no_right (nat_le 36 p) _ (lt_no p (36 + sh.entries) (c x))
    ]))
    (eq_no p 88 (λ e. absurd (omega arith))))
    (eq_no p 89 (λ e. absurd (omega arith))))
    (and_no_left _ _ (le_no 90 p (omega arith))))
    (eq_no p 106 (λ e. absurd (omega arith))))
    (and_no_left _ _ (le_no 107 p (omega arith)))

empty_is : (xs : List Card) → IsTrue (is_empty xs) → length xs ≡ 0
empty_is [] h = refl
empty_is (x ∷ xs) h = cc

same_truth : (a b : Bool) → (a ≡ true → b ≡ true) → (b ≡ true → a ≡ true) → a ≡ b
same_truth true true f g = refl
same_truth true false f g = sym (f refl)
same_truth false true f g = g refl
same_truth false false f g = refl

module _ (l : Linked) (h : IsLinked l) where
  sizes_long : length l.links.sizes ≡ 315
  sizes_long = h.chained.sizes_length

  abbrev by : ℕ → Pile
  by i = record { cards = cards_at l i; face_down = face_at l i }

  no_size : l.links.low ≡ 0 → (p : ℕ) → p < 90 → cards_at l p ≡ []
  no_size e p lp =
      let long = sizes_long in let part = h.chained.open_part in
      let one = one_below_first l.links.sizes 90 p (omega arith) lp in
      let z : size_at l.links p ≡ 0 = omega arith in
      ap (λ n. up l.cards (chain l.links.under n (top_at l.links p))) z

  none_then : l.links.low ≡ 0 → has_none (board_of l) ≡ true
  none_then e =
      let a = h.sized.small.piles in let b = h.sized.small.cells in let r = h.sized.small.entries in
      let z : (p : ℕ) → p < 90 → cards_at l p ≡ [] = no_size e in
      and_both _ _ (and_both _ _ (and_both _ _ (and_both _ _
      (range_all (λ pile. is_empty pile.cards) by 0 l.shape.piles
      (λ i _ li. subst (λ xs. IsTrue (is_empty xs)) (sym (z i (omega arith))) refl))
      (range_all (λ e. is_none e) (λ i. top_of (cards_at l (20 + i))) 0 l.shape.cells
      (λ i _ li. subst (λ xs. IsTrue (is_none (top_of xs))) (sym (z (20 + i) (omega arith))) refl)))
      (range_all (λ e. is_none e) (λ i. top_of (cards_at l (36 + i))) 0 l.shape.entries
      (λ i _ li. subst (λ xs. IsTrue (is_none (top_of xs))) (sym (z (36 + i) (omega arith))) refl)))
      (subst (λ xs. IsTrue (is_empty xs)) (sym (z 89 (omega arith))) refl))
      (subst (λ xs. IsTrue (is_empty xs)) (sym (z 88 (omega arith))) refl)

  each_none : has_none (board_of l) ≡ true → (p : ℕ) → p < 90 → size_at l.links p ≡ 0
  each_none all p lp =
      let five = both _ _ all in
      let four = both _ _ five.0 in
      let three = both _ _ four.0 in
      let two = both _ _ three.0 in
      let size = size_is l p in
      let fa = h.sized.small.piles in let fb = h.sized.small.cells in let fc = h.sized.small.entries in
      elim (cases_lt p 20) [
        | inl x ↦ elim (cases_lt p l.shape.piles) [
          | inl y ↦
              let z = empty_is (cards_at l p) (range_each (λ pile. is_empty pile.cards) by 0 l.shape.piles p two.0
              (omega arith) (omega arith)) in
              omega arith
          | inr y ↦ h.outside p (omega arith) (outside_of l.shape p (omega arith)
              (λ _. y) fa (λ s _. absurd (omega arith)) fb (λ s. absurd (omega arith)))
        ]
        | inr x ↦ elim (cases_lt p 36) [
          | inl w ↦ elim (cases_lt p (20 + l.shape.cells)) [
            | inl y ↦
                let i : 20 + (p - 20) ≡ p = omega arith in
                let n = none_top (cards_at l (20 + (p - 20)))
                (range_each (λ e. is_none e) (λ k. top_of (cards_at l (20 + k))) 0 l.shape.cells (p - 20) two.1
                (omega arith) (omega arith)) in
                let z : length (cards_at l p) ≡ 0 = subst (λ q. length (cards_at l q) ≡ 0) i (ap length n) in
                omega arith
            | inr y ↦ h.outside p (omega arith) (outside_of l.shape p (omega arith)
                (λ s. absurd (omega arith)) fa (λ _ _. y) fb (λ s. absurd (omega arith)))
          ]
          | inr w ↦ elim (cases_lt p 88) [
            | inl v ↦ elim (cases_lt p (36 + l.shape.entries)) [
              | inl y ↦
                  let i : 36 + (p - 36) ≡ p = omega arith in
                  let n = none_top (cards_at l (36 + (p - 36)))
                  (range_each (λ e. is_none e) (λ k. top_of (cards_at l (36 + k))) 0 l.shape.entries (p - 36) three.1
                  (omega arith) (omega arith)) in
                  let z : length (cards_at l p) ≡ 0 = subst (λ q. length (cards_at l q) ≡ 0) i (ap length n) in
                  omega arith
              | inr y ↦ h.outside p (omega arith) (outside_of l.shape p v
                  (λ s. absurd (omega arith)) fa (λ s t. absurd (omega arith)) fb (λ _. y))
            ]
            | inr v ↦ elim (cases_eq p 88) [
              | inl e ↦
                  let z : length (cards_at l p) ≡ 0 =
                  ap (λ q. length (cards_at l q)) e ∙ empty_is (cards_at l 88) five.1 in
                  omega arith
              | inr ne ↦
                  let e : p ≡ 89 = omega arith in
                  let z : length (cards_at l p) ≡ 0 =
                  ap (λ q. length (cards_at l q)) e ∙ empty_is (cards_at l 89) four.1 in
                  omega arith
            ]
          ]
        ]
      ]

  none_only : has_none (board_of l) ≡ true → l.links.low ≡ 0
  none_only all =
      let long = sizes_long in let part = h.chained.open_part in
      let cut : length (take 90 l.links.sizes) ≡ 90 = length-take-le 90 l.links.sizes (omega arith) in
      let s = all_zero (take 90 l.links.sizes) (λ i li.
      get_or-take 90 l.links.sizes i 0 (omega arith) ∙ each_none all i (omega arith)) in
      sym part ∙ s

  zero_test : (n : ℕ) → nat_eq n 0 ≡ true → n ≡ 0
  zero_test n e = grind (arith, nat_tests)

  test_zero : (n : ℕ) → n ≡ 0 → nat_eq n 0 ≡ true
  test_zero n e = grind (arith, nat_tests)

  pub no_card_left : nat_eq l.links.low 0 ≡ has_none (board_of l)
  no_card_left = same_truth _ _ (λ e. none_then (zero_test l.links.low e))
      (λ all. test_zero l.links.low (none_only all))
