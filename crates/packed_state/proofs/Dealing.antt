-- Deals to the waste and to the hole, and redeals, are those of the board.
use Rattle.std.proofs.Common.{◌≡◌, ◌≢◌, ℕ, ◌-◌, ◌<◌, ◌≤◌, min, Bool, true, false, List, [], ◌∷◌, ◌++◌, length, reverse}
use Rattle.std.proofs.Common.{take, drop, refl, sym, ap, ap₂, ◌∙◌, subst, arith, length-drop}
use Rattle.std.specs.Prelude.{IsTrue, IsSome, Option, Some, None, nat_le, nat_eq, if◌then◌else◌}
use Rattle.std.proofs.lemmas.Bool.Decides.{nat_tests}
use Rattle.card_piles.specs.declared.Card.{Card}
use Rattle.game_rules.specs.declared.RuleParts.{RuleParts}
use Rattle.game_rules.specs.declared.Target.TheVariants.{ToWaste, ToHole}
use Rattle.game_rules.specs.Board.{Board, top_part, below_top}
use Rattle.game_rules.specs.Play.{after_deal_to, after_redeal, is_empty, is_legal_redeal}
use Rattle.game_rules.specs.Rules.{is_unlimited, deals_to_waste}
use Rattle.game_rules.proofs.Limits.{both}
use Rattle.card_links.specs.Chains.{Chains, size_at, shifted_each}
use Rattle.card_links.proofs.Each.{each, each_undone}
use Rattle.packed_state.specs.declared.Undo.TheVariants.{Dealt, Redealt}
use Rattle.packed_state.specs.Packed.{Linked, IsLinked, cards_at, board_of}
use Rattle.packed_state.specs.Turning.{IsList, turned, with_redeals}
use Rattle.packed_state.specs.Undoing.{before}
use Rattle.packed_state.proofs.Boards.{same_boards}
use Rattle.packed_state.proofs.Tops.{size_is}
use Rattle.packed_state.proofs.ListsTurned.{with_links, waste_list, stock_list, hole_list, turned_linked, turned_left}
use Rattle.packed_state.proofs.ListsTurned.{turned_there, turned_other}
use Rattle.packed_state.proofs.ListsTurned.{piles_stay, cells_stay, reserve_stays, heights_stay, slots_stay}

-- a list and the number of its cards
pub top_min : (xs : List Card) (n k : ℕ) → n ≡ length xs → top_part (min n k) xs ≡ top_part k xs
top_min xs n k e = let f : length xs - min n k ≡ length xs - k = omega arith in ap (λ (i : ℕ). drop i xs) f

pub below_min : (xs : List Card) (n k : ℕ) → n ≡ length xs → below_top (min n k) xs ≡ below_top k xs
below_min xs n k e = let f : length xs - min n k ≡ length xs - k = omega arith in ap (λ (i : ℕ). take i xs) f

reverse_one : (xs : List Card) → length xs ≤ 1 → reverse xs ≡ xs
reverse_one [] h = refl
reverse_one (x ∷ []) h = refl
reverse_one (x ∷ y ∷ xs) h = absurd (omega arith)

chosen : {X : Type 0} (b : Bool) (x : X) → IsTrue b → (if b then Some x else None) ≡ Some x
chosen true x h = refl
chosen false x h = cc

fits : (a b : ℕ) → a ≤ b → IsTrue (nat_le a b)
fits a b h = grind (arith, nat_tests)

module _ (l : Linked) (h : IsLinked l) (draw : ℕ) where
  abbrev n : ℕ
  n = min (size_at l.links 89) draw

  n_fits : n ≤ size_at l.links 89
  n_fits = omega arith

  waste_ne : ◌≢◌ {A = ℕ} 89 88
  waste_ne e = absurd (omega arith)

  pub waste_linked : IsLinked (turned l 89 88 (min (size_at l.links 89) draw))
  waste_linked = turned_linked l h 89 88 n (stock_list l) (waste_list l) waste_ne n_fits

  pub waste_board : (rules : RuleParts) → rules.draw ≡ draw
      → board_of (turned l 89 88 (min (size_at l.links 89) draw)) ≡ after_deal_to ToWaste rules (board_of l)
  waste_board rules e =
      same_boards _ _ _ _ _ _ _ _ _ _ _ _ _ _ l.redeals_left _ _
      (piles_stay l h 89 88 n (stock_list l) (waste_list l) waste_ne n_fits)
      (cells_stay l h 89 88 n (stock_list l) (waste_list l) waste_ne n_fits)
      (reserve_stays l h 89 88 n (stock_list l) (waste_list l) waste_ne n_fits)
      (turned_left l h 89 88 n (stock_list l) (waste_list l) waste_ne n_fits
      ∙ below_min (cards_at l 89) (size_at l.links 89) draw (size_is l 89)
      ∙ ap (λ k. below_top k (cards_at l 89)) (sym e))
      (turned_there l h 89 88 n (stock_list l) (waste_list l) waste_ne n_fits
      ∙ ap (λ xs. cards_at l 88 ++ reverse xs)
      (top_min (cards_at l 89) (size_at l.links 89) draw (size_is l 89) ∙ ap (λ k. top_part k (cards_at l 89)) (sym e)))
      (heights_stay l h 89 88 n (stock_list l) (waste_list l) waste_ne n_fits
      (λ i li q. absurd (omega arith)) (λ i li q. absurd (omega arith)))
      (turned_other l h 89 88 n (stock_list l) (waste_list l) waste_ne n_fits 106 (omega arith)
      (λ q. absurd (omega arith)) (λ q. absurd (omega arith)))
      (slots_stay l h 89 88 n (stock_list l) (waste_list l) waste_ne n_fits)

  pub waste_back : before (Dealt ToWaste (min (size_at l.links 89) draw))
      (turned l 89 88 (min (size_at l.links 89) draw)) ≡ Some l
  waste_back =
      let e = each 89 88 (omega arith) (omega arith) waste_ne l.links h.chained n n_fits in
      let t = e.there in
      chosen (nat_le n (size_at (shifted_each l.links 89 88 n) 88)) _ (fits _ _ (omega arith))
      ∙ ap (λ k. let y : Option Linked = Some (with_links l k) in y)
      (each_undone 89 88 (omega arith) (omega arith) waste_ne l.links h.chained n n_fits)

module _ (l : Linked) (h : IsLinked l) where
  abbrev m : ℕ
  m = min (size_at l.links 89) 1

  m_fits : m ≤ size_at l.links 89
  m_fits = omega arith

  hole_ne : ◌≢◌ {A = ℕ} 89 106
  hole_ne e = absurd (omega arith)

  pub hole_linked : IsLinked (turned l 89 106 (min (size_at l.links 89) 1))
  hole_linked = turned_linked l h 89 106 m (stock_list l) (hole_list l) hole_ne m_fits

  pub hole_board : (rules : RuleParts)
      → board_of (turned l 89 106 (min (size_at l.links 89) 1)) ≡ after_deal_to ToHole rules (board_of l)
  hole_board rules =
      let short : length (top_part 1 (cards_at l 89)) ≤ 1 =
      omega (arith, length-drop (length (cards_at l 89) - 1) (cards_at l 89)) in
      same_boards _ _ _ _ _ _ _ _ _ _ _ _ _ _ l.redeals_left _ _
      (piles_stay l h 89 106 m (stock_list l) (hole_list l) hole_ne m_fits)
      (cells_stay l h 89 106 m (stock_list l) (hole_list l) hole_ne m_fits)
      (reserve_stays l h 89 106 m (stock_list l) (hole_list l) hole_ne m_fits)
      (turned_left l h 89 106 m (stock_list l) (hole_list l) hole_ne m_fits
      ∙ below_min (cards_at l 89) (size_at l.links 89) 1 (size_is l 89))
      (turned_other l h 89 106 m (stock_list l) (hole_list l) hole_ne m_fits 88 (omega arith)
      (λ q. absurd (omega arith)) (λ q. absurd (omega arith)))
      (heights_stay l h 89 106 m (stock_list l) (hole_list l) hole_ne m_fits
      (λ i li q. absurd (omega arith)) (λ i li q. absurd (omega arith)))
      (turned_there l h 89 106 m (stock_list l) (hole_list l) hole_ne m_fits
      ∙ ap (λ xs. cards_at l 106 ++ xs)
      (ap reverse (top_min (cards_at l 89) (size_at l.links 89) 1 (size_is l 89))
      ∙ reverse_one (top_part 1 (cards_at l 89)) short))
      (slots_stay l h 89 106 m (stock_list l) (hole_list l) hole_ne m_fits)

  pub hole_back : before (Dealt ToHole (min (size_at l.links 89) 1))
      (turned l 89 106 (min (size_at l.links 89) 1)) ≡ Some l
  hole_back =
      let e = each 89 106 (omega arith) (omega arith) hole_ne l.links h.chained m m_fits in
      let t = e.there in
      chosen (nat_le m (size_at (shifted_each l.links 89 106 m) 106)) _ (fits _ _ (omega arith))
      ∙ ap (λ k. let y : Option Linked = Some (with_links l k) in y)
      (each_undone 89 106 (omega arith) (omega arith) hole_ne l.links h.chained m m_fits)

-- what the code of a turn needs and makes
module _ (c d : Linked) (view : c ≡ d) (h : IsLinked c) (a b n : ℕ) (la : IsList d a) (lb : IsList d b)
    (ne : a ≢ b) (enough : n ≤ size_at d.links a) where
  pub turn_a : a < 315
  turn_a = let x = la.low in omega arith

  pub turn_b : b < 315
  turn_b = let x = lb.low in omega arith

  pub turn_enough : n ≤ size_at c.links a
  turn_enough = subst (λ x. n ≤ size_at x.links a) (sym view) enough

  pub turn_made : (k : Chains) → k ≡ shifted_each c.links a b n → IsLinked (with_links c k)
  turn_made k e =
      subst (λ x. IsLinked (with_links c x)) (sym e)
      (turned_linked c h a b n (subst (λ x. IsList x a) (sym view) la)
      (subst (λ x. IsList x b) (sym view) lb) ne turn_enough)

pub redeals_linked : (l : Linked) (n : ℕ) → IsLinked l → IsLinked (with_redeals l n)
redeals_linked l n h = record {
  chained = h.chained;
  sized = h.sized;
  faces = h.faces;
  outside = h.outside;
  singles = h.singles;
}

all_top : (xs : List Card) (n : ℕ) → n ≡ length xs → top_part n xs ≡ xs
all_top xs n e = let f : length xs - n ≡ 0 = omega arith in ap (λ (i : ℕ). drop i xs) f

none_below : (xs : List Card) (n : ℕ) → n ≡ length xs → below_top n xs ≡ []
none_below xs n e = let f : length xs - n ≡ 0 = omega arith in ap (λ (i : ℕ). take i xs) f

empty_is : (xs : List Card) → IsTrue (is_empty xs) → xs ≡ []
empty_is [] h = refl
empty_is (x ∷ xs) h = cc

module _ (l : Linked) (h : IsLinked l) where
  turn_ne : ◌≢◌ {A = ℕ} 88 89
  turn_ne e = absurd (omega arith)

  whole : size_at l.links 88 ≤ size_at l.links 88
  whole = omega arith

  pub redeal_board : (rules : RuleParts) → IsTrue (is_empty (board_of l).stock)
      → board_of (with_redeals (turned l 88 89 (size_at l.links 88))
      (if is_unlimited rules.redeals then l.redeals_left else l.redeals_left - 1)) ≡ after_redeal rules (board_of l)
  redeal_board rules none =
      same_boards _ _ _ _ _ _ _ _ _ _ _ _ _ _ _ _ _
      (piles_stay l h 88 89 (size_at l.links 88) (waste_list l) (stock_list l) turn_ne whole)
      (cells_stay l h 88 89 (size_at l.links 88) (waste_list l) (stock_list l) turn_ne whole)
      (reserve_stays l h 88 89 (size_at l.links 88) (waste_list l) (stock_list l) turn_ne whole)
      (turned_there l h 88 89 (size_at l.links 88) (waste_list l) (stock_list l) turn_ne whole
      ∙ ap₂ (λ xs ys. xs ++ reverse ys) (empty_is (cards_at l 89) none)
      (all_top (cards_at l 88) (size_at l.links 88) (size_is l 88)))
      (turned_left l h 88 89 (size_at l.links 88) (waste_list l) (stock_list l) turn_ne whole
      ∙ none_below (cards_at l 88) (size_at l.links 88) (size_is l 88))
      (heights_stay l h 88 89 (size_at l.links 88) (waste_list l) (stock_list l) turn_ne whole
      (λ i li q. absurd (omega arith)) (λ i li q. absurd (omega arith)))
      (turned_other l h 88 89 (size_at l.links 88) (waste_list l) (stock_list l) turn_ne whole 106 (omega arith)
      (λ q. absurd (omega arith)) (λ q. absurd (omega arith)))
      (slots_stay l h 88 89 (size_at l.links 88) (waste_list l) (stock_list l) turn_ne whole)

  no_number : (n : ℕ) → n ≡ 0 → IsTrue (nat_eq n 0)
  no_number n e = grind (arith, nat_tests)

  abbrev dealt : Chains
  dealt = shifted_each l.links 88 89 (size_at l.links 88)

  pub redeal_back : (r : ℕ) → IsTrue (is_empty (board_of l).stock)
      → before (Redealt l.redeals_left) (with_redeals (turned l 88 89 (size_at l.links 88)) r) ≡ Some l
  redeal_back r none =
      let e = each 88 89 (omega arith) (omega arith) turn_ne l.links h.chained (size_at l.links 88) whole in
      let t = e.there in let s = e.left in
      let zero_stock : length (cards_at l 89) ≡ 0 = ap length (empty_is (cards_at l 89) none) in
      let size = size_is l 89 in
      let back_count : size_at dealt 89 ≡ size_at l.links 88 = omega arith in
      let links : shifted_each dealt 89 88 (size_at dealt 89) ≡ l.links =
      ap (λ k. shifted_each dealt 89 88 k) back_count
      ∙ each_undone 88 89 (omega arith) (omega arith) turn_ne l.links h.chained (size_at l.links 88) whole in
      chosen (nat_eq (size_at dealt 88) 0) _ (no_number _ (omega arith))
      ∙ ap (λ k. let y : Option Linked = Some (with_links l k) in y) links

-- what an undo says that can be taken back
pub fits_of : {X : Type 0} (b : Bool) (x : X) → IsSome (if b then Some x else None) → IsTrue b
fits_of true x h = refl
fits_of false x h = cc

pub is_some_of : {X : Type 0} (b : Bool) (x : X) → IsTrue b → (if b then Some x else None) ≡ Some x
is_some_of b x h = chosen b x h

pub at_most_of : (a b : ℕ) → IsTrue (nat_le a b) → a ≤ b
at_most_of a b h = grind (arith, nat_tests)

pub before_legal_redeal : (rules : RuleParts) (board : Board)
    → IsTrue (is_legal_redeal rules board) → IsTrue (is_empty board.stock)
before_legal_redeal rules board legal =
    let to_left = both _ _ legal in
    let to_waste = both _ _ to_left.0 in
    let to_stock = both (deals_to_waste rules.target) (is_empty board.stock) to_waste.0 in
    to_stock.1
