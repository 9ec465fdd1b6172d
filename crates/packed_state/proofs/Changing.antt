-- What a carry changes of the slots under slots, and of the top slots.
use Rattle.std.proofs.Common.{◌≡◌, ◌≢◌, ℕ, zero, suc, ◌+◌, ◌-◌, ◌<◌, ◌≤◌, Bool, true, false, refl, sym, ap, ap₂}
use Rattle.std.proofs.Common.{◌∙◌, subst, arith, inl, inr}
use Rattle.std.specs.Prelude.{Option, Some, None, IsTrue, nat_lt, nat_eq, if◌then◌else◌}
use Rattle.std.proofs.lemmas.Bool.{cases_lt, cases_eq}
use Rattle.std.proofs.lemmas.List.{get_or-set_other}
use Rattle.std.proofs.lemmas.Bool.Decides.{nat_tests}
use Rattle.game_rules.specs.declared.RuleParts.{RuleParts}
use Rattle.game_rules.specs.declared.Place.{Place}
use Rattle.game_rules.specs.declared.Place.TheVariants.{Tableau, Cell, Reserve, Waste, Foundation, Hole, Slot}
use Rattle.card_links.specs.Chains.{Chains, link, top_at, size_at, slot_at}
use Rattle.card_links.proofs.Shifting.{at_other}
use Rattle.packed_state.specs.declared.Shape.{Shape}
use Rattle.packed_state.specs.declared.Spot.{Spot}
use Rattle.packed_state.specs.Packed.{Linked, IsLinked, index_of, source_of, shape_after, is_place, is_single}
use Rattle.packed_state.specs.Undoing.{CanCarry, first_slot, gone}
use Rattle.packed_state.specs.Slots.{slot_on, top_slot, before_entry, under_last, under_slot, part_of, ChangesCarried}
use Rattle.packed_state.proofs.Linking.{can_shift, other_size, below_of}

-- the tests of a slot that agree
same_test : (b : Bool) (x y z : Option ℕ) → x ≡ y → (if b then x else z) ≡ (if b then y else z)
same_test b x y z e = ap (λ (o : Option ℕ). let r : Option ℕ = (if b then o else z) in r) e

-- entries whose tops and sizes are as they were
before_same : (c d : Chains) (n slot : ℕ) → ((i : ℕ) → i ≤ n → top_at d (36 + i) ≡ top_at c (36 + i))
    → ((i : ℕ) → i ≤ n → size_at d (36 + i) ≡ size_at c (36 + i)) → before_entry d n slot ≡ before_entry c n slot
before_same c d zero slot tops sizes = refl
before_same c d (suc n) slot tops sizes =
    ap₂ (λ (t : ℕ) (o : Option ℕ). let r : Option ℕ = (if nat_eq t slot then slot_on d (36 + n) else o) in r)
    (tops (suc n) (omega arith))
    (before_same c d n slot (λ i li. tops i (omega arith)) (λ i li. sizes i (omega arith)))
    ∙ ap₂ (λ (s t : ℕ). let r : Option ℕ = (if nat_eq (top_at c (36 + suc n)) slot
    then (if nat_eq s 0 then None else Some t) else before_entry c n slot) in r)
    (sizes n (omega arith)) (tops n (omega arith))

zero_yes : (i : ℕ) (x : Option ℕ) → i ≡ 0 → (if nat_eq i 0 then x else None) ≡ x
zero_yes i x h = grind (arith, nat_tests)

zero_no : (i : ℕ) (x : Option ℕ) → i ≢ 0 → (if nat_eq i 0 then x else None) ≡ None
zero_no i x h = grind (arith, nat_tests)

below_yes : (i n : ℕ) (x : Option ℕ) → i < n → (if nat_lt i n then x else None) ≡ x
below_yes i n x h = grind (arith, nat_tests)

below_no : (i n : ℕ) (x : Option ℕ) → n ≤ i → (if nat_lt i n then x else None) ≡ None
below_no i n x h = grind (arith, nat_tests)

single_entry : (i : ℕ) → i < 52 → is_single (36 + i) ≡ true
single_entry i lt = grind (arith, nat_tests)

-- a place is one of the reserve or none
reserve_or : (place : Place) (P : Type 0) → ((i : ℕ) → place ≡ Reserve i → P)
    → (((i : ℕ) → place ≡ Reserve i → ⊥) → P) → P
reserve_or (Tableau i) P f g = g (λ j e. cc)
reserve_or (Cell i) P f g = g (λ j e. cc)
reserve_or (Reserve i) P f g = f i refl
reserve_or Waste P f g = g (λ j e. cc)
reserve_or (Foundation i) P f g = g (λ j e. cc)
reserve_or Hole P f g = g (λ j e. cc)
reserve_or (Slot i) P f g = g (λ j e. cc)

source_is : (v : Bool) (sh : Shape) (place : Place) → ((i : ℕ) → place ≡ Reserve i → ⊥)
    → source_of v sh place ≡ index_of place
source_is v sh (Tableau i) other = refl
source_is v sh (Cell i) other = refl
source_is v sh (Reserve i) other = absurd (other i refl)
source_is v sh Waste other = refl
source_is v sh (Foundation i) other = refl
source_is v sh Hole other = refl
source_is v sh (Slot i) other = refl

shape_is : (v : Bool) (sh : Shape) (place : Place) → ((i : ℕ) → place ≡ Reserve i → ⊥) → shape_after v sh place ≡ sh
shape_is v sh (Tableau i) other = refl
shape_is v sh (Cell i) other = refl
shape_is v sh (Reserve i) other = absurd (other i refl)
shape_is v sh Waste other = refl
shape_is v sh (Foundation i) other = refl
shape_is v sh Hole other = refl
shape_is v sh (Slot i) other = refl

-- the counts of other places stay
shape_parts : (v : Bool) (sh : Shape) (place : Place)
    → ((shape_after v sh place).piles ≡ sh.piles) × ((shape_after v sh place).cells ≡ sh.cells)
    × ((shape_after v sh place).slots ≡ sh.slots)
shape_parts v sh (Tableau i) = (refl, refl, refl)
shape_parts v sh (Cell i) = (refl, refl, refl)
shape_parts true sh (Reserve i) = (refl, refl, refl)
shape_parts false sh (Reserve i) = (refl, refl, refl)
shape_parts v sh Waste = (refl, refl, refl)
shape_parts v sh (Foundation i) = (refl, refl, refl)
shape_parts v sh Hole = (refl, refl, refl)
shape_parts v sh (Slot i) = (refl, refl, refl)

if_same : (v : Bool) (x y : Option ℕ) → (v ≡ true → x ≡ y) → (if v then x else None) ≡ (if v then y else None)
if_same true x y f = f refl
if_same false x y f = refl

both_same : (v : Bool) (x y u w : Option ℕ) → (v ≡ true → x ≡ y) → (v ≡ false → u ≡ w)
    → (if v then x else u) ≡ (if v then y else w)
both_same true x y u w f g = f refl
both_same false x y u w f g = g refl

zero_same : (i : ℕ) (x y : Option ℕ) → (i ≡ 0 → x ≡ y) → (if nat_eq i 0 then x else None)
    ≡ (if nat_eq i 0 then y else None)
zero_same i x y f = elim (cases_eq i 0) [
  | inl e ↦ zero_yes i x e ∙ f e ∙ sym (zero_yes i y e)
  | inr ne ↦ zero_no i x ne ∙ sym (zero_no i y ne)
]

below_same : (i m n : ℕ) (x y : Option ℕ) → m ≡ n → (i < n → x ≡ y)
    → (if nat_lt i m then x else None) ≡ (if nat_lt i n then y else None)
below_same i m n x y e f =
    ap (λ (k : ℕ). let r : Option ℕ = (if nat_lt i k then x else None) in r) e
    ∙ elim (cases_lt i n) [
      | inl lt ↦ below_yes i n x lt ∙ f lt ∙ sym (below_yes i n y lt)
      | inr ge ↦ below_no i n x ge ∙ sym (below_no i n y ge)
    ]

number_other : (a b : ℕ) (o p : Option ℕ) → a ≢ b → (if nat_eq a b then o else p) ≡ p
number_other a b o p h = grind (arith, nat_tests)

module _ (l : Linked) (h : IsLinked l) where
  -- places with one number are one
  same_at : (place target : Place) → IsTrue (is_place l.shape place) → IsTrue (is_place l.shape target)
      → index_of place ≡ index_of target → place ≡ target
  same_at (Tableau i) (Tableau j) p q e = let same : i ≡ j = omega arith in ap Tableau same
  same_at (Tableau i) (Cell j) p q e = let x = below_of _ _ p in let u = h.sized.small.piles in let y =
      below_of _ _ q in
      let w = h.sized.small.cells in absurd (omega arith)
  same_at (Tableau i) (Reserve j) p q e = let x = below_of _ _ p in let u = h.sized.small.piles in let y =
      below_of _ _ q in
      let w = h.sized.small.entries in absurd (omega arith)
  same_at (Tableau i) Waste p q e = let x = below_of _ _ p in let u = h.sized.small.piles in absurd (omega arith)
  same_at (Tableau i) (Foundation j) p q e = let x = below_of _ _ p in let u = h.sized.small.piles in let y =
      below_of _ _ q in
      let w = h.sized.small.foundations in absurd (omega arith)
  same_at (Tableau i) Hole p q e = let x = below_of _ _ p in let u = h.sized.small.piles in absurd (omega arith)
  same_at (Tableau i) (Slot j) p q e = let x = below_of _ _ p in let u = h.sized.small.piles in let y =
      below_of _ _ q in
      let w = h.sized.small.slots in absurd (omega arith)
  same_at (Cell i) (Tableau j) p q e = let x = below_of _ _ p in let u = h.sized.small.cells in let y =
      below_of _ _ q in
      let w = h.sized.small.piles in absurd (omega arith)
  same_at (Cell i) (Cell j) p q e = let same : i ≡ j = omega arith in ap Cell same
  same_at (Cell i) (Reserve j) p q e = let x = below_of _ _ p in let u = h.sized.small.cells in let y =
      below_of _ _ q in
      let w = h.sized.small.entries in absurd (omega arith)
  same_at (Cell i) Waste p q e = let x = below_of _ _ p in let u = h.sized.small.cells in absurd (omega arith)
  same_at (Cell i) (Foundation j) p q e = let x = below_of _ _ p in let u = h.sized.small.cells in let y =
      below_of _ _ q in
      let w = h.sized.small.foundations in absurd (omega arith)
  same_at (Cell i) Hole p q e = let x = below_of _ _ p in let u = h.sized.small.cells in absurd (omega arith)
  same_at (Cell i) (Slot j) p q e = let x = below_of _ _ p in let u = h.sized.small.cells in let y = below_of _ _ q in
      let w =
      h.sized.small.slots in absurd (omega arith)
  same_at (Reserve i) (Tableau j) p q e = let x = below_of _ _ p in let u = h.sized.small.entries in let y =
      below_of _ _ q in
      let w = h.sized.small.piles in absurd (omega arith)
  same_at (Reserve i) (Cell j) p q e = let x = below_of _ _ p in let u = h.sized.small.entries in let y =
      below_of _ _ q in
      let w = h.sized.small.cells in absurd (omega arith)
  same_at (Reserve i) (Reserve j) p q e = let same : i ≡ j = omega arith in ap Reserve same
  same_at (Reserve i) Waste p q e = let x = below_of _ _ p in let u = h.sized.small.entries in absurd (omega arith)
  same_at (Reserve i) (Foundation j) p q e = let x = below_of _ _ p in let u = h.sized.small.entries in let y =
      below_of _ _ q in let w = h.sized.small.foundations in absurd (omega arith)
  same_at (Reserve i) Hole p q e = let x = below_of _ _ p in let u = h.sized.small.entries in absurd (omega arith)
  same_at (Reserve i) (Slot j) p q e = let x = below_of _ _ p in let u = h.sized.small.entries in let y =
      below_of _ _ q in
      let w = h.sized.small.slots in absurd (omega arith)
  same_at Waste (Tableau j) p q e = let y = below_of _ _ q in let w = h.sized.small.piles in absurd (omega arith)
  same_at Waste (Cell j) p q e = let y = below_of _ _ q in let w = h.sized.small.cells in absurd (omega arith)
  same_at Waste (Reserve j) p q e = let y = below_of _ _ q in let w = h.sized.small.entries in absurd (omega arith)
  same_at Waste Waste p q e = refl
  same_at Waste (Foundation j) p q e = let y = below_of _ _ q in let w = h.sized.small.foundations in
      absurd (omega arith)
  same_at Waste Hole p q e = absurd (omega arith)
  same_at Waste (Slot j) p q e = let y = below_of _ _ q in let w = h.sized.small.slots in absurd (omega arith)
  same_at (Foundation i) (Tableau j) p q e = let x = below_of _ _ p in let u = h.sized.small.foundations in let y =
      below_of _ _ q in let w = h.sized.small.piles in absurd (omega arith)
  same_at (Foundation i) (Cell j) p q e = let x = below_of _ _ p in let u = h.sized.small.foundations in let y =
      below_of _ _ q in let w = h.sized.small.cells in absurd (omega arith)
  same_at (Foundation i) (Reserve j) p q e = let x = below_of _ _ p in let u = h.sized.small.foundations in let y =
      below_of _ _ q in let w = h.sized.small.entries in absurd (omega arith)
  same_at (Foundation i) Waste p q e = let x = below_of _ _ p in let u = h.sized.small.foundations in
      absurd (omega arith)
  same_at (Foundation i) (Foundation j) p q e = let same : i ≡ j = omega arith in ap Foundation same
  same_at (Foundation i) Hole p q e = let x = below_of _ _ p in let u = h.sized.small.foundations in
      absurd (omega arith)
  same_at (Foundation i) (Slot j) p q e = let x = below_of _ _ p in let u = h.sized.small.foundations in let y =
      below_of _ _ q in let w = h.sized.small.slots in absurd (omega arith)
  same_at Hole (Tableau j) p q e = let y = below_of _ _ q in let w = h.sized.small.piles in absurd (omega arith)
  same_at Hole (Cell j) p q e = let y = below_of _ _ q in let w = h.sized.small.cells in absurd (omega arith)
  same_at Hole (Reserve j) p q e = let y = below_of _ _ q in let w = h.sized.small.entries in absurd (omega arith)
  same_at Hole Waste p q e = absurd (omega arith)
  same_at Hole (Foundation j) p q e = let y = below_of _ _ q in let w = h.sized.small.foundations in
      absurd (omega arith)
  same_at Hole Hole p q e = refl
  same_at Hole (Slot j) p q e = let y = below_of _ _ q in let w = h.sized.small.slots in absurd (omega arith)
  same_at (Slot i) (Tableau j) p q e = let x = below_of _ _ p in let u = h.sized.small.slots in let y =
      below_of _ _ q in
      let w = h.sized.small.piles in absurd (omega arith)
  same_at (Slot i) (Cell j) p q e = let x = below_of _ _ p in let u = h.sized.small.slots in let y = below_of _ _ q in
      let w =
      h.sized.small.cells in absurd (omega arith)
  same_at (Slot i) (Reserve j) p q e = let x = below_of _ _ p in let u = h.sized.small.slots in let y =
      below_of _ _ q in
      let w = h.sized.small.entries in absurd (omega arith)
  same_at (Slot i) Waste p q e = let x = below_of _ _ p in let u = h.sized.small.slots in absurd (omega arith)
  same_at (Slot i) (Foundation j) p q e = let x = below_of _ _ p in let u = h.sized.small.slots in let y =
      below_of _ _ q in
      let w = h.sized.small.foundations in absurd (omega arith)
  same_at (Slot i) Hole p q e = let x = below_of _ _ p in let u = h.sized.small.slots in absurd (omega arith)
  same_at (Slot i) (Slot j) p q e = let same : i ≡ j = omega arith in ap Slot same

  -- a place that is none of the reserve
  away : (place : Place) (k : ℕ) → k < 52 → ((i : ℕ) → place ≡ Reserve i → ⊥) → IsTrue (is_place l.shape place)
      → 36 + k ≢ index_of place
  away (Tableau i) k lk other p e = let x = below_of _ _ p in let u = h.sized.small.piles in omega arith
  away (Cell i) k lk other p e = let x = below_of _ _ p in let u = h.sized.small.cells in omega arith
  away (Reserve i) k lk other p e = other i refl
  away Waste k lk other p e = omega arith
  away (Foundation i) k lk other p e = let x = below_of _ _ p in let u = h.sized.small.foundations in omega arith
  away Hole k lk other p e = omega arith
  away (Slot i) k lk other p e = let x = below_of _ _ p in let u = h.sized.small.slots in omega arith

  not_stock : (place : Place) → IsTrue (is_place l.shape place) → 89 ≢ index_of place
  not_stock (Tableau i) p e = let x = below_of _ _ p in let u = h.sized.small.piles in omega arith
  not_stock (Cell i) p e = let x = below_of _ _ p in let u = h.sized.small.cells in omega arith
  not_stock (Reserve i) p e = let x = below_of _ _ p in let u = h.sized.small.entries in omega arith
  not_stock Waste p e = omega arith
  not_stock (Foundation i) p e = let x = below_of _ _ p in let u = h.sized.small.foundations in omega arith
  not_stock Hole p e = omega arith
  not_stock (Slot i) p e = let x = below_of _ _ p in let u = h.sized.small.slots in omega arith

  not_stock_source : (v : Bool) (place : Place) → IsTrue (is_place l.shape place) → 89 ≢ source_of v l.shape place
  not_stock_source v (Tableau i) p e = not_stock (Tableau i) p e
  not_stock_source v (Cell i) p e = not_stock (Cell i) p e
  not_stock_source true (Reserve i) p e = let x = below_of _ _ p in let u = h.sized.small.entries in omega arith
  not_stock_source false (Reserve i) p e = not_stock (Reserve i) p e
  not_stock_source v Waste p e = not_stock Waste p e
  not_stock_source v (Foundation i) p e = not_stock (Foundation i) p e
  not_stock_source v Hole p e = not_stock Hole p e
  not_stock_source v (Slot i) p e = not_stock (Slot i) p e

module _ (rules : RuleParts) (l : Linked) (h : IsLinked l) (from to : Place) (count : ℕ)
    (can : CanCarry rules.stacked l from to count) (there : (i : ℕ) → to ≡ Reserve i → ⊥)
    (alike : (i : ℕ) → from ≡ Reserve i → l.stacked ≡ rules.stacked)
    (first : (i : ℕ) → from ≡ Reserve i → rules.stacked ≡ true → i ≡ 0) where
  abbrev a : ℕ
  a = source_of rules.stacked l.shape from

  abbrev b : ℕ
  b = index_of to

  abbrev g : Linked
  g = gone rules l from to count

  tops_other : (p : ℕ) → p ≢ a → p ≢ b → top_at g.links p ≡ top_at l.links p
  tops_other p na nb = at_other l.links.tops a b p _ _ 255 na nb

  sizes_other : (p : ℕ) → p ≢ a → p ≢ b → size_at g.links p ≡ size_at l.links p
  sizes_other p na nb = other_size l h a b count (can_shift rules.stacked l h from to count can) p na nb

  slots_other : (p : ℕ) → p ≢ a → p ≢ b → slot_on g.links p ≡ slot_on l.links p
  slots_other p na nb =
      ap₂ (λ (s t : ℕ). let r : Option ℕ = (if nat_eq s 0 then None else Some t) in
      r) (sizes_other p na nb) (tops_other p na nb)

  links_other : (s : ℕ) → s ≢ first_slot l a count → link g.links.under s ≡ link l.links.under s
  links_other s ne = get_or-set_other l.links.under (slot_at l.links a (count - 1)) s (top_at l.links b) 255 ne

  -- a stacked reserve that gives its last card
  module _ (i : ℕ) (e : from ≡ Reserve i) (st : rules.stacked ≡ true) where
    last_is : a ≡ 36 + (l.shape.entries - 1)
    last_is = ap₂ (λ x y. source_of x l.shape y) st e

    less_is : g.shape.entries ≡ l.shape.entries - 1
    less_is = ap₂ (λ x y. (shape_after x l.shape y).entries) st e

    some_entry : 0 < l.shape.entries
    some_entry = let b = below_of _ _ (subst (λ x. IsTrue (is_place l.shape x)) e can.from_place) in omega arith

    top_first : first_slot l a count ≡ top_at l.links (36 + (l.shape.entries - 1))
    top_first =
        let few = h.sized.small.entries in let some = some_entry in let last = last_is in
        let low : a < 315 = (can_shift rules.stacked l h from to count can).from_below in
        let one = h.singles a low
        (subst (λ x. is_single x ≡ true) (sym last_is) (single_entry (l.shape.entries - 1) (omega arith))) in
        let enough = can.enough in let count_some = can.some in
        let none : count - 1 ≡ 0 = omega arith in
        ap₂ (λ x n. slot_at l.links x n) last_is none

    entry_away : (k : ℕ) → k < l.shape.entries - 1 → (36 + k ≢ a) × (36 + k ≢ b)
    entry_away k lk =
        let few = h.sized.small.entries in let last = last_is in
        (λ q. omega arith, away l h to k (omega arith) there can.to_place)

    before_less : (n : ℕ) (s : ℕ) → n ≡ l.shape.entries - 1 → s ≢ top_at l.links (36 + n)
        → before_entry g.links (n - 1) s ≡ before_entry l.links n s
    before_less zero s en ne = refl
    before_less (suc m) s en ne =
        let down : suc m - 1 ≡ m = omega arith in
        ap (λ (k : ℕ). before_entry g.links k s) down
        ∙ before_same l.links g.links m s
        (λ k lk. tops_other (36 + k) (entry_away k (omega arith)).0 (entry_away k (omega arith)).1)
        (λ k lk. sizes_other (36 + k) (entry_away k (omega arith)).0 (entry_away k (omega arith)).1)
        ∙ sym (number_other (top_at l.links (36 + suc m)) s _ _ (λ q. ne (sym q)))

    stacked_last : (s : ℕ) → s ≢ first_slot l a count
        → before_entry g.links (g.shape.entries - 1) s ≡ before_entry l.links (l.shape.entries - 1) s
    stacked_last s ne =
        ap (λ (k : ℕ). before_entry g.links (k - 1) s) less_is
        ∙ before_less (l.shape.entries - 1) s refl (λ q. ne (q ∙ sym top_first))

  -- a carry from another place
  module _ (other : (i : ℕ) → from ≡ Reserve i → ⊥) where
    shape_same : g.shape ≡ l.shape
    shape_same = shape_is rules.stacked l.shape from other

    all_away : (k : ℕ) → k < 52 → (36 + k ≢ a) × (36 + k ≢ b)
    all_away k lk =
        let same = source_is rules.stacked l.shape from other in
        let not_from = away l h from k lk other can.from_place in
        (λ q. not_from (q ∙ same), away l h to k lk there can.to_place)

    other_last : (s : ℕ) → before_entry g.links (g.shape.entries - 1) s ≡ before_entry l.links (l.shape.entries - 1) s
    other_last s =
        let few = h.sized.small.entries in
        ap (λ (x : Shape). before_entry g.links (x.entries - 1) s) shape_same
        ∙ before_same l.links g.links (l.shape.entries - 1) s
        (λ k lk. tops_other (36 + k) (all_away k (omega arith)).0 (all_away k (omega arith)).1)
        (λ k lk. sizes_other (36 + k) (all_away k (omega arith)).0 (all_away k (omega arith)).1)

  last_same : (s : ℕ) → s ≢ first_slot l a count → under_last g s ≡ under_last l s
  last_same s ne =
      if_same l.stacked _ _
      (λ st.
      reserve_or from (before_entry g.links (g.shape.entries - 1) s ≡ before_entry l.links (l.shape.entries - 1) s)
      (λ i e. stacked_last i e (sym (alike i e) ∙ st) s ne)
      (λ other. other_last other s))

  under_same : (s : ℕ) → s ≢ first_slot l a count → under_slot g s ≡ under_slot l s
  under_same s ne =
      ap₂ (λ (x : ℕ) (o : Option ℕ). let r : Option ℕ = (if nat_lt s l.links.used
      then (if nat_eq x 255 then o else Some x) else None) in r) (links_other s ne) (last_same s ne)

  entry_number : (v : Bool) (i : ℕ) → IsTrue (is_place l.shape (Reserve i)) → (target : Place)
      → IsTrue (is_place l.shape target) → ((j : ℕ) → target ≡ Reserve j → ⊥)
      → index_of target ≡ source_of v l.shape (Reserve i) → ⊥
  entry_number true i place target p none q =
      let b = below_of _ _ place in let few = h.sized.small.entries in
      away l h target (l.shape.entries - 1) (omega arith) none p (sym q)
  entry_number false i place target p none q =
      let b = below_of _ _ place in let few = h.sized.small.entries in
      away l h target i (omega arith) none p (sym q)

  entry_source : (i : ℕ) → from ≡ Reserve i → (target : Place) → IsTrue (is_place l.shape target)
      → ((j : ℕ) → target ≡ Reserve j → ⊥) → index_of target ≡ a → ⊥
  entry_source i e target p none q =
      let here : a ≡ source_of rules.stacked l.shape (Reserve i) = ap (source_of rules.stacked l.shape) e in
      let place : IsTrue (is_place l.shape (Reserve i)) = subst (λ x. IsTrue (is_place l.shape x)) e can.from_place in
      entry_number rules.stacked i place target p none (q ∙ here)

  -- a place that is neither of the two
  not_source : (target : Place) → IsTrue (is_place l.shape target) → ((i : ℕ) → target ≡ Reserve i → ⊥) → from ≢ target
      → index_of target ≢ a
  not_source target p none ne q =
      reserve_or from ⊥
      (λ i e. entry_source i e target p none q)
      (λ other. ne (same_at l h from target can.from_place p (sym (q ∙ source_is rules.stacked l.shape from other))))

  not_target : (target : Place) → IsTrue (is_place l.shape target) → to ≢ target → index_of target ≢ b
  not_target target p ne q = ne (same_at l h to target can.to_place p (sym q))

  top_other : (target : Place) → IsTrue (is_place l.shape target) → ((i : ℕ) → target ≡ Reserve i → ⊥) → from ≢ target
      → to ≢ target → slot_on g.links (index_of target) ≡ slot_on l.links (index_of target)
  top_other target p none nf nt = slots_other (index_of target) (not_source target p none nf) (not_target target p nt)

  listed : (i n : ℕ) → i < n → IsTrue (nat_lt i n)
  listed i n lt = grind (arith, nat_tests)

  reserve_top : (i : ℕ) → part_of from ≢ Some (Spot.Reserve i)
      → top_slot g (Spot.Reserve i) ≡ top_slot l (Spot.Reserve i)
  reserve_top i ne =
      let few = h.sized.small.entries in
      reserve_or from (top_slot g (Spot.Reserve i) ≡ top_slot l (Spot.Reserve i))
      (λ j e.
      both_same l.stacked _ _ _ _
      (λ st.
      let zero_j = first j e (sym (alike j e) ∙ st) in
      zero_same i _ _
      (λ zero_i. absurd (ne (ap part_of e ∙ ap (λ (k : ℕ). let o : Option Spot = Some (Spot.Reserve k) in o)
      (zero_j ∙ sym zero_i)))))
      (λ st.
      let plain = sym (alike j e) ∙ st in
      let here : a ≡ 36 + j = ap₂ (λ x y. source_of x l.shape y) plain e in
      let same : g.shape.entries ≡ l.shape.entries = ap₂ (λ x y. (shape_after x l.shape y).entries) plain e in
      below_same i g.shape.entries l.shape.entries _ _ same
      (λ li. slots_other (36 + i)
      (λ q. let eq : i ≡ j = omega arith in
      ne (ap part_of e ∙ ap (λ (k : ℕ). let o : Option Spot = Some (Spot.Reserve k) in o) (sym eq)))
      (away l h to i (omega arith) there can.to_place))))
      (λ other.
      both_same l.stacked _ _ _ _
      (λ st. zero_same i _ _ (λ zero_i.
      ap (λ (x : Shape). slot_on g.links (36 + (x.entries - 1))) (shape_same other)
      ∙ slots_other (36 + (l.shape.entries - 1)) (all_away other (l.shape.entries - 1) (omega arith)).0
      (all_away other (l.shape.entries - 1) (omega arith)).1))
      (λ st.
      below_same i g.shape.entries l.shape.entries _ _ (ap (λ (x : Shape). x.entries) (shape_same other))
      (λ li. slots_other (36 + i) (all_away other i (omega arith)).0 (all_away other i (omega arith)).1)))

  not_part : (place target : Place) (spot : Spot) → part_of target ≡ Some spot → part_of place ≢ Some spot
      → place ≢ target
  not_part place target spot is ne e = ne (ap part_of e ∙ is)

  tops_same : (spot : Spot) → part_of from ≢ Some spot → part_of to ≢ Some spot → top_slot g spot ≡ top_slot l spot
  tops_same (Spot.Pile i) nf nt =
      below_same i g.shape.piles l.shape.piles _ _ (shape_parts rules.stacked l.shape from).0
      (λ li. top_other (Tableau i) (listed i l.shape.piles li) (λ j e. cc)
      (not_part from (Tableau i) (Spot.Pile i) refl nf)
      (not_part to (Tableau i) (Spot.Pile i) refl nt))
  tops_same (Spot.Cell i) nf nt =
      below_same i g.shape.cells l.shape.cells _ _ (shape_parts rules.stacked l.shape from).1
      (λ li. top_other (Cell i) (listed i l.shape.cells li) (λ j e. cc) (not_part from (Cell i) (Spot.Cell i) refl nf)
      (not_part to (Cell i) (Spot.Cell i) refl nt))
  tops_same (Spot.Reserve i) nf nt = reserve_top i nf
  tops_same Spot.Stock nf nt =
      slots_other 89 (not_stock_source l h rules.stacked from can.from_place) (not_stock l h to can.to_place)
  tops_same Spot.Waste nf nt =
      top_other Waste refl (λ j e. cc) (not_part from Waste Spot.Waste refl nf) (not_part to Waste Spot.Waste refl nt)
  tops_same Spot.Hole nf nt =
      top_other Hole refl (λ j e. cc) (not_part from Hole Spot.Hole refl nf) (not_part to Hole Spot.Hole refl nt)
  tops_same (Spot.Slot i) nf nt =
      below_same i g.shape.slots l.shape.slots _ _ (shape_parts rules.stacked l.shape from).2
      (λ li. top_other (Slot i) (listed i l.shape.slots li) (λ j e. cc) (not_part from (Slot i) (Spot.Slot i) refl nf)
      (not_part to (Slot i) (Spot.Slot i) refl nt))

  pub carried : ChangesCarried l (gone rules l from to count) from to (first_slot l a count)
  carried = record { under = under_same; tops = tops_same }
