-- What a carry notes gives the packed board before it again, slot by slot and link by link.
use Rattle.std.proofs.Common.{◌≡◌, ◌≢◌, ℕ, ◌+◌, ◌-◌, ◌<◌, ◌≤◌, Bool, true, false, ◌&&◌, ◌||◌, List, set, refl, sym, ap}
use Rattle.std.proofs.Common.{◌∙◌, subst, arith}
use Rattle.std.specs.Prelude.{IsTrue, Option, Some, None, not, nat_lt, nat_le, nat_eq}
use Rattle.std.proofs.lemmas.Bool.Decides.{nat_tests}
use Rattle.std.proofs.lemmas.List.{set-set, set-get_or}
use Rattle.card_piles.specs.declared.Card.{Card}
use Rattle.game_rules.specs.declared.RuleParts.{RuleParts}
use Rattle.game_rules.specs.declared.Place.{Place}
use Rattle.game_rules.specs.declared.Place.TheVariants.{Tableau, Cell, Reserve, Waste, Foundation, Hole, Slot}
use Rattle.card_links.specs.Chains.{Chains, size_at, shifted}
use Rattle.card_links.proofs.Shifting.{slot_carried}
use Rattle.card_links.proofs.Undoing.{undone}
use Rattle.packed_state.specs.declared.Shape.{Shape}
use Rattle.packed_state.specs.Packed.{Linked, IsLinked, index_of, source_of, with_entries, shape_after, shape_before}
use Rattle.packed_state.specs.Packed.{is_place, is_single, face_at, card_of, no_card}
use Rattle.packed_state.specs.Undoing.{CanCarry, face_of, with_face, with_card, written, first_slot, gone}
use Rattle.packed_state.specs.Undoing.{fits_carried, before_carry, return_of}
use Rattle.packed_state.proofs.Linking.{CanShift, can_shift, from_size, to_size, face_there, pile_below, below_of}

cards_again : (cards : List Card) (slot : ℕ) (o : Option Card) → set (with_card cards slot o) slot (card_of cards slot)
    ≡ cards
cards_again cards slot None = set-get_or cards slot no_card
cards_again cards slot (Some card) = set-set cards slot card (card_of cards slot) ∙ set-get_or cards slot no_card

faces_again : (l : Linked) (place : Place) (x : ℕ) → with_face (with_face l.face_down place x) place (face_of l place)
    ≡ l.face_down
faces_again l (Tableau i) x = set-set l.face_down i x (face_at l i) ∙ set-get_or l.face_down i 0
faces_again l (Cell i) x = refl
faces_again l (Reserve i) x = refl
faces_again l Waste x = refl
faces_again l (Foundation i) x = refl
faces_again l Hole x = refl
faces_again l (Slot i) x = refl

true_and : (a b : Bool) → IsTrue a → IsTrue b → IsTrue (a && b)
true_and true b x y = y
true_and false b x y = cc

le_true : (a b : ℕ) → a ≤ b → IsTrue (nat_le a b)
le_true a b h = grind (arith, nat_tests)

lt_true : (a b : ℕ) → a < b → IsTrue (nat_lt a b)
lt_true a b h = grind (arith, nat_tests)

ne_true : (a b : ℕ) → a ≢ b → IsTrue (not (nat_eq a b))
ne_true a b h = grind (arith, nat_tests)

if_true : (v : Bool) (a b : ℕ) → (v ≡ true → a ≤ b) → IsTrue (not v || nat_le a b)
if_true true a b h = le_true a b (h refl)
if_true false a b h = refl

abbrev linked : Chains → List Card → List ℕ → Shape → ℕ → Bool → Linked
linked k c f s r b = record { links = k; cards = c; face_down = f; shape = s; redeals_left = r; stacked = b }

same_linked : (k k' : Chains) (c c' : List Card) (f f' : List ℕ) (s s' : Shape) (r : ℕ) (b : Bool) → k ≡ k' → c ≡ c'
    → f ≡ f' → s ≡ s' → linked k c f s r b ≡ linked k' c' f' s' r b
same_linked k k' c c' f f' s s' r b ek ec ef es = cc

less_more : (sh : Shape) (n : ℕ) → n ≡ sh.entries → with_entries sh n ≡ sh
less_more sh n e = ap (with_entries sh) e

-- the shape before the shape after
shape_again : (v : Bool) (sh : Shape) (place : Place) → IsTrue (is_place sh place)
    → shape_before v (shape_after v sh place) place ≡ sh
shape_again v sh (Tableau i) p = refl
shape_again v sh (Cell i) p = refl
shape_again true sh (Reserve i) p = let b = below_of _ _ p in less_more sh (sh.entries - 1 + 1) (omega arith)
shape_again false sh (Reserve i) p = refl
shape_again v sh Waste p = refl
shape_again v sh (Foundation i) p = refl
shape_again v sh Hole p = refl
shape_again v sh (Slot i) p = refl

-- the place that cards were put on is still there
place_kept : (v : Bool) (sh : Shape) (from to : Place) → source_of v sh from ≢ index_of to → IsTrue (is_place sh to)
    → IsTrue (is_place (shape_after v sh from) to)
place_kept v sh (Tableau j) to ne p = p
place_kept v sh (Cell j) to ne p = p
place_kept true sh (Reserve j) (Tableau i) ne p = p
place_kept true sh (Reserve j) (Cell i) ne p = p
place_kept true sh (Reserve j) (Reserve i) ne p =
    let b = below_of _ _ p in
    let other : i ≢ sh.entries - 1 = λ e. ne (omega arith) in
    lt_true i (sh.entries - 1) (omega arith)
place_kept true sh (Reserve j) Waste ne p = p
place_kept true sh (Reserve j) (Foundation i) ne p = p
place_kept true sh (Reserve j) Hole ne p = p
place_kept true sh (Reserve j) (Slot i) ne p = p
place_kept false sh (Reserve j) to ne p = p
place_kept v sh Waste to ne p = p
place_kept v sh (Foundation f) to ne p = p
place_kept v sh Hole to ne p = p
place_kept v sh (Slot j) to ne p = p

module _ (rules : RuleParts) (l : Linked) (h : IsLinked l) (from to : Place) (count : ℕ)
    (can : CanCarry rules.stacked l from to count) where
  abbrev g : Linked
  g = gone rules l from to count

  abbrev a : ℕ
  a = source_of rules.stacked l.shape from

  abbrev b : ℕ
  b = index_of to

  shifts : CanShift l.links (source_of rules.stacked l.shape from) (index_of to) count
  shifts = can_shift rules.stacked l h from to count can

  shape_back : shape_before rules.stacked (gone rules l from to count).shape from ≡ l.shape
  shape_back = shape_again rules.stacked l.shape from can.from_place

  home_back : return_of rules.stacked (gone rules l from to count) from ≡ source_of rules.stacked l.shape from
  home_back = ap (λ s. source_of rules.stacked s from) shape_back

  slot_again : first_slot g b count ≡ first_slot l a count
  slot_again =
      let some = can.some in
      slot_carried l.links h.chained a b count shifts.from_below shifts.to_below can.apart can.some can.enough
      (count - 1) (omega arith)

  pub back_again : before_carry g from to count (face_of l from) rules.stacked (card_of l.cards (first_slot l a count))
      ≡ l
  back_again =
      same_linked _ l.links _ l.cards _ l.face_down _ l.shape l.redeals_left l.stacked
      (ap (λ n. shifted g.links b n count) home_back
      ∙ undone l.links h.chained a b count shifts.from_below shifts.to_below can.apart can.some can.enough)
      (ap (λ s. set g.cards s (card_of l.cards (first_slot l a count))) slot_again
      ∙ cards_again l.cards (first_slot l a count) (written rules (size_at l.links a) from))
      (faces_again l from _)
      shape_back

  face_low : (place : Place) → IsTrue (is_place l.shape place) → face_of l place ≤ size_at l.links (index_of place)
  face_low (Tableau i) p = h.faces i (pile_below l h (Tableau i) i p refl)
  face_low (Cell i) p = omega arith
  face_low (Reserve i) p = omega arith
  face_low Waste p = omega arith
  face_low (Foundation i) p = omega arith
  face_low Hole p = omega arith
  face_low (Slot i) p = omega arith

  face_source : (place : Place) → IsTrue (is_place l.shape place)
      → face_of l place ≤ size_at l.links (source_of rules.stacked l.shape place)
  face_source (Tableau i) p = face_low (Tableau i) p
  face_source (Cell i) p = omega arith
  face_source (Reserve i) p = omega arith
  face_source Waste p = omega arith
  face_source (Foundation i) p = omega arith
  face_source Hole p = omega arith
  face_source (Slot i) p = omega arith

  -- the place that cards were put on lies face down as it did
  face_kept : (place : Place) → source_of rules.stacked l.shape from ≢ index_of place
      → face_of g place ≡ face_of l place
  face_kept (Tableau i) ne = face_there l.face_down rules.stacked l.shape from _ i (λ e. ne (sym e))
  face_kept (Cell i) ne = refl
  face_kept (Reserve i) ne = refl
  face_kept Waste ne = refl
  face_kept (Foundation i) ne = refl
  face_kept Hole ne = refl
  face_kept (Slot i) ne = refl

  pub fits_again : IsTrue (fits_carried g from to count (face_of l from) rules.stacked)
  fits_again =
      let enough = can.enough in
      let sf = from_size l h a b count shifts in
      let st = to_size l h a b count shifts in
      let ft = face_low to can.to_place in
      let ff = face_source from can.from_place in
      let kept = face_kept to can.apart in
      let few : (shape_before rules.stacked g.shape from).entries ≤ 52 =
      subst (λ (s : Shape). s.entries ≤ 52) (sym shape_back) h.sized.small.entries in
      let size : size_at g.links (return_of rules.stacked g from) ≡ size_at l.links a - count =
      ap (size_at g.links) home_back ∙ sf in
      true_and _ _ (true_and _ _ (true_and _ _ (true_and _ _ (true_and _ _ (true_and _ _ (true_and _ _
      (le_true _ _ few)
      (subst (λ s. IsTrue (is_place s from)) (sym shape_back) can.from_place))
      (place_kept rules.stacked l.shape from to can.apart can.to_place))
      (ne_true _ _ (λ e. can.apart (sym home_back ∙ e))))
      (lt_true _ _ can.some))
      (le_true _ _ (omega arith)))
      (le_true _ _ (omega arith)))
      (if_true _ _ _ (λ one.
      let s = h.singles a shifts.from_below (subst (λ x. is_single x ≡ true) home_back one) in omega arith))
