-- A carry keeps a packed board linked.
use Rattle.std.proofs.Common.{◌≡◌, ◌≢◌, ℕ, ◌+◌, ◌-◌, ◌<◌, ◌≤◌, Bool, true, false, ◌&&◌, ◌||◌, List, length, set, get_or}
use Rattle.std.proofs.Common.{refl, sym, ap, ◌∙◌, subst, arith, inl, inr, length-set}
use Rattle.std.specs.Prelude.{IsTrue, Option, Some, None, nat_lt, nat_le, nat_eq}
use Rattle.std.proofs.lemmas.Bool.{cases_eq, cases_lt}
use Rattle.std.proofs.lemmas.Bool.Decides.{nat_tests}
use Rattle.std.proofs.lemmas.List.{get_or-set_same, get_or-set_other}
use Rattle.card_piles.specs.declared.Card.{Card}
use Rattle.game_rules.specs.declared.Place.{Place}
use Rattle.game_rules.specs.declared.Place.TheVariants.{Tableau, Cell, Reserve, Waste, Foundation, Hole, Slot}
use Rattle.card_links.specs.Chains.{Chains, IsChained, size_at, shifted}
use Rattle.card_links.proofs.Shifting.{size_from, size_to, size_other}
use Rattle.card_links.proofs.Keeping.{kept}
use Rattle.packed_state.specs.declared.Shape.{Shape}
use Rattle.packed_state.specs.Packed.{Linked, IsLinked, index_of, source_of, with_entries, shape_after, shape_before}
use Rattle.packed_state.specs.Packed.{is_place, is_inside, is_single, face_at}
use Rattle.packed_state.specs.Undoing.{CanCarry, face_of, with_face, with_card}
use Rattle.packed_state.specs.Packed.{IsSmall}

pub below_of : (a b : ℕ) → IsTrue (nat_lt a b) → a < b
below_of a b h = grind (arith, nat_tests)

pub small_of : (l : Linked) → IsLinked l → IsSmall l.shape
small_of l h = h.sized.small

-- a place has one of the numbers
pub index_low : (sh : Shape) (small : IsSmall sh) (place : Place) → IsTrue (is_place sh place) → index_of place < 315
index_low sh small (Tableau i) p = let b = below_of _ _ p in let f = small.piles in omega arith
index_low sh small (Cell i) p = let b = below_of _ _ p in let f = small.cells in omega arith
index_low sh small (Reserve i) p = let b = below_of _ _ p in let f = small.entries in omega arith
index_low sh small Waste p = omega arith
index_low sh small (Foundation i) p = let b = below_of _ _ p in let f = small.foundations in omega arith
index_low sh small Hole p = omega arith
index_low sh small (Slot i) p = let b = below_of _ _ p in let f = small.slots in omega arith

entry_there : (n i : ℕ) → IsTrue (nat_lt i n) → IsTrue (nat_lt (n - 1) n)
entry_there n i h = let b = below_of _ _ h in grind (arith, nat_tests)

pub source_below : (v : Bool) (sh : Shape) (small : IsSmall sh) (place : Place) → IsTrue (is_place sh place)
    → source_of v sh place < 315
source_below v sh small (Tableau i) p = index_low sh small (Tableau i) p
source_below v sh small (Cell i) p = index_low sh small (Cell i) p
source_below true sh small (Reserve i) p =
    index_low sh small (Reserve (sh.entries - 1)) (entry_there sh.entries i p)
source_below false sh small (Reserve i) p = index_low sh small (Reserve i) p
source_below v sh small Waste p = omega arith
source_below v sh small (Foundation i) p = index_low sh small (Foundation i) p
source_below v sh small Hole p = omega arith
source_below v sh small (Slot i) p = index_low sh small (Slot i) p

module _ (l : Linked) (h : IsLinked l) where
  pub index_below : (place : Place) → IsTrue (is_place l.shape place) → index_of place < 315
  index_below place p = index_low l.shape (small_of l h) place p

  pub pile_below : (place : Place) (i : ℕ) → IsTrue (is_place l.shape place) → place ≡ Tableau i → i < 20
  pile_below (Tableau j) i p e = let b = below_of _ _ p in let f = h.sized.small.piles in let s : j ≡ i = cc in
      omega arith
  pile_below (Cell j) i p e = cc
  pile_below (Reserve j) i p e = cc
  pile_below Waste i p e = cc
  pile_below (Foundation j) i p e = cc
  pile_below Hole i p e = cc
  pile_below (Slot j) i p e = cc

-- and the pile of a carry that is taken back
pub pile_of_before : (v : Bool) (l : Linked) (h : IsLinked l) (place : Place) (i : ℕ)
    → IsTrue (is_place (shape_before v l.shape place) place) → place ≡ Tableau i → i < 20
pile_of_before v l h (Tableau j) i p e = pile_below l h (Tableau j) i p e
pile_of_before v l h (Cell j) i p e = cc
pile_of_before v l h (Reserve j) i p e = cc
pile_of_before v l h Waste i p e = cc
pile_of_before v l h (Foundation j) i p e = cc
pile_of_before v l h Hole i p e = cc
pile_of_before v l h (Slot j) i p e = cc

pub or_left : (a b : Bool) → a ≡ true → (a || b) ≡ true
or_left true b e = refl
or_left false b e = cc

pub or_right : (a b : Bool) → b ≡ true → (a || b) ≡ true
or_right true b e = refl
or_right false b e = e

and_true : (a b : Bool) → a ≡ true → b ≡ true → (a && b) ≡ true
and_true true b e f = f
and_true false b e f = cc

pub between : (a b p : ℕ) → a ≤ p → p < b → (nat_le a p && nat_lt p b) ≡ true
between a b p la lb = and_true (nat_le a p) (nat_lt p b) (grind (arith, nat_tests)) (grind (arith, nat_tests))

pub same_number : (a b : ℕ) → a ≡ b → nat_eq a b ≡ true
same_number a b e = grind (arith, nat_tests)

pub inside_of : (sh : Shape) (place : Place) → IsTrue (is_place sh place) → is_inside sh (index_of place) ≡ true
inside_of sh (Tableau i) p =
    or_left _ _ (or_left _ _ (or_left _ _ (or_left _ _ (or_left _ _ (or_left _ _ (or_left _ _ p))))))
inside_of sh (Cell i) p = let b = below_of _ _ p in
    or_left _ _
    (or_left _ _
    (or_left _ _
    (or_left _ _
    (or_left _ _ (or_left _ _ (or_right _ _ (between 20 (20 + sh.cells) (20 + i) (omega arith) (omega arith))))))))
inside_of sh (Reserve i) p = let b = below_of _ _ p in
    or_left _ _
    (or_left _ _
    (or_left _ _
    (or_left _ _ (or_left _ _ (or_right _ _ (between 36 (36 + sh.entries) (36 + i) (omega arith) (omega arith)))))))
inside_of sh Waste p = or_left _ _ (or_left _ _ (or_left _ _ (or_left _ _ (or_right _ _ (same_number 88 88 refl)))))
inside_of sh (Foundation i) p = let b = below_of _ _ p in
    or_left _ _ (or_left _ _ (or_right _ _ (between 90 (90 + sh.foundations) (90 + i) (omega arith) (omega arith))))
inside_of sh Hole p = or_left _ _ (or_right _ _ (same_number 106 106 refl))
inside_of sh (Slot i) p = let b = below_of _ _ p in
    or_right _ _ (between 107 (107 + sh.slots) (107 + i) (omega arith) (omega arith))

pub source_inside : (v : Bool) (sh : Shape) (place : Place) → IsTrue (is_place sh place)
    → is_inside sh (source_of v sh place) ≡ true
source_inside v sh (Tableau i) p = inside_of sh (Tableau i) p
source_inside v sh (Cell i) p = inside_of sh (Cell i) p
source_inside true sh (Reserve i) p = inside_of sh (Reserve (sh.entries - 1)) (entry_there sh.entries i p)
source_inside false sh (Reserve i) p = inside_of sh (Reserve i) p
source_inside v sh Waste p = inside_of sh Waste p
source_inside v sh (Foundation i) p = inside_of sh (Foundation i) p
source_inside v sh Hole p = inside_of sh Hole p
source_inside v sh (Slot i) p = inside_of sh (Slot i) p

below_yes : (a b : ℕ) → a < b → nat_lt a b ≡ true
below_yes a b h = grind (arith, nat_tests)

below_no : (a b : ℕ) → b ≤ a → nat_lt a b ≡ false
below_no a b h = grind (arith, nat_tests)

same_below : (a b c : ℕ) → a ≢ b → b ≤ c → c ≤ b + 1 → nat_lt a b ≡ nat_lt a c
same_below a b c ne le more = elim (cases_lt a b) [
  | inl x ↦ below_yes a b x ∙ sym (below_yes a c (omega arith))
  | inr y ↦ below_no a b y ∙ sym (below_no a c (omega arith))
]

-- an entry more or less changes nothing but the place of that entry
pub inside_same : (sh : Shape) (m n p : ℕ) → p ≢ 36 + m → m ≤ n → n ≤ m + 1
    → is_inside (with_entries sh m) p ≡ is_inside (with_entries sh n) p
inside_same sh m n p ne le more =
    ap
    (λ t.
    nat_lt p sh.piles || (nat_le 20 p && nat_lt p (20 + sh.cells)) || (nat_le 36 p && t) || nat_eq p 88 || nat_eq p 89
    || (nat_le 90 p && nat_lt p (90 + sh.foundations)) || nat_eq p 106 || (nat_le 107 p && nat_lt p (107 + sh.slots)))
    (same_below p (36 + m) (36 + n) ne (omega arith) (omega arith))

-- what is outside after a carry was outside before it, but for the place that it left
pub outside_after : (v : Bool) (sh : Shape) (place : Place) (p : ℕ) → p ≢ source_of v sh place
    → is_inside (shape_after v sh place) p ≡ false → is_inside sh p ≡ false
outside_after v sh (Tableau i) p ne out = out
outside_after v sh (Cell i) p ne out = out
outside_after true sh (Reserve i) p ne out =
    sym (inside_same sh (sh.entries - 1) sh.entries p ne (omega arith) (omega arith)) ∙ out
outside_after false sh (Reserve i) p ne out = out
outside_after v sh Waste p ne out = out
outside_after v sh (Foundation i) p ne out = out
outside_after v sh Hole p ne out = out
outside_after v sh (Slot i) p ne out = out

-- and what is outside before it is outside after it
pub outside_before : (v : Bool) (sh : Shape) (place : Place) (p : ℕ) → p ≢ source_of v (shape_before v sh place) place
    → is_inside (shape_before v sh place) p ≡ false → is_inside sh p ≡ false
outside_before v sh (Tableau i) p ne out = out
outside_before v sh (Cell i) p ne out = out
outside_before true sh (Reserve i) p ne out =
    let other : p ≢ 36 + sh.entries = λ e. ne (omega arith) in
    inside_same sh sh.entries (sh.entries + 1) p other (omega arith) (omega arith) ∙ out
outside_before false sh (Reserve i) p ne out = out
outside_before v sh Waste p ne out = out
outside_before v sh (Foundation i) p ne out = out
outside_before v sh Hole p ne out = out
outside_before v sh (Slot i) p ne out = out

single_entry : (i : ℕ) → i < 52 → is_single (36 + i) ≡ true
single_entry i lt = grind (arith, nat_tests)

-- a place that is no more there has room for one card
left_single : (v : Bool) (sh : Shape) (small : IsSmall sh) (place : Place) → IsTrue (is_place sh place)
    → is_inside (shape_after v sh place) (source_of v sh place) ≡ false → is_single (source_of v sh place) ≡ true
left_single v sh small (Tableau i) p out = let r : true ≡ false = sym (inside_of sh (Tableau i) p) ∙ out in cc
left_single v sh small (Cell i) p out = let r : true ≡ false = sym (inside_of sh (Cell i) p) ∙ out in cc
left_single true sh small (Reserve i) p out =
    let b = below_of _ _ p in let f = small.entries in single_entry (sh.entries - 1) (omega arith)
left_single false sh small (Reserve i) p out = let r : true ≡ false = sym (inside_of sh (Reserve i) p) ∙ out in cc
left_single v sh small Waste p out = let r : true ≡ false = sym (inside_of sh Waste p) ∙ out in cc
left_single v sh small (Foundation i) p out = let r : true ≡ false = sym (inside_of sh (Foundation i) p) ∙ out in cc
left_single v sh small Hole p out = let r : true ≡ false = sym (inside_of sh Hole p) ∙ out in cc
left_single v sh small (Slot i) p out = let r : true ≡ false = sym (inside_of sh (Slot i) p) ∙ out in cc

pub small_after : (v : Bool) (sh : Shape) (place : Place) → IsSmall sh → IsSmall (shape_after v sh place)
small_after v sh (Tableau i) s = s
small_after v sh (Cell i) s = s
small_after true sh (Reserve i) s = record {
  piles = s.piles;
  cells = s.cells;
  entries = let e = s.entries in omega arith;
  foundations = s.foundations;
  slots = s.slots;
}
small_after false sh (Reserve i) s = s
small_after v sh Waste s = s
small_after v sh (Foundation i) s = s
small_after v sh Hole s = s
small_after v sh (Slot i) s = s

pub small_before : (v : Bool) (sh : Shape) (place : Place) → IsSmall sh → (shape_before v sh place).entries ≤ 52
    → IsSmall (shape_before v sh place)
small_before v sh (Tableau i) s few = s
small_before v sh (Cell i) s few = s
small_before true sh (Reserve i) s few = record {
  piles = s.piles;
  cells = s.cells;
  entries = few;
  foundations = s.foundations;
  slots = s.slots;
}
small_before false sh (Reserve i) s few = s
small_before v sh Waste s few = s
small_before v sh (Foundation i) s few = s
small_before v sh Hole s few = s
small_before v sh (Slot i) s few = s

-- the packed board with other links, cards and face-down counts
abbrev pub relinked : Linked → Chains → List Card → List ℕ → Linked
relinked l links cards faces = record l { links = links; cards = cards; face_down = faces }

-- the same with another shape
abbrev pub reshaped : Linked → Chains → List Card → List ℕ → Shape → Linked
reshaped l links cards faces shape =
    record l { links = links; cards = cards; face_down = faces; shape = shape }

-- so many slots of a place can go to another
pub record CanShift (c : Chains) (from to count : ℕ) : Type 0 where
  pub from_below : from < 315
  pub to_below : to < 315
  pub apart : from ≢ to
  pub some : 0 < count
  pub enough : count ≤ size_at c from

module _ (l : Linked) (h : IsLinked l) (a b count : ℕ) (can : CanShift l.links a b count) where
  abbrev now : Chains
  now = shifted l.links a b count

  pub from_size : size_at now a ≡ size_at l.links a - count
  from_size = size_from l.links h.chained a b count can.from_below can.to_below can.apart can.some can.enough

  pub to_size : size_at now b ≡ size_at l.links b + count
  to_size = size_to l.links h.chained a b count can.from_below can.to_below can.apart can.some can.enough

  pub other_size : (p : ℕ) → p ≢ a → p ≢ b → size_at now p ≡ size_at l.links p
  other_size p na nb =
      size_other l.links h.chained a b count can.from_below can.to_below can.apart can.some can.enough p na nb

  pub chained_now : IsChained now
  chained_now = kept l.links h.chained a b count can.from_below can.to_below can.apart can.some can.enough

  singles : (is_single b ≡ true → size_at l.links b + count ≤ 1) → (p : ℕ) → p < 315 → is_single p ≡ true
      → size_at now p ≤ 1
  singles room p lp one = elim (cases_eq p a) [
    | inl e ↦
        let s = from_size in let o = h.singles a can.from_below (subst (λ x. is_single x ≡ true) e one) in
        subst (λ x. size_at now x ≤ 1) (sym e) (let r : size_at now a ≤ 1 = omega arith in r)
    | inr na ↦ elim (cases_eq p b) [
      | inl e ↦
          let s = to_size in let o = room (subst (λ x. is_single x ≡ true) e one) in
          subst (λ x. size_at now x ≤ 1) (sym e) (let r : size_at now b ≤ 1 = omega arith in r)
      | inr nb ↦ let s = other_size p na nb in let o = h.singles p lp one in omega arith
    ]
  ]

  pub shift_linked : (cards : List Card) (faces : List ℕ) (sh : Shape) → length cards ≡ 208 → length faces ≡ 20
      → IsSmall sh
      → ((i : ℕ) → i < 20 → get_or faces i 0 ≤ size_at now i)
      → ((p : ℕ) → p < 315 → is_inside sh p ≡ false → size_at now p ≡ 0)
      → (is_single b ≡ true → size_at l.links b + count ≤ 1)
      → IsLinked (reshaped l now cards faces sh)
  shift_linked cards faces sh lc lf small fit outside room = record {
    chained = chained_now;
    sized = record { cards_length = lc; faces_length = lf; small = small };
    faces = fit;
    outside = outside;
    singles = singles room;
  }

pub length-with_card : (cards : List Card) (slot : ℕ) (card : Option Card)
    → length (with_card cards slot card) ≡ length cards
length-with_card cards slot None = refl
length-with_card cards slot (Some card) = length-set cards slot card

pub length-with_face : (faces : List ℕ) (place : Place) (face : ℕ) → length (with_face faces place face) ≡ length faces
length-with_face faces (Tableau i) face = length-set faces i face
length-with_face faces (Cell i) face = refl
length-with_face faces (Reserve i) face = refl
length-with_face faces Waste face = refl
length-with_face faces (Foundation i) face = refl
length-with_face faces Hole face = refl
length-with_face faces (Slot i) face = refl

reserve_high : (v : Bool) (sh : Shape) (i k : ℕ) → k < 20 → k ≡ source_of v sh (Reserve i) → ⊥
reserve_high true sh i k lk e = omega arith
reserve_high false sh i k lk e = omega arith

-- the face-down counts that are written, at a pile
pub face_here : (faces : List ℕ) (v : Bool) (sh : Shape) (place : Place) (face k : ℕ) → k < length faces → k < 20
    → k ≡ source_of v sh place → get_or (with_face faces place face) k 0 ≡ face
face_here faces v sh (Tableau i) face k lk low e =
    ap (λ x. get_or (set faces i face) x 0) e ∙ get_or-set_same faces i face 0 (omega arith)
face_here faces v sh (Cell i) face k lk low e = absurd (omega arith)
face_here faces v sh (Reserve i) face k lk low e = absurd (reserve_high v sh i k low e)
face_here faces v sh Waste face k lk low e = absurd (omega arith)
face_here faces v sh (Foundation i) face k lk low e = absurd (omega arith)
face_here faces v sh Hole face k lk low e = absurd (omega arith)
face_here faces v sh (Slot i) face k lk low e = absurd (omega arith)

pub face_there : (faces : List ℕ) (v : Bool) (sh : Shape) (place : Place) (face k : ℕ) → k ≢ source_of v sh place
    → get_or (with_face faces place face) k 0 ≡ get_or faces k 0
face_there faces v sh (Tableau i) face k ne = get_or-set_other faces i k face 0 ne
face_there faces v sh (Cell i) face k ne = refl
face_there faces v sh (Reserve i) face k ne = refl
face_there faces v sh Waste face k ne = refl
face_there faces v sh (Foundation i) face k ne = refl
face_there faces v sh Hole face k ne = refl
face_there faces v sh (Slot i) face k ne = refl

pub face_at_pile : (l : Linked) (place : Place) (k : ℕ) → k < 20 → k ≡ index_of place → face_of l place ≡ face_at l k
face_at_pile l (Tableau i) k lk e = ap (face_at l) (sym e)
face_at_pile l (Cell i) k lk e = absurd (omega arith)
face_at_pile l (Reserve i) k lk e = absurd (omega arith)
face_at_pile l Waste k lk e = absurd (omega arith)
face_at_pile l (Foundation i) k lk e = absurd (omega arith)
face_at_pile l Hole k lk e = absurd (omega arith)
face_at_pile l (Slot i) k lk e = absurd (omega arith)

-- a carry
module _ (rs : Bool) (l : Linked) (h : IsLinked l) (from to : Place) (count : ℕ)
    (can : CanCarry rs l from to count) where
  abbrev a : ℕ
  a = source_of rs l.shape from

  abbrev b : ℕ
  b = index_of to

  abbrev next : Chains
  next = shifted l.links (source_of rs l.shape from) (index_of to) count

  pub can_shift : CanShift l.links (source_of rs l.shape from) (index_of to) count
  can_shift = record {
    from_below = source_below rs l.shape (small_of l h) from can.from_place;
    to_below = index_below l h to can.to_place;
    apart = can.apart;
    some = can.some;
    enough = can.enough;
  }

  -- the face-down counts of a carry fit
  faces_gone : (face : ℕ) → face ≤ size_at l.links (source_of rs l.shape from) - count → (i : ℕ) → i < 20
      → get_or (with_face l.face_down from face) i 0 ≤ size_at next i
  faces_gone face fit i li =
      let long = h.sized.faces_length in let f = h.faces i li in
      let sf = from_size l h a b count can_shift in
      let st = to_size l h a b count can_shift in
      elim (cases_eq i a) [
        | inl e ↦
            let at = face_here l.face_down rs l.shape from face i (omega arith) li e in
            let s : size_at next i ≡ size_at next a = ap (size_at next) e in
            omega arith
        | inr na ↦
            let at = face_there l.face_down rs l.shape from face i na in
            elim (cases_eq i b) [
              | inl e ↦
                  let s : size_at next i ≡ size_at next b = ap (size_at next) e in
                  let r : size_at l.links i ≡ size_at l.links b = ap (size_at l.links) e in
                  omega arith
              | inr nb ↦ let s = other_size l h a b count can_shift i na nb in omega arith
            ]
      ]

  -- the place that it left is empty if it is no more there
  left_empty : is_inside (shape_after rs l.shape from) a ≡ false → size_at next a ≡ 0
  left_empty out =
      let one = h.singles a can_shift.from_below (left_single rs l.shape (small_of l h) from can.from_place out) in
      let s = from_size l h a b count can_shift in
      let some = can.some in
      omega arith

  outside : (p : ℕ) → p < 315 → is_inside (shape_after rs l.shape from) p ≡ false → size_at next p ≡ 0
  outside p lp out = elim (cases_eq p a) [
    | inl e ↦
        ap (size_at next) e
        ∙ left_empty (subst (λ x. is_inside (shape_after rs l.shape from) x ≡ false) e out)
    | inr na ↦
        let was = outside_after rs l.shape from p na out in
        other_size l h a b count can_shift p na
        (λ e. let r : false ≡ true = sym was ∙ ap (is_inside l.shape) e ∙ inside_of l.shape to can.to_place in cc)
        ∙ h.outside p lp was
  ]

  pub carry_linked : (cards : List Card) (face : ℕ) → length cards ≡ 208
      → face ≤ size_at l.links (source_of rs l.shape from) - count
      → IsLinked (reshaped l next cards (with_face l.face_down from face) (shape_after rs l.shape from))
  carry_linked cards face lc fit =
      shift_linked l h a b count can_shift cards (with_face l.face_down from face) (shape_after rs l.shape from) lc
      (length-with_face l.face_down from face ∙ h.sized.faces_length)
      (small_after rs l.shape from (small_of l h)) (faces_gone face fit) outside can.room

-- a carry can be taken back
pub record CanReturn (v : Bool) (l : Linked) (from to : Place) (count face : ℕ) : Type 0 where
  pub few : (shape_before v l.shape from).entries ≤ 52
  pub from_place : IsTrue (is_place (shape_before v l.shape from) from)
  pub to_place : IsTrue (is_place l.shape to)
  pub apart : index_of to ≢ source_of v (shape_before v l.shape from) from
  pub some : 0 < count
  pub left : face_of l to + count ≤ size_at l.links (index_of to)
  pub fits : face ≤ size_at l.links (source_of v (shape_before v l.shape from) from) + count
  pub room : is_single (source_of v (shape_before v l.shape from) from) ≡ true
      → size_at l.links (source_of v (shape_before v l.shape from) from) + count ≤ 1

-- a carry that is taken back: the cards go from `to` to `from`, where `face` cards lay face down
module _ (v : Bool) (l : Linked) (h : IsLinked l) (from to : Place) (count face : ℕ)
    (can : CanReturn v l from to count face) where
  abbrev sh : Shape
  sh = shape_before v l.shape from

  abbrev home : ℕ
  home = source_of v (shape_before v l.shape from) from

  abbrev there : ℕ
  there = index_of to

  abbrev last : Chains
  last = shifted l.links (index_of to) (source_of v (shape_before v l.shape from) from) count

  small_sh : IsSmall sh
  small_sh = small_before v l.shape from (small_of l h) can.few

  pub can_unshift : CanShift l.links (index_of to) (source_of v (shape_before v l.shape from) from) count
  can_unshift = record {
    from_below = index_below l h to can.to_place;
    to_below = source_below v sh small_sh from can.from_place;
    apart = can.apart;
    some = can.some;
    enough = let e = can.left in omega arith;
  }

  faces_back : (i : ℕ) → i < 20 → get_or (with_face l.face_down from face) i 0 ≤ size_at last i
  faces_back i li =
      let long = h.sized.faces_length in let f = h.faces i li in
      let sf = from_size l h there home count can_unshift in
      let st = to_size l h there home count can_unshift in
      let fit = can.fits in let left = can.left in
      elim (cases_eq i home) [
        | inl e ↦
            let at = face_here l.face_down v sh from face i (omega arith) li e in
            let s : size_at last i ≡ size_at last home = ap (size_at last) e in
            omega arith
        | inr na ↦
            let at = face_there l.face_down v sh from face i na in
            elim (cases_eq i there) [
              | inl e ↦
                  let s : size_at last i ≡ size_at last there = ap (size_at last) e in
                  let g = face_at_pile l to i li e in
                  omega arith
              | inr nb ↦ let s = other_size l h there home count can_unshift i nb na in omega arith
            ]
      ]

  outside_back : (p : ℕ) → p < 315 → is_inside sh p ≡ false → size_at last p ≡ 0
  outside_back p lp out =
      let na : p ≢ home = λ e.
      (let r : false ≡ true = sym out ∙ ap (is_inside sh) e ∙ source_inside v sh from can.from_place in cc) in
      let was = outside_before v l.shape from p na out in
      other_size l h there home count can_unshift p
      (λ e. let r : false ≡ true = sym was ∙ ap (is_inside l.shape) e ∙ inside_of l.shape to can.to_place in cc) na
      ∙ h.outside p lp was

  pub return_linked : (cards : List Card) → length cards ≡ 208
      → IsLinked (reshaped l last cards (with_face l.face_down from face) (shape_before v l.shape from))
  return_linked cards lc =
      shift_linked l h there home count can_unshift cards (with_face l.face_down from face) sh lc
      (length-with_face l.face_down from face ∙ h.sized.faces_length)
      small_sh faces_back outside_back can.room
