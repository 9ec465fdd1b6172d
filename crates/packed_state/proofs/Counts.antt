-- How many cards a part has.
use Rattle.std.proofs.Common.{◌≡◌, ◌≢◌, ℕ, ◌+◌, ◌<◌, ◌≤◌, true, false, List, [], ◌∷◌, length, map, refl, sym, ap}
use Rattle.std.proofs.Common.{ap₂, ◌∙◌, arith, inl, inr}
use Rattle.std.specs.Prelude.{None, nat_lt, nat_eq, if◌then◌else◌}
use Rattle.std.specs.List.{range_with_len}
use Rattle.std.proofs.lemmas.Bool.{cases_lt}
use Rattle.std.proofs.lemmas.Bool.Decides.{nat_tests}
use Rattle.std.proofs.lemmas.List.{get_or_past}
use Rattle.card_piles.specs.declared.Card.{Card}
use Rattle.game_rules.specs.Board.{Pile, pile_at, entry_at, height_at, empty_pile, top_of}
use Rattle.card_links.specs.Chains.{size_at}
use Rattle.packed_state.specs.Packed.{Linked, IsLinked, is_single, cards_at, face_at, board_of}
use Rattle.packed_state.specs.Spots.{entry_size}
use Rattle.packed_state.proofs.Ranges.{length-range}
use Rattle.packed_state.proofs.Boards.{part_at}
use Rattle.packed_state.proofs.Tops.{size_is}

pub yes_number : (a b x y : ℕ) → a < b → (if nat_lt a b then x else y) ≡ x
yes_number a b x y h = grind (arith, nat_tests)

pub no_number : (a b x y : ℕ) → b ≤ a → (if nat_lt a b then x else y) ≡ y
no_number a b x y h = grind (arith, nat_tests)

size_of_top : (xs : List Card) → length xs ≤ 1 → length xs ≡ entry_size (top_of xs)
size_of_top [] h = refl
size_of_top (x ∷ []) h = refl
size_of_top (x ∷ y ∷ xs) h = absurd (omega arith)

zero_yes : (i x : ℕ) → i ≡ 0 → (if nat_eq i 0 then x else 0) ≡ x
zero_yes i x h = grind (arith, nat_tests)

zero_no : (i x : ℕ) → i ≢ 0 → (if nat_eq i 0 then x else 0) ≡ 0
zero_no i x h = grind (arith, nat_tests)

module _ (l : Linked) (i : ℕ) where
  abbrev pub pile_by : ℕ → Pile
  pile_by k = record { cards = cards_at l k; face_down = face_at l k }

  pub height_read : i < length (board_of l).heights → size_at l.links (90 + i) ≡ height_at (board_of l) i
  height_read h =
      let n = length-range (λ k. length (cards_at l (90 + k))) 0 l.shape.foundations in
      size_is l (90 + i) ∙ sym (part_at (λ k. length (cards_at l (90 + k))) l.shape.foundations i 0 (omega arith))

  pub face_read : i < length (board_of l).piles → face_at l i ≡ (pile_at (board_of l) i).face_down
  face_read h =
      let n = length-range pile_by 0 l.shape.piles in
      ap (λ (q : Pile). q.face_down) (sym (part_at pile_by l.shape.piles i empty_pile (omega arith)))

  pub pile_size : (if nat_lt i l.shape.piles then length (cards_at l i) else 0) ≡ length (pile_at (board_of l) i).cards
  pile_size = elim (cases_lt i l.shape.piles) [
    | inl h ↦ yes_number i l.shape.piles _ _ h
        ∙ ap (λ (q : Pile). length q.cards) (sym (part_at pile_by l.shape.piles i empty_pile h))
    | inr h ↦
        let n = length-range pile_by 0 l.shape.piles in
        no_number i l.shape.piles _ _ h
        ∙ ap (λ (q : Pile). length q.cards)
        (sym (get_or_past (map pile_by (range_with_len 0 l.shape.piles)) i empty_pile (omega arith)))
  ]

  pub entry_sized : (base n : ℕ) → (i < n → length (cards_at l (base + i)) ≤ 1)
      → (if nat_lt i n then length (cards_at l (base + i)) else 0)
      ≡ entry_size (entry_at (map (λ k. top_of (cards_at l (base + k))) (range_with_len 0 n)) i)
  entry_sized base n one = elim (cases_lt i n) [
    | inl h ↦
        yes_number i n _ _ h ∙ size_of_top (cards_at l (base + i)) (one h)
        ∙ ap entry_size (sym (part_at (λ k. top_of (cards_at l (base + k))) n i None h))
    | inr h ↦
        let long = length-range (λ k. top_of (cards_at l (base + k))) 0 n in
        no_number i n _ _ h
        ∙ ap entry_size
        (sym (get_or_past (map (λ k. top_of (cards_at l (base + k))) (range_with_len 0 n)) i None (omega arith)))
  ]

pub low_cell : (i : ℕ) → i < 16 → is_single (20 + i) ≡ true
low_cell i h = grind (arith, nat_tests)

pub any_slot : (i : ℕ) → is_single (107 + i) ≡ true
any_slot i = grind (arith, nat_tests)

pub low_entry : (i : ℕ) → i < 52 → is_single (36 + i) ≡ true
low_entry i h = grind (arith, nat_tests)

module _ (l : Linked) (h : IsLinked l) (i : ℕ) where
  cell_one : i < l.shape.cells → length (cards_at l (20 + i)) ≤ 1
  cell_one li =
      let f = h.sized.small.cells in
      let o = h.singles (20 + i) (omega arith) (low_cell i (omega arith)) in
      let s = size_is l (20 + i) in omega arith

  slot_one : i < l.shape.slots → length (cards_at l (107 + i)) ≤ 1
  slot_one li =
      let f = h.sized.small.slots in
      let o = h.singles (107 + i) (omega arith) (any_slot i) in
      let s = size_is l (107 + i) in omega arith

  entry_one : i < l.shape.entries → length (cards_at l (36 + i)) ≤ 1
  entry_one li =
      let f = h.sized.small.entries in
      let o = h.singles (36 + i) (omega arith) (low_entry i (omega arith)) in
      let s = size_is l (36 + i) in omega arith

  pub cell_size : (if nat_lt i l.shape.cells then length (cards_at l (20 + i)) else 0)
      ≡ entry_size (entry_at (board_of l).cells i)
  cell_size = entry_sized l i 20 l.shape.cells cell_one

  pub slot_size : (if nat_lt i l.shape.slots then length (cards_at l (107 + i)) else 0)
      ≡ entry_size (entry_at (board_of l).slots i)
  slot_size = entry_sized l i 107 l.shape.slots slot_one

  pub entry_size_is : (if nat_lt i l.shape.entries then length (cards_at l (36 + i)) else 0)
      ≡ entry_size (entry_at (board_of l).reserve i)
  entry_size_is = entry_sized l i 36 l.shape.entries entry_one

  pub reserve_entry : l.stacked ≡ false → (if nat_lt i l.shape.entries then length (cards_at l (36 + i)) else 0)
      ≡ (if l.stacked then (if nat_eq i 0 then length (board_of l).reserve else 0)
      else entry_size (entry_at (board_of l).reserve i))
  reserve_entry e = rw e entry_size_is

  pub reserve_list : l.stacked ≡ true → i ≡ 0 → l.shape.entries
      ≡ (if l.stacked then (if nat_eq i 0 then length (board_of l).reserve else 0)
      else entry_size (entry_at (board_of l).reserve i))
  reserve_list e z =
      rw e (sym (zero_yes i (length (board_of l).reserve) z
      ∙ length-range (λ k. top_of (cards_at l (36 + k))) 0 l.shape.entries))

  pub reserve_past : l.stacked ≡ true → i ≢ 0 → 0
      ≡ (if l.stacked then (if nat_eq i 0 then length (board_of l).reserve else 0)
      else entry_size (entry_at (board_of l).reserve i))
  reserve_past e nz = rw e (sym (zero_no i (length (board_of l).reserve) nz))

-- what the code makes
module _ (c d : Linked) (view : c ≡ d) (h : IsLinked d) (i r : ℕ) where
  pub made_pile : r ≡ (if nat_lt i c.shape.piles then length (cards_at d (0 + i)) else 0)
      → r ≡ length (pile_at (board_of d) i).cards
  made_pile e =
      let z : 0 + i ≡ i = omega arith in
      e ∙ ap₂ (λ n p. let k : ℕ = (if nat_lt i n then length (cards_at d p) else 0) in k) (ap (λ x. x.shape.piles) view)
      z ∙ pile_size d i

  pub made_cell : r ≡ (if nat_lt i c.shape.cells then length (cards_at d (20 + i)) else 0)
      → r ≡ entry_size (entry_at (board_of d).cells i)
  made_cell e = e
      ∙ ap (λ n. let k : ℕ = (if nat_lt i n then length (cards_at d (20 + i)) else 0) in
      k) (ap (λ x. x.shape.cells) view) ∙ cell_size d h i

  pub made_slot : r ≡ (if nat_lt i c.shape.slots then length (cards_at d (107 + i)) else 0)
      → r ≡ entry_size (entry_at (board_of d).slots i)
  made_slot e = e
      ∙ ap (λ n. let k : ℕ = (if nat_lt i n then length (cards_at d (107 + i)) else 0) in
      k) (ap (λ x. x.shape.slots) view) ∙ slot_size d h i

  pub made_entry : c.stacked ≡ false → r ≡ (if nat_lt i c.shape.entries then length (cards_at d (36 + i)) else 0)
      → r ≡ (if d.stacked then (if nat_eq i 0 then length (board_of d).reserve else 0)
      else entry_size (entry_at (board_of d).reserve i))
  made_entry one e =
      e ∙ ap (λ n. let k : ℕ = (if nat_lt i n then length (cards_at d (36 + i)) else 0) in k)
      (ap (λ x. x.shape.entries) view)
      ∙ reserve_entry d h i (sym (ap (λ x. x.stacked) view) ∙ one)

  pub made_list : c.stacked ≡ true → i ≡ 0 → r ≡ c.shape.entries
      → r ≡ (if d.stacked then (if nat_eq i 0 then length (board_of d).reserve else 0)
      else entry_size (entry_at (board_of d).reserve i))
  made_list one z e =
      e ∙ ap (λ x. x.shape.entries) view ∙ reserve_list d h i (sym (ap (λ x. x.stacked) view) ∙ one) z

  pub made_past : c.stacked ≡ true → i ≢ 0
      → 0 ≡ (if d.stacked then (if nat_eq i 0 then length (board_of d).reserve else 0)
      else entry_size (entry_at (board_of d).reserve i))
  made_past one nz = reserve_past d h i (sym (ap (λ x. x.stacked) view) ∙ one) nz

  pub low_height : (p : ℕ) → p ≡ i → i < length (board_of d).heights → 90 + p < 315
  low_height p e lt = let n = length-range (λ k. length (cards_at d (90 + k))) 0 d.shape.foundations in let f =
      h.sized.small.foundations in omega arith

  pub made_height : (p : ℕ) → p ≡ i → i < length (board_of d).heights → r ≡ size_at c.links (90 + p)
      → r ≡ height_at (board_of d) i
  made_height p e lt f = f ∙ ap₂ (λ x q. size_at x.links (90 + q)) view e ∙ height_read d i lt

  pub low_pile : (p : ℕ) → p ≡ i → i < length (board_of d).piles → p < 20
  low_pile p e lt = let n = length-range (pile_by d i) 0 d.shape.piles in let f = h.sized.small.piles in omega arith

  pub made_face : (p : ℕ) → p ≡ i → i < length (board_of d).piles → r ≡ face_at c p
      → r ≡ (pile_at (board_of d) i).face_down
  made_face p e lt f = f ∙ ap₂ face_at view e ∙ face_read d i lt
