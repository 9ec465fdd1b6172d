-- The cards of a part from the top down, as an iterator gives them.
use Rattle.std.proofs.Common.{◌≡◌, ◌≢◌, ℕ, zero, suc, ◌+◌, ◌-◌, ◌<◌, ◌≤◌, Bool, true, false, List, [], ◌∷◌, ◌++◌}
use Rattle.std.proofs.Common.{length, map, reverse, refl, sym, ap, ap₂, ◌∙◌, arith, inl, inr}
use Rattle.std.specs.Prelude.{Option, Some, None, nat_lt, nat_eq, if◌then◌else◌}
use Rattle.std.specs.List.{range_with_len, filter_map}
use Rattle.std.specs.Option.{option_to_list}
use Rattle.std.proofs.lemmas.Bool.{cases_lt}
use Rattle.std.proofs.lemmas.Bool.Decides.{nat_tests}
use Rattle.std.proofs.lemmas.List.{reverse-append, map-append, get_or_past}
use Rattle.std.proofs.lemmas.List.Elements.{filter_map-append}
use Rattle.card_piles.specs.declared.Card.{Card}
use Rattle.card_links.specs.Chains.{link, top_at, size_at, slots_of}
use Rattle.game_rules.specs.Board.{Pile, pile_at, entry_at, empty_pile, top_of}
use Rattle.packed_state.specs.Packed.{Linked, IsLinked, is_single, cards_at, card_of, face_at, board_of}
use Rattle.packed_state.specs.CardsLeft.{entry_cards, cards_left, IsLeft}
use Rattle.packed_state.proofs.Ranges.{length-range}
use Rattle.packed_state.proofs.Boards.{part_at}
use Rattle.packed_state.proofs.Contents.{up, up-append}
use Rattle.packed_state.proofs.Tops.{size_is}

no_more : {A : Type 0} (xs : List A) → xs ++ [] ≡ xs
no_more [] = refl
no_more (x ∷ xs) = ap (λ ys. x ∷ ys) (no_more xs)

-- the cards of slots, the first slot first
down : (cards : List Card) (slots : List ℕ) → map (card_of cards) slots ≡ reverse (up cards slots)
down cards [] = refl
down cards (s ∷ slots) =
    ap (λ xs. card_of cards s ∷ xs) (down cards slots)
    ∙ sym (ap reverse (up-append cards (s ∷ []) slots) ∙ reverse-append (up cards slots) (card_of cards s ∷ []))

pub chain_cards : (l : Linked) (p : ℕ) → cards_left l (top_at l.links p) (size_at l.links p) 0 ≡ reverse (cards_at l p)
chain_cards l p = no_more (map (card_of l.cards) (slots_of l.links p)) ∙ down l.cards (slots_of l.links p)

pub chain_left : (l : Linked) (p : ℕ) → IsLinked l → p < 315 → IsLeft l (top_at l.links p) (size_at l.links p) 0
chain_left l p h lp = record {
  slots = λ k lk. let w = h.chained.within p k lp lk in let f = h.chained.fits in omega arith;
  few = omega arith;
}

pub entries_left : (l : Linked) (slot entries : ℕ) → entries ≤ 52 → IsLeft l slot 0 entries
entries_left l slot entries few = record { slots = λ k lk. absurd (omega arith); few = few }

-- one slot further
module _ (l : Linked) (slot entries : ℕ) where
  pub first_left : (left : ℕ) → 0 < left
      → cards_left l slot left entries
      ≡ card_of l.cards slot ∷ cards_left l (link l.links.under slot) (left - 1) entries
  first_left zero h = absurd (omega arith)
  first_left (suc left) h =
      let same : left ≡ suc left - 1 = omega arith in
      ap (λ (n : ℕ). card_of l.cards slot ∷ cards_left l (link l.links.under slot) n entries) same

  pub others_left : (left : ℕ) → 0 < left → IsLeft l slot left entries
      → IsLeft l (link l.links.under slot) (left - 1) entries
  others_left zero h is = absurd (omega arith)
  others_left (suc left) h is = record {
    slots = λ k lk. is.slots (suc k) (omega arith);
    few = is.few;
  }

  pub none_left : (left : ℕ) → left ≡ 0 → cards_left l slot left entries ≡ entry_cards l entries
  none_left zero e = refl
  none_left (suc left) e = absurd (omega arith)

-- one entry further
pub empty_entry : (l : Linked) (n : ℕ) → 0 < n → top_of (cards_at l (36 + (n - 1))) ≡ None
    → entry_cards l n ≡ entry_cards l (n - 1)
empty_entry l zero h e = absurd (omega arith)
empty_entry l (suc n) h e =
    let same : suc n - 1 ≡ n = omega arith in
    let none : top_of (cards_at l (36 + n)) ≡ None = rw same at e in
    ap (λ o. option_to_list o ++ entry_cards l n) none ∙ ap (entry_cards l) (sym same)

pub filled_entry : (l : Linked) (n : ℕ) (card : Card) → 0 < n → top_of (cards_at l (36 + (n - 1))) ≡ Some card
    → entry_cards l n ≡ card ∷ entry_cards l (n - 1)
filled_entry l zero card h e = absurd (omega arith)
filled_entry l (suc n) card h e =
    let same : suc n - 1 ≡ n = omega arith in
    let some : top_of (cards_at l (36 + n)) ≡ Some card = rw same at e in
    ap (λ o. option_to_list o ++ entry_cards l n) some ∙ ap (λ m. card ∷ entry_cards l m) (sym same)

-- all entries
range_last : (a n : ℕ) → range_with_len a (suc n) ≡ range_with_len a n ++ (a + n) ∷ []
range_last a zero = let same : a ≡ a + 0 = omega arith in ap (λ (k : ℕ). k ∷ []) same
range_last a (suc n) =
    let same : a + 1 + n ≡ a + suc n = omega arith in
    ap (λ ks. a ∷ ks) (range_last (a + 1) n ∙ ap (λ (k : ℕ). range_with_len (a + 1) n ++ k ∷ []) same)

one_entry : (e : Option Card) → filter_map (λ (o : Option Card). o) (e ∷ []) ≡ option_to_list e
one_entry None = refl
one_entry (Some card) = refl

turned_entry : (e : Option Card) → reverse (option_to_list e) ≡ option_to_list e
turned_entry None = refl
turned_entry (Some card) = refl

pub all_entries : (l : Linked) (n : ℕ)
    → entry_cards l n
    ≡ reverse (filter_map (λ (o : Option Card). o) (map (λ k. top_of (cards_at l (36 + k))) (range_with_len 0 n)))
all_entries l zero = refl
all_entries l (suc n) =
    let g : ℕ → Option Card = λ (k : ℕ). top_of (cards_at l (36 + k)) in
    let cards : List (Option Card) → List Card = λ es. filter_map (λ (o : Option Card). o) es in
    let first : List (Option Card) = map g (range_with_len 0 n) in
    let zero_more : 0 + n ≡ n = omega arith in
    let list : cards (map g (range_with_len 0 (suc n))) ≡ cards first ++ option_to_list (g n) =
    ap (λ ks. cards (map g ks)) (range_last 0 n ∙ ap (λ (k : ℕ). range_with_len 0 n ++ k ∷ []) zero_more)
    ∙ ap cards (map-append g (range_with_len 0 n) (n ∷ []))
    ∙ filter_map-append (λ (o : Option Card). o) first (g n ∷ [])
    ∙ ap (λ xs. cards first ++ xs) (one_entry (g n)) in
    ap (λ xs. option_to_list (g n) ++ xs) (all_entries l n)
    ∙ sym (ap reverse list ∙ reverse-append (cards first) (option_to_list (g n))
    ∙ ap (λ xs. xs ++ reverse (cards first)) (turned_entry (g n)))

-- the parts of the board
yes_list : (a b : ℕ) (x y : List Card) → a < b → (if nat_lt a b then x else y) ≡ x
yes_list a b x y h = grind (arith, nat_tests)

no_list : (a b : ℕ) (x y : List Card) → b ≤ a → (if nat_lt a b then x else y) ≡ y
no_list a b x y h = grind (arith, nat_tests)

zero_list : (i : ℕ) (x y : List Card) → i ≡ 0 → (if nat_eq i 0 then x else y) ≡ x
zero_list i x y h = grind (arith, nat_tests)

more_list : (i : ℕ) (x y : List Card) → i ≢ 0 → (if nat_eq i 0 then x else y) ≡ y
more_list i x y h = grind (arith, nat_tests)

single_list : (xs : List Card) → length xs ≤ 1 → reverse xs ≡ option_to_list (top_of xs)
single_list [] h = refl
single_list (x ∷ []) h = refl
single_list (x ∷ y ∷ xs) h = absurd (omega arith)

module _ (l : Linked) (i : ℕ) where
  abbrev pile_by : ℕ → Pile
  pile_by k = record { cards = cards_at l k; face_down = face_at l k }

  pile_list : (if nat_lt i l.shape.piles then reverse (cards_at l i) else []) ≡ reverse (pile_at (board_of l) i).cards
  pile_list = elim (cases_lt i l.shape.piles) [
    | inl h ↦
        yes_list i l.shape.piles _ _ h
        ∙ ap (λ (q : Pile). reverse q.cards) (sym (part_at pile_by l.shape.piles i empty_pile h))
    | inr h ↦
        let n = length-range pile_by 0 l.shape.piles in
        no_list i l.shape.piles _ _ h
        ∙ ap (λ (q : Pile). reverse q.cards)
        (sym (get_or_past (map pile_by (range_with_len 0 l.shape.piles)) i empty_pile (omega arith)))
  ]

  entry_list : (base n : ℕ) → (i < n → length (cards_at l (base + i)) ≤ 1)
      → (if nat_lt i n then reverse (cards_at l (base + i)) else [])
      ≡ option_to_list (entry_at (map (λ k. top_of (cards_at l (base + k))) (range_with_len 0 n)) i)
  entry_list base n one = elim (cases_lt i n) [
    | inl h ↦
        yes_list i n _ _ h ∙ single_list (cards_at l (base + i)) (one h)
        ∙ ap option_to_list (sym (part_at (λ k. top_of (cards_at l (base + k))) n i None h))
    | inr h ↦
        let long = length-range (λ k. top_of (cards_at l (base + k))) 0 n in
        no_list i n _ _ h
        ∙ ap option_to_list
        (sym (get_or_past (map (λ k. top_of (cards_at l (base + k))) (range_with_len 0 n)) i None (omega arith)))
  ]

single_cell : (i : ℕ) → i < 68 → is_single (20 + i) ≡ true
single_cell i h = grind (arith, nat_tests)

single_entry : (i : ℕ) → i < 52 → is_single (36 + i) ≡ true
single_entry i h = grind (arith, nat_tests)

single_slot : (i : ℕ) → is_single (107 + i) ≡ true
single_slot i = grind (arith, nat_tests)

one_at : (l : Linked) (p : ℕ) → IsLinked l → p < 315 → is_single p ≡ true → length (cards_at l p) ≤ 1
one_at l p h lp one = let o = h.singles p lp one in let s = size_is l p in omega arith

-- what the code makes
module _ (c d : Linked) (view : c ≡ d) (h : IsLinked d) (i : ℕ) (r : List Card) where
  abbrev shown : ℕ → ℕ → List Card
  shown base n = if nat_lt i n then reverse (cards_at d (base + i)) else []

  pub made_pile : r ≡ (if nat_lt i c.shape.piles then reverse (cards_at d (0 + i)) else [])
      → r ≡ reverse (pile_at (board_of d) i).cards
  made_pile e =
      let z : 0 + i ≡ i = omega arith in
      e ∙ ap₂ (λ n p. let xs : List Card = (if nat_lt i n then reverse (cards_at d p) else []) in xs)
      (ap (λ x. x.shape.piles) view) z
      ∙ pile_list d i

  pub made_cell : r ≡ (if nat_lt i c.shape.cells then reverse (cards_at d (20 + i)) else [])
      → r ≡ option_to_list (entry_at (board_of d).cells i)
  made_cell e =
      let f = h.sized.small.cells in
      e ∙ ap (shown 20) (ap (λ x. x.shape.cells) view)
      ∙ entry_list d i 20 d.shape.cells (λ li. one_at d (20 + i) h (omega arith) (single_cell i (omega arith)))

  pub made_slot : r ≡ (if nat_lt i c.shape.slots then reverse (cards_at d (107 + i)) else [])
      → r ≡ option_to_list (entry_at (board_of d).slots i)
  made_slot e =
      let f = h.sized.small.slots in
      e ∙ ap (shown 107) (ap (λ x. x.shape.slots) view)
      ∙ entry_list d i 107 d.shape.slots (λ li. one_at d (107 + i) h (omega arith) (single_slot i))

  abbrev of_reserve : Bool → List Card
  of_reserve stacked =
      if stacked
      then (if nat_eq i 0 then reverse (filter_map (λ (o : Option Card). o) (board_of d).reserve) else [])
      else option_to_list (entry_at (board_of d).reserve i)

  pub made_entry : c.stacked ≡ false → r ≡ (if nat_lt i c.shape.entries then reverse (cards_at d (36 + i)) else [])
      → r ≡ of_reserve d.stacked
  made_entry one e =
      let f = h.sized.small.entries in
      e ∙ ap (shown 36) (ap (λ x. x.shape.entries) view)
      ∙ entry_list d i 36 d.shape.entries (λ li. one_at d (36 + i) h (omega arith) (single_entry i (omega arith)))
      ∙ sym (ap of_reserve (sym (ap (λ x. x.stacked) view) ∙ one))

  pub made_list : c.stacked ≡ true → i ≡ 0 → r ≡ entry_cards d c.shape.entries → r ≡ of_reserve d.stacked
  made_list one z e =
      e ∙ ap (λ x. entry_cards d x.shape.entries) view
      ∙ all_entries d d.shape.entries
      ∙ sym (ap of_reserve (sym (ap (λ x. x.stacked) view) ∙ one)
      ∙ zero_list i (reverse (filter_map (λ (o : Option Card). o) (board_of d).reserve)) [] z)

  pub made_past : c.stacked ≡ true → i ≢ 0 → r ≡ [] → r ≡ of_reserve d.stacked
  made_past one nz e =
      e ∙ sym (ap of_reserve (sym (ap (λ x. x.stacked) view) ∙ one)
      ∙ more_list i (reverse (filter_map (λ (o : Option Card). o) (board_of d).reserve)) [] nz)
