-- A carry along the links is the carry on the board.
use Rattle.std.proofs.Common.{◌≡◌, ◌≢◌, ℕ, zero, suc, ◌+◌, ◌-◌, ◌<◌, ◌≤◌, min, Bool, true, false, ◌&&◌, List, [], ◌∷◌}
use Rattle.std.proofs.Common.{◌++◌, length, set, get_or, refl, sym, ap, ap₂, ◌∙◌, subst, arith, inl, inr}
use Rattle.std.specs.Prelude.{IsTrue, Option, Some, None, nat_eq, is_some, if◌then◌else◌}
use Rattle.std.specs.Option.{option_to_list}
use Rattle.std.proofs.lemmas.Bool.{cases_eq}
use Rattle.std.proofs.lemmas.Bool.Decides.{nat_tests}
use Rattle.std.proofs.lemmas.List.{get_or-set_same, get_or-set_other}
use Rattle.card_piles.specs.declared.Card.{Card}
use Rattle.game_rules.specs.declared.RuleParts.{RuleParts}
use Rattle.game_rules.specs.declared.Place.{Place}
use Rattle.game_rules.specs.declared.Place.TheVariants.{Tableau, Cell, Reserve, Waste, Foundation, Hole, Slot}
use Rattle.game_rules.specs.Board.{Board, Pile, top_part, foundation_top, foundation_card, pile_at}
use Rattle.game_rules.specs.Taking.{taken, can_take}
use Rattle.game_rules.specs.Play.{is_legal_carry}
use Rattle.game_rules.proofs.LegalFacts.{CarryFacts, carry_facts}
use Rattle.game_rules.proofs.Limits.{both}
use Rattle.card_links.specs.Chains.{link, follow, chain, top_at, size_at, slot_at, slots_of}
use Rattle.card_links.proofs.Following.{length-chain}
use Rattle.packed_state.specs.Packed.{Linked, IsLinked, index_of, source_of, is_place, is_single, face_at, cards_at}
use Rattle.packed_state.specs.Packed.{card_of, board_of, no_card}
use Rattle.packed_state.specs.Undoing.{CanCarry, face_of, with_face}
use Rattle.packed_state.proofs.Seams.{top-append, length-top, one-listed}
use Rattle.packed_state.proofs.Contents.{up, up-append, length-up}
use Rattle.packed_state.proofs.Boards.{AtSingle, RoomFor, face_after}
use Rattle.packed_state.proofs.Linking.{face_here, face_there, below_of}
use Rattle.packed_state.proofs.Finding.{find_place, apart_of_source}
use Rattle.packed_state.proofs.Moving.{Takes, takes_by, room_by, equal_one, pile_is, entries_some, never_put}

-- a card that is written in a slot
pub up_frame : (cards : List Card) (s : ℕ) (card : Card) (under : List ℕ) (n t : ℕ)
    → ((k : ℕ) → k < n → follow under k t ≢ s)
    → up (set cards s card) (chain under n t) ≡ up cards (chain under n t)
up_frame cards s card under zero t out = refl
up_frame cards s card under (suc n) t out =
    let first : t ≢ s = out 0 (omega arith) in
    let here : card_of (set cards s card) t ≡ card_of cards t = get_or-set_other cards s t card no_card first in
    up-append (set cards s card) (t ∷ []) (chain under n (link under t))
    ∙ ap₂ (λ xs c. xs ++ c ∷ []) (up_frame cards s card under n (link under t) (λ k lk. out (suc k) (omega arith))) here
    ∙ sym (up-append cards (t ∷ []) (chain under n (link under t)))

up_top : (cards : List Card) (s : ℕ) (card : Card) (under : List ℕ) (n m : ℕ) → s < length cards → n ≡ suc m
    → top_part 1 (up (set cards s card) (chain under n s)) ≡ card ∷ []
up_top cards s card under zero m ls e = absurd (omega arith)
up_top cards s card under (suc n) m ls e =
    ap (top_part 1) (up-append (set cards s card) (s ∷ []) (chain under n (link under s)))
    ∙ top-append (up (set cards s card) (chain under n (link under s))) (card_of (set cards s card) s ∷ []) 1 refl
    ∙ ap (λ c. c ∷ []) (get_or-set_same cards s card no_card ls)

pub if_here : (q a : ℕ) (x y : List Card) → q ≡ a → (if nat_eq q a then x else y) ≡ x
if_here q a x y e = grind (arith, nat_tests)

pub if_there : (q a : ℕ) (x y : List Card) → q ≢ a → (if nat_eq q a then x else y) ≡ y
if_there q a x y e = grind (arith, nat_tests)

face_same : (k i m face : ℕ) → k ≡ i → (if nat_eq k i then m else face) ≡ m
face_same k i m face e = grind (arith, nat_tests)

face_other : (k i m face : ℕ) → k ≢ i → (if nat_eq k i then m else face) ≡ face
face_other k i m face e = grind (arith, nat_tests)

module _ (l : Linked) (h : IsLinked l) where
  pub long : (p : ℕ) → length (cards_at l p) ≡ size_at l.links p
  long p = length-up l.cards (slots_of l.links p) ∙ length-chain l.links.under (size_at l.links p) (top_at l.links p)

  -- the face-down counts after a carry
  pub faces_after : (v : Bool) (from : Place) (count : ℕ) → IsTrue (is_place l.shape from) → (k : ℕ) → k < 20
      → get_or (with_face l.face_down from
      (min (face_of l from) (size_at l.links (source_of v l.shape from) - count - 1))) k 0
      ≡ face_after from count (size_at l.links (source_of v l.shape from)) (face_at l k) k
  faces_after v (Tableau i) count p k lk = elim (cases_eq k i) [
    | inl e ↦
        let len = h.sized.faces_length in
        face_here l.face_down v l.shape (Tableau i) _ k (omega arith) lk e
        ∙ ap (λ j. min (face_at l j) (size_at l.links i - count - 1)) (sym e)
        ∙ sym (face_same k i (min (face_at l k) (size_at l.links i - count - 1)) (face_at l k) e)
    | inr ne ↦
        face_there l.face_down v l.shape (Tableau i) _ k ne
        ∙ sym (face_other k i (min (face_at l k) (size_at l.links i - count - 1)) (face_at l k) ne)
  ]
  faces_after v (Cell i) count p k lk = refl
  faces_after v (Reserve i) count p k lk = refl
  faces_after v Waste count p k lk = refl
  faces_after v (Foundation i) count p k lk = refl
  faces_after v Hole count p k lk = refl
  faces_after v (Slot i) count p k lk = refl

  single_cell : (i : ℕ) → i < 16 → is_single (20 + i) ≡ true
  single_cell i lt = grind (arith, nat_tests)

  single_slot : (i : ℕ) → is_single (107 + i) ≡ true
  single_slot i = grind (arith, nat_tests)

  single_entry : (i : ℕ) → i < 52 → is_single (36 + i) ≡ true
  single_entry i lt = grind (arith, nat_tests)

  entry_one : (v : Bool) (i : ℕ) → IsTrue (is_place l.shape (Reserve i))
      → size_at l.links (source_of v l.shape (Reserve i)) ≤ 1
  entry_one true i p =
      let b = below_of _ _ p in let f = h.sized.small.entries in
      h.singles (36 + (l.shape.entries - 1)) (omega arith) (single_entry (l.shape.entries - 1) (omega arith))
  entry_one false i p =
      let b = below_of _ _ p in let f = h.sized.small.entries in
      h.singles (36 + i) (omega arith) (single_entry i (omega arith))

  -- a place for one card has at most one
  pub one_at : (v : Bool) (from : Place) → IsTrue (is_place l.shape from)
      → AtSingle from (size_at l.links (source_of v l.shape from) ≤ 1)
  one_at v (Tableau i) p = tt
  one_at v (Cell i) p =
      let b = below_of _ _ p in let f = h.sized.small.cells in
      h.singles (20 + i) (omega arith) (single_cell i (omega arith))
  one_at v (Reserve i) p = entry_one v i p
  one_at v Waste p = tt
  one_at v (Foundation i) p = tt
  one_at v Hole p = tt
  one_at v (Slot i) p =
      let b = below_of _ _ p in let f = h.sized.small.slots in
      h.singles (107 + i) (omega arith) (single_slot i)

pub at_single : (from : Place) (P Q : Type 0) → (P → Q) → AtSingle from P → AtSingle from Q
at_single (Tableau i) P Q f a = tt
at_single (Cell i) P Q f a = f a
at_single (Reserve i) P Q f a = f a
at_single Waste P Q f a = tt
at_single (Foundation i) P Q f a = tt
at_single Hole P Q f a = tt
at_single (Slot i) P Q f a = f a

-- the cards with that of a foundation's top written
module _ (rules : RuleParts) (l : Linked) (h : IsLinked l) (f : ℕ) (p : IsTrue (is_place l.shape (Foundation f)))
    (some : 0 < size_at l.links (90 + f)) where
  abbrev s : ℕ
  s = slot_at l.links (90 + f) 0

  f_below : 90 + f < 106
  f_below = let b = below_of _ _ p in let few = h.sized.small.foundations in omega arith

  s_below : s < length l.cards
  s_below = let w = h.chained.within (90 + f) 0 (let b = f_below in omega arith) some in let u = h.chained.fits in
      let c = h.sized.cards_length in omega arith

  pub written_other : (card : Card) (q : ℕ) → q < 315 → q ≢ 90 + f → up (set l.cards s card) (slots_of l.links q)
      ≡ cards_at l q
  written_other card q lq ne =
      up_frame l.cards s card l.links.under (size_at l.links q) (top_at l.links q)
      (λ k lk e. ne (h.chained.apart q (90 + f) k 0 lq (let b = f_below in omega arith) lk some e).0)

  pub written_top : (card : Card) → top_part 1 (up (set l.cards s card) (slots_of l.links (90 + f))) ≡ card ∷ []
  written_top card =
      up_top l.cards s card l.links.under (size_at l.links (90 + f)) (size_at l.links (90 + f) - 1) s_below
      (omega arith)

not_zero : (n : ℕ) (x : Option Card) → 0 < n → (if nat_eq n 0 then None else x) ≡ x
not_zero n x h = grind (arith, nat_tests)

pub foundation_some : (rules : RuleParts) (f n : ℕ) → 0 < n
    → foundation_top rules f n ≡ Some (foundation_card rules f (n - 1))
foundation_some rules f n h = not_zero n (Some (foundation_card rules f (n - 1))) h

-- how many cards are taken
one_counts : (count : ℕ) (o : Option Card) → IsTrue (nat_eq count 1 && is_some o) → length (option_to_list o) ≡ count
one_counts count o h = let t = both _ _ h in let n : count ≡ 1 = equal_one count t.0 in one-listed o t.1 ∙ sym n

count_is : (rules : RuleParts) (board : Board) (from : Place) (count : ℕ) → IsTrue (can_take rules board from count)
    → ((i : ℕ) → from ≡ Tableau i → count ≤ length (pile_at board i).cards)
    → length (taken rules board from count) ≡ count
count_is rules board (Tableau i) count h e = let n = length-top count (pile_at board i).cards in let m = e i refl in
    omega arith
count_is rules board (Cell i) count h e = one_counts count _ h
count_is rules board (Reserve i) count h e = one_counts count _ h
count_is rules board Waste count h e = one_counts count _ h
count_is rules board (Foundation f) count h e = one_counts count _ h
count_is rules board Hole count h e = let t = both (nat_eq count 1) false h in absurd (let q : false ≡ true = t.1 in cc)
count_is rules board (Slot i) count h e = one_counts count _ h

never : (p : ℕ) → p < 20 → is_single p ≡ true → ⊥
never p h e = grind (arith, nat_tests)

never_high : (p : ℕ) → 90 ≤ p → p < 107 → is_single p ≡ true → ⊥
never_high p h g e = grind (arith, nat_tests)

module _ (rules : RuleParts) (l : Linked) (h : IsLinked l) (from to : Place) (count : ℕ)
    (legal : IsTrue (is_legal_carry rules (board_of l) from to count)) where
  abbrev a : ℕ
  a = source_of rules.stacked l.shape from

  abbrev b : ℕ
  b = index_of to

  pub facts : CarryFacts rules (board_of l) from to count
  facts = carry_facts rules (board_of l) from to count legal

  pub from_there : IsTrue (is_place l.shape from)
  from_there =
      find_place rules l.shape l.redeals_left (cards_at l) (face_at l) from
      (λ i st e. entries_some rules l.shape l.redeals_left (cards_at l) (face_at l) from count i facts.takes st e)
      facts.from_place

  pub to_there : IsTrue (is_place l.shape to)
  to_there =
      find_place rules l.shape l.redeals_left (cards_at l) (face_at l) to
      (λ i _ e. absurd (never_put rules l.shape l.redeals_left (cards_at l) (face_at l) to _ i facts.puts e))
      facts.to_place

  pub takes : Takes from (cards_at l a) count
  takes = takes_by rules l.shape l.redeals_left (cards_at l) (face_at l) from count from_there facts.takes

  pub room : RoomFor to (cards_at l b) (taken rules (board_of l) from count)
  room =
      room_by rules l.shape l.redeals_left (cards_at l) (face_at l) to (taken rules (board_of l) from count) to_there
      facts.puts

  pile_count : (i : ℕ) → from ≡ Tableau i → count ≤ length (pile_at (board_of l) i).cards
  pile_count i e =
      let place : IsTrue (is_place l.shape (Tableau i)) = subst (λ x. IsTrue (is_place l.shape x)) e from_there in
      let at = ap (λ (q : Pile). length q.cards) (pile_is rules l.shape l.redeals_left (cards_at l) (face_at l) i place)
      in
      let t = takes.enough in
      let same : length (cards_at l a) ≡ length (cards_at l i) =
      ap (λ x. length (cards_at l (source_of rules.stacked l.shape x))) e in
      omega arith

  counted : length (taken rules (board_of l) from count) ≡ count
  counted = count_is rules (board_of l) from count facts.takes pile_count

  room_single : (place : Place) → IsTrue (is_place l.shape place)
      → RoomFor place (cards_at l (index_of place)) (taken rules (board_of l) from count)
      → is_single (index_of place) ≡ true → size_at l.links (index_of place) + count ≤ 1
  room_single (Tableau i) p r one =
      let lt = below_of _ _ p in let f = h.sized.small.piles in absurd (never i (omega arith) one)
  room_single (Cell i) p r one =
      let n = long l h (20 + i) in
      let e : length (cards_at l (20 + i)) ≡ 0 = ap length r.1 in
      let c = counted in let one_card = r.0 in omega arith
  room_single (Reserve i) p r one = absurd r
  room_single Waste p r one = absurd r
  room_single (Foundation i) p r one =
      let lt = below_of _ _ p in let f = h.sized.small.foundations in
      absurd (never_high (90 + i) (omega arith) (omega arith) one)
  room_single Hole p r one = absurd (never_high 106 (omega arith) (omega arith) one)
  room_single (Slot i) p r one =
      let n = long l h (107 + i) in
      let e : length (cards_at l (107 + i)) ≡ 0 = ap length r.1 in
      let c = counted in let one_card = r.0 in omega arith

  enough : count ≤ size_at l.links a
  enough = let n = long l h a in let t = takes.enough in omega arith

  pub can : CanCarry rules.stacked l from to count
  can = record {
    from_place = from_there;
    to_place = to_there;
    apart = apart_of_source l h rules.stacked from to _ _ from_there to_there room facts.apart;
    some = takes.some;
    enough = enough;
    room = room_single to to_there room;
  }
