-- The slots under a part's uppermost card are those of its cards.
use Rattle.std.proofs.Common.{◌≡◌, ◌≢◌, ℕ, zero, suc, ◌+◌, ◌-◌, ◌<◌, ◌≤◌, Bool, true, false, ◌||◌, ◌&&◌, List, [], ◌∷◌}
use Rattle.std.proofs.Common.{length, map, refl, sym, ap, ◌∙◌}
use Rattle.std.proofs.Common.{subst, arith, inl, inr}
use Rattle.std.specs.Prelude.{Option, Some, None, IsTrue, is_some, nat_lt, nat_le, nat_eq, if◌then◌else◌}
use Rattle.std.specs.List.{range_with_len, list_all}
use Rattle.std.proofs.lemmas.Bool.{cases_lt, cases_eq}
use Rattle.std.proofs.lemmas.Bool.Decides.{nat_tests}
use Rattle.card_piles.specs.declared.Card.{Card}
use Rattle.game_rules.specs.declared.RuleParts.{RuleParts}
use Rattle.game_rules.specs.Board.{entry_at, top_of}
use Rattle.game_rules.specs.Belonging.{Belongs}
use Rattle.game_rules.proofs.Limits.{both}
use Rattle.card_links.specs.Chains.{Chains, link, follow, top_at, size_at, slot_at}
use Rattle.card_links.proofs.Following.{follow_more}
use Rattle.packed_state.specs.declared.Shape.{Shape}
use Rattle.packed_state.specs.declared.Spot.{Spot}
use Rattle.packed_state.specs.declared.Spot.TheVariants.{Pile, Cell, Reserve, Stock, Waste, Hole, Slot}
use Rattle.packed_state.specs.Packed.{Linked, IsLinked, is_inside, is_single, cards_at, board_of, is_stacked}
use Rattle.packed_state.specs.Spots.{card_at, under_top, in_entry}
use Rattle.packed_state.specs.Spots.{size_at as spot_size}
use Rattle.packed_state.specs.Slots.{slot_on, top_slot, card_in, before_entry, under_last, under_slot, under_of}
use Rattle.packed_state.specs.Slots.{slot_under, card_for, HasEntries, IsFollowed}
use Rattle.packed_state.proofs.Tops.{size_is, up_last}
use Rattle.packed_state.proofs.Moving.{some_top}
use Rattle.packed_state.proofs.Depths.{deep_some, deep_none, pile_read, pile_missing, entry_read, reserve_list}
use Rattle.packed_state.proofs.Depths.{reserve_past, reserve_none}
use Rattle.packed_state.proofs.Counts.{pile_size, cell_size, slot_size, reserve_entry, yes_number, no_number, low_cell}
use Rattle.packed_state.proofs.Counts.{low_entry, any_slot}
use Rattle.packed_state.proofs.Counts.{reserve_list as list_size, reserve_past as none_size}

lt_yes : (a b : ℕ) (x y : Option ℕ) → a < b → (if nat_lt a b then x else y) ≡ x
lt_yes a b x y h = grind (arith, nat_tests)

lt_no : (a b : ℕ) (x y : Option ℕ) → b ≤ a → (if nat_lt a b then x else y) ≡ y
lt_no a b x y h = grind (arith, nat_tests)

eq_yes : (a b : ℕ) (x y : Option ℕ) → a ≡ b → (if nat_eq a b then x else y) ≡ x
eq_yes a b x y h = grind (arith, nat_tests)

eq_no : (a b : ℕ) (x y : Option ℕ) → a ≢ b → (if nat_eq a b then x else y) ≡ y
eq_no a b x y h = grind (arith, nat_tests)

card_yes : (a b : ℕ) (x y : Option Card) → a < b → (if nat_lt a b then x else y) ≡ x
card_yes a b x y h = grind (arith, nat_tests)

card_no : (a b : ℕ) (x y : Option Card) → b ≤ a → (if nat_lt a b then x else y) ≡ y
card_no a b x y h = grind (arith, nat_tests)

card_other : (a b : ℕ) (x y : Option Card) → a ≢ b → (if nat_eq a b then x else y) ≡ y
card_other a b x y h = grind (arith, nat_tests)

none_any : (v : Bool) → (if v then None else None) ≡ (let o : Option Card = None in o)
none_any true = refl
none_any false = refl

if_none : (v : Bool) (o : Option ℕ) → (v ≡ true → o ≡ None) → (if v then o else None) ≡ None
if_none true o f = f refl
if_none false o f = refl

if_so : (v : Bool) (x y : Option ℕ) → v ≡ true → (if v then x else y) ≡ x
if_so true x y e = refl
if_so false x y e = cc

-- the search for an entry by its slot
before_none : (c : Chains) (n slot : ℕ) → ((i : ℕ) → i < n → top_at c (36 + suc i) ≢ slot)
    → before_entry c n slot ≡ None
before_none c zero slot h = refl
before_none c (suc n) slot h =
    eq_no (top_at c (36 + suc n)) slot _ _ (h n (omega arith)) ∙ before_none c n slot (λ i li. h i (omega arith))

before_found : (c : Chains) (n i : ℕ) → i < n
    → ((k : ℕ) → i < k → k < n → top_at c (36 + suc k) ≢ top_at c (36 + suc i))
    → before_entry c n (top_at c (36 + suc i)) ≡ slot_on c (36 + i)
before_found c zero i li h = absurd (omega arith)
before_found c (suc n) i li h = elim (cases_eq i n) [
  | inl e ↦
      eq_yes (top_at c (36 + suc n)) (top_at c (36 + suc i)) _ _ (ap (λ (k : ℕ). top_at c (36 + suc k)) (sym e))
      ∙ ap (λ (k : ℕ). slot_on c (36 + k)) (sym e)
  | inr ne ↦
      eq_no (top_at c (36 + suc n)) (top_at c (36 + suc i)) _ _ (h n (omega arith) (omega arith))
      ∙ before_found c n i (omega arith) (λ k lk ln. h k lk (omega arith))
]

pub slot_there : (c : Chains) (p : ℕ) → 0 < size_at c p → slot_on c p ≡ Some (top_at c p)
slot_there c p some = eq_no (size_at c p) 0 _ _ (λ e. absurd (omega arith))

pub slot_absent : (c : Chains) (p : ℕ) → size_at c p ≡ 0 → slot_on c p ≡ None
slot_absent c p none = eq_yes (size_at c p) 0 _ _ none

or_none : (a b : Bool) → a ≡ false → b ≡ false → (a || b) ≡ false
or_none a b e f = rw (e, f) refl

and_none : (a b : Bool) → b ≡ false → (a && b) ≡ false
and_none true b e = e
and_none false b e = refl

above : (a b : ℕ) → b ≤ a → nat_lt a b ≡ false
above a b h = grind (arith, nat_tests)

-- a reserve without entries has no place
outside_first : (sh : Shape) → sh.piles ≤ 20 → sh.cells ≤ 16 → sh.entries ≡ 0 → is_inside sh 36 ≡ false
outside_first sh piles cells none =
    or_none _ _ (or_none _ _ (or_none _ _ (or_none _ _ (or_none _ _ (or_none _ _ (or_none _ _
    (above 36 sh.piles (omega arith))
    (and_none (nat_le 20 36) _ (above 36 (20 + sh.cells) (omega arith))))
    (and_none (nat_le 36 36) _ (above 36 (36 + sh.entries) (omega arith))))
    refl) refl) refl) refl) refl

module _ (l : Linked) (h : IsLinked l) where
  -- the top of a place is no slot of another
  pub top_differs : (q p k : ℕ) → q < 315 → p < 315 → k < size_at l.links p → q ≢ p
      → top_at l.links q ≢ slot_at l.links p k
  top_differs q p k lq lp lk ne e = elim (cases_lt 0 (size_at l.links q)) [
    | inl some ↦ ne (h.chained.apart q p 0 k lq lp some lk e).0
    | inr none ↦
        let zero_size : size_at l.links q ≡ 0 = omega arith in
        let bottom : top_at l.links q ≡ 255 =
        subst (λ n. follow l.links.under n (top_at l.links q) ≡ 255) zero_size (h.chained.ends q lq) in
        let w = h.chained.within p k lp lk in let f = h.chained.fits in
        absurd (omega arith)
  ]

  under_next : (p k : ℕ) → p < 315 → suc k < size_at l.links p
      → under_slot l (slot_at l.links p k) ≡ Some (slot_at l.links p (suc k))
  under_next p k lp lk =
      let next : link l.links.under (slot_at l.links p k) ≡ slot_at l.links p (suc k) =
      sym (follow_more l.links.under k (top_at l.links p)) in
      let w = h.chained.within p (suc k) lp lk in let f = h.chained.fits in
      lt_yes (slot_at l.links p k) l.links.used _ _ (h.chained.within p k lp (omega arith))
      ∙ eq_no (link l.links.under (slot_at l.links p k)) 255 _ _ (λ e. absurd (omega arith))
      ∙ ap (λ (s : ℕ). let o : Option ℕ = Some s in o) next

  under_bottom : (p k : ℕ) → p < 315 → suc k ≡ size_at l.links p
      → under_slot l (slot_at l.links p k) ≡ under_last l (slot_at l.links p k)
  under_bottom p k lp e =
      let next : link l.links.under (slot_at l.links p k) ≡ 255 =
      sym (follow_more l.links.under k (top_at l.links p))
      ∙ ap (λ (n : ℕ). follow l.links.under n (top_at l.links p)) e ∙ h.chained.ends p lp in
      lt_yes (slot_at l.links p k) l.links.used _ _ (h.chained.within p k lp (omega arith))
      ∙ eq_yes (link l.links.under (slot_at l.links p k)) 255 _ _ next

  last_none : (p k : ℕ) → p < 315 → k < size_at l.links p
      → (l.stacked ≡ true → (i : ℕ) → i < l.shape.entries → 36 + i ≢ p) → under_last l (slot_at l.links p k) ≡ None
  last_none p k lp lk other =
      let few = h.sized.small.entries in
      if_none l.stacked (before_entry l.links (l.shape.entries - 1) (slot_at l.links p k))
      (λ st. before_none l.links (l.shape.entries - 1) (slot_at l.links p k)
      (λ i li. top_differs (36 + suc i) p k (omega arith) lp lk (other st (suc i) (omega arith))))

  -- a part that is the chain of a place
  module _ (spot : Spot) (p : ℕ) (lp : p < 315) (top : top_slot l spot ≡ slot_on l.links p)
      (other : l.stacked ≡ true → (i : ℕ) → i < l.shape.entries → 36 + i ≢ p) where
    slots_some : (k : ℕ) → k < size_at l.links p → slot_under l spot k ≡ Some (slot_at l.links p k)
    slots_some zero lk = top ∙ slot_there l.links p lk
    slots_some (suc k) lk = ap (under_of l) (slots_some k (omega arith)) ∙ under_next p k lp lk

    slots_none : (k : ℕ) → size_at l.links p ≤ k → slot_under l spot k ≡ None
    slots_none zero le = top ∙ slot_absent l.links p (omega arith)
    slots_none (suc k) le = elim (cases_lt k (size_at l.links p)) [
      | inl lk ↦ ap (under_of l) (slots_some k lk) ∙ under_bottom p k lp (omega arith) ∙ last_none p k lp lk other
      | inr ge ↦ ap (under_of l) (slots_none k ge)
    ]

    followed_chain : spot_size (is_stacked l) (board_of l) spot ≡ size_at l.links p
        → ((k : ℕ) → under_top (cards_at l p) k ≡ card_at (is_stacked l) (board_of l) spot k) → IsFollowed l spot
    followed_chain sized reads = record {
      cards = λ k. elim (cases_lt k (size_at l.links p)) [
        | inl lk ↦
            ap (card_for l) (slots_some k lk)
            ∙ card_yes (slot_at l.links p k) l.links.used _ _ (h.chained.within p k lp lk)
            ∙ sym (deep_some l p k lk) ∙ reads k
        | inr ge ↦ ap (card_for l) (slots_none k ge) ∙ sym (deep_none l p k ge) ∙ reads k
      ];
      ends = λ k le. slots_none k (omega arith);
      apart = λ j k lj lk e.
          let here : j < size_at l.links p = omega arith in
          let there : k < size_at l.links p = omega arith in
          let both_some : Some (slot_at l.links p j) ≡ Some (slot_at l.links p k) =
          sym (slots_some j here) ∙ e ∙ slots_some k there in
          let same : slot_at l.links p j ≡ slot_at l.links p k = cc in
          (h.chained.apart p p j k lp lp here there same).1;
    }

  all_none : (spot : Spot) → top_slot l spot ≡ None → (k : ℕ) → slot_under l spot k ≡ None
  all_none spot top zero = top
  all_none spot top (suc k) = ap (under_of l) (all_none spot top k)

  -- a part that the board does not have
  followed_none : (spot : Spot) → top_slot l spot ≡ None → spot_size (is_stacked l) (board_of l) spot ≡ 0
      → ((k : ℕ) → None ≡ card_at (is_stacked l) (board_of l) spot k) → IsFollowed l spot
  followed_none spot top none reads =
      let slots : (k : ℕ) → slot_under l spot k ≡ None = all_none spot top in
      record {
        cards = λ k. ap (card_for l) (slots k) ∙ reads k;
        ends = λ k le. slots k;
        apart = λ j k lj lk e. absurd (omega arith);
      }

  -- a part whose places have room for one card
  one_card : (xs : List Card) (k : ℕ) → length xs ≤ 1 → under_top xs k ≡ in_entry (top_of xs) k
  one_card [] k fit = card_no k 0 _ _ (omega arith) ∙ sym (none_any (nat_eq k 0))
  one_card (x ∷ []) zero fit = refl
  one_card (x ∷ []) (suc k) fit = card_no (suc k) 1 _ _ (omega arith) ∙ sym (card_other (suc k) 0 _ _ (omega arith))
  one_card (x ∷ y ∷ xs) k fit = absurd (omega arith)

  followed_entry : (spot : Spot) (base n i : ℕ) → base + n ≤ 315
      → top_slot l spot ≡ (if nat_lt i n then slot_on l.links (base + i) else None)
      → (if nat_lt i n then length (cards_at l (base + i)) else 0) ≡ spot_size (is_stacked l) (board_of l) spot
      → ((k : ℕ) → in_entry (entry_at (map (λ j. top_of (cards_at l (base + j))) (range_with_len 0 n)) i) k
      ≡ card_at (is_stacked l) (board_of l) spot k)
      → (i < n → is_single (base + i) ≡ true)
      → (i < n → l.stacked ≡ true → (j : ℕ) → j < l.shape.entries → 36 + j ≢ base + i)
      → IsFollowed l spot
  followed_entry spot base n i fit top sized reads single other = elim (cases_lt i n) [
    | inl li ↦
        let low : base + i < 315 = omega arith in
        let one = h.singles (base + i) low (single li) in
        let long = size_is l (base + i) in
        followed_chain spot (base + i) low (top ∙ lt_yes i n _ _ li) (other li)
        (sym sized ∙ yes_number i n _ _ li ∙ sym long)
        (λ k.
        one_card (cards_at l (base + i)) k (omega arith)
        ∙ sym (card_yes i n (in_entry (top_of (cards_at l (base + i))) k) None li)
        ∙ entry_read l i k base n ∙ reads k)
    | inr ge ↦
        followed_none spot (top ∙ lt_no i n _ _ ge) (sym sized ∙ no_number i n _ _ ge)
        (λ k.
        sym (card_no i n (in_entry (top_of (cards_at l (base + i))) k) None ge)
        ∙ entry_read l i k base n ∙ reads k)
  ]

  followed_pile : (i : ℕ) → IsFollowed l (Pile i)
  followed_pile i = elim (cases_lt i l.shape.piles) [
    | inl li ↦
        let few = h.sized.small.piles in
        followed_chain (Pile i) i (omega arith) (lt_yes i l.shape.piles _ _ li) (λ _ j _ e. absurd (omega arith))
        (sym (pile_size l i) ∙ yes_number i l.shape.piles _ _ li ∙ sym (size_is l i))
        (λ k. pile_read l i k li)
    | inr ge ↦
        followed_none (Pile i) (lt_no i l.shape.piles _ _ ge) (sym (pile_size l i) ∙ no_number i l.shape.piles _ _ ge)
        (λ k. pile_missing l i k ge)
  ]

  -- a stacked reserve: its entries from the last one down
  module _ (i : ℕ) (st : l.stacked ≡ true) (first : i ≡ 0) (full : HasEntries l) where
    abbrev n : ℕ
    n = l.shape.entries

    entry_low : (m : ℕ) → m < l.shape.entries → 36 + m < 315
    entry_low m lm = let few = h.sized.small.entries in omega arith

    entry_some : (m : ℕ) → m < l.shape.entries → 0 < size_at l.links (36 + m)
    entry_some m lm = let f = full st m lm in omega arith

    entries_differ : (j m : ℕ) → j < l.shape.entries → m < l.shape.entries → j ≢ m
        → top_at l.links (36 + j) ≢ top_at l.links (36 + m)
    entries_differ j m lj lm ne =
        top_differs (36 + j) (36 + m) 0 (entry_low j lj) (entry_low m lm) (entry_some m lm) (λ e. ne (omega arith))

    top_last : top_slot l (Reserve i) ≡ slot_on l.links (36 + (l.shape.entries - 1))
    top_last = if_so l.stacked _ _ st ∙ eq_yes i 0 _ _ first

    entry_under : (m : ℕ) → suc m < l.shape.entries
        → under_slot l (top_at l.links (36 + suc m)) ≡ Some (top_at l.links (36 + m))
    entry_under m lm =
        let one = full st (suc m) lm in
        under_bottom (36 + suc m) 0 (entry_low (suc m) lm) (omega arith)
        ∙ if_so l.stacked _ _ st
        ∙ before_found l.links (l.shape.entries - 1) m (omega arith)
        (λ k lk ln. entries_differ (suc k) (suc m) (omega arith) lm (omega arith))
        ∙ slot_there l.links (36 + m) (entry_some m (omega arith))

    entry_lowest : 0 < l.shape.entries → under_slot l (top_at l.links (36 + 0)) ≡ None
    entry_lowest some =
        let one = full st 0 some in
        under_bottom (36 + 0) 0 (entry_low 0 some) (omega arith)
        ∙ if_so l.stacked _ _ st
        ∙ before_none l.links (l.shape.entries - 1) (top_at l.links (36 + 0))
        (λ k lk. entries_differ (suc k) 0 (omega arith) some (omega arith))

    entries_some : (k : ℕ) → k < l.shape.entries
        → slot_under l (Reserve i) k ≡ Some (top_at l.links (36 + (l.shape.entries - 1 - k)))
    entries_some zero lk =
        let last : l.shape.entries - 1 ≡ l.shape.entries - 1 - 0 = omega arith in
        top_last ∙ slot_there l.links (36 + (l.shape.entries - 1)) (entry_some (l.shape.entries - 1) (omega arith))
        ∙ ap (λ (m : ℕ). let o : Option ℕ = Some (top_at l.links (36 + m)) in o) last
    entries_some (suc k) lk =
        let up : l.shape.entries - 1 - k ≡ suc (l.shape.entries - 1 - suc k) = omega arith in
        ap (under_of l) (entries_some k (omega arith))
        ∙ ap (λ (m : ℕ). under_slot l (top_at l.links (36 + m))) up
        ∙ entry_under (l.shape.entries - 1 - suc k) (omega arith)

    no_entries : l.shape.entries ≡ 0 → is_inside l.shape 36 ≡ false
    no_entries none =
        let a = h.sized.small.piles in let b = h.sized.small.cells in
        outside_first l.shape a b none

    entries_none : (k : ℕ) → l.shape.entries ≤ k → slot_under l (Reserve i) k ≡ None
    entries_none zero le =
        let none : l.shape.entries ≡ 0 = omega arith in
        let place : 36 + (l.shape.entries - 1) ≡ 36 = omega arith in
        top_last ∙ ap (slot_on l.links) place ∙ slot_absent l.links 36 (h.outside 36 (omega arith) (no_entries none))
    entries_none (suc k) le = elim (cases_lt k l.shape.entries) [
      | inl lk ↦
          let lowest : l.shape.entries - 1 - k ≡ 0 = omega arith in
          ap (under_of l) (entries_some k lk)
          ∙ ap (λ (m : ℕ). under_slot l (top_at l.links (36 + m))) lowest
          ∙ entry_lowest (omega arith)
      | inr ge ↦ ap (under_of l) (entries_none k ge)
    ]

    entry_card : (m : ℕ) → m < l.shape.entries → card_in l (top_at l.links (36 + m)) ≡ top_of (cards_at l (36 + m))
    entry_card m lm =
        card_yes (top_at l.links (36 + m)) l.links.used _ _
        (h.chained.within (36 + m) 0 (entry_low m lm) (entry_some m lm))
        ∙ sym (up_last l.cards l.links.under (size_at l.links (36 + m)) (top_at l.links (36 + m)) (entry_some m lm))

    followed_list : IsFollowed l (Reserve i)
    followed_list =
        let size = list_size l h i st first in
        record {
          cards = λ k. elim (cases_lt k l.shape.entries) [
            | inl lk ↦
                ap (card_for l) (entries_some k lk) ∙ entry_card (l.shape.entries - 1 - k) (omega arith)
                ∙ reserve_list l i k st first lk
            | inr ge ↦ ap (card_for l) (entries_none k ge) ∙ reserve_past l i k st ge
          ];
          ends = λ k le. entries_none k (omega arith);
          apart = λ j k lj lk e.
              let here : j < l.shape.entries = omega arith in
              let there : k < l.shape.entries = omega arith in
              let both_some : Some (top_at l.links (36 + (l.shape.entries - 1 - j)))
              ≡ Some (top_at l.links (36 + (l.shape.entries - 1 - k))) =
              sym (entries_some j here) ∙ e ∙ entries_some k there in
              let same : top_at l.links (36 + (l.shape.entries - 1 - j))
              ≡ top_at l.links (36 + (l.shape.entries - 1 - k)) = cc in
              elim (cases_eq j k) [
                | inl eq ↦ eq
                | inr ne ↦
                    absurd (entries_differ (l.shape.entries - 1 - j) (l.shape.entries - 1 - k) (omega arith)
                    (omega arith)
                    (λ q. ne (omega arith)) same)
              ];
        }

  followed_reserve : (v : Bool) → l.stacked ≡ v → (i : ℕ) → HasEntries l → IsFollowed l (Reserve i)
  followed_reserve true st i full = elim (cases_eq i 0) [
    | inl first ↦ followed_list i st first full
    | inr ne ↦
        followed_none (Reserve i) (if_so l.stacked _ _ st ∙ eq_no i 0 _ _ ne) (sym (none_size l h i st ne))
        (λ k. reserve_none l i k st ne)
  ]
  followed_reserve false st i full =
      let few = h.sized.small.entries in
      followed_entry (Reserve i) 36 l.shape.entries i (omega arith) (rw st refl) (reserve_entry l h i st)
      (λ k. rw st refl) (λ li. low_entry i (omega arith))
      (λ li yes j lj. let no : true ≡ false = sym yes ∙ st in cc)

  pub followed : (spot : Spot) → HasEntries l → IsFollowed l spot
  followed (Pile i) full = followed_pile i
  followed (Cell i) full =
      let few = h.sized.small.cells in let more = h.sized.small.entries in
      followed_entry (Cell i) 20 l.shape.cells i (omega arith) refl (cell_size l h i) (λ k. refl)
      (λ li. low_cell i (omega arith)) (λ li yes j lj e. absurd (omega arith))
  followed (Reserve i) full = followed_reserve l.stacked refl i full
  followed Stock full =
      let few = h.sized.small.entries in
      followed_chain Stock 89 (omega arith) refl (λ _ j lj e. absurd (omega arith)) (sym (size_is l 89)) (λ k. refl)
  followed Waste full =
      let few = h.sized.small.entries in
      followed_chain Waste 88 (omega arith) refl (λ _ j lj e. absurd (omega arith)) (sym (size_is l 88)) (λ k. refl)
  followed Hole full =
      let few = h.sized.small.entries in
      followed_chain Hole 106 (omega arith) refl (λ _ j lj e. absurd (omega arith)) (sym (size_is l 106)) (λ k. refl)
  followed (Slot i) full =
      let few = h.sized.small.slots in let more = h.sized.small.entries in
      followed_entry (Slot i) 107 l.shape.slots i (omega arith) refl (slot_size l h i) (λ k. refl)
      (λ li. any_slot i) (λ li yes j lj e. absurd (omega arith))

-- a stacked reserve that belongs to its rules has a card in each entry
all_range : (g : ℕ → Option Card) (a n i : ℕ) → IsTrue (list_all (λ e. is_some e) (map g (range_with_len a n))) → i < n
    → IsTrue (is_some (g (a + i)))
all_range g a zero i h li = absurd (omega arith)
all_range g a (suc n) zero h li =
    let same : a ≡ a + 0 = omega arith in
    subst (λ (k : ℕ). IsTrue (is_some (g k))) same (both (is_some (g a)) _ h).0
all_range g a (suc n) (suc i) h li =
    let up : a + 1 + i ≡ a + suc i = omega arith in
    subst (λ (k : ℕ). IsTrue (is_some (g k))) up (all_range g (a + 1) n i (both (is_some (g a)) _ h).1 (omega arith))

then_all : (v : Bool) (a b : Bool) → v ≡ true → IsTrue (if v then a else b) → IsTrue a
then_all true a b e h = h
then_all false a b e h = cc

pub entries_of : (rules : RuleParts) (l : Linked) → IsLinked l → Belongs rules (board_of l)
    → is_stacked l ≡ rules.stacked
    → HasEntries l
entries_of rules l h belongs alike st i li =
    let few = h.sized.small.entries in
    let filled = then_all rules.stacked _ _ (sym alike ∙ st) belongs.reserve_filled in
    let there = all_range (λ k. top_of (cards_at l (36 + k))) 0 l.shape.entries i filled li in
    let none : 0 + i ≡ i = omega arith in
    let some = some_top (cards_at l (36 + i))
    (subst (λ (k : ℕ). IsTrue (is_some (top_of (cards_at l (36 + k))))) none there) in
    let long = size_is l (36 + i) in
    let one = h.singles (36 + i) (omega arith) (low_entry i (omega arith)) in
    omega arith

-- what the code makes
pub top_pile : (c d : Linked) (view : c ≡ d) (i : ℕ) (r : Option ℕ)
    → r ≡ (if nat_lt i c.shape.piles then slot_on d.links (0 + i) else None) → r ≡ top_slot d (Pile i)
top_pile c d view i r e =
    let none : 0 + i ≡ i = omega arith in
    e ∙ ap (λ (x : Linked). let o : Option ℕ = (if nat_lt i x.shape.piles then slot_on d.links (0 + i) else None) in
    o) view
    ∙ ap (λ (p : ℕ). let o : Option ℕ = (if nat_lt i d.shape.piles then slot_on d.links p else None) in o) none
