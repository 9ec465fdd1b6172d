-- What a legal carry takes and where it goes, among the cards of the places.
use Rattle.std.proofs.Common.{◌≡◌, ℕ, zero, suc, ◌+◌, ◌-◌, ◌<◌, ◌≤◌, Bool, true, false, ◌&&◌, List, [], ◌∷◌, length}
use Rattle.std.proofs.Common.{map, drop, refl, sym, ap, ◌∙◌, subst, arith}
use Rattle.std.specs.Prelude.{IsTrue, Option, Some, None, nat_lt, nat_le, nat_eq, is_some, is_none, slice_get}
use Rattle.std.specs.Prelude.{if◌then◌else◌}
use Rattle.std.specs.List.{range_with_len}
use Rattle.std.specs.Option.{option_to_list, unwrap_or}
use Rattle.std.proofs.lemmas.Bool.Decides.{nat_tests}
use Rattle.card_piles.specs.declared.Card.{Card}
use Rattle.game_rules.specs.declared.RuleParts.{RuleParts}
use Rattle.game_rules.specs.declared.Place.{Place}
use Rattle.game_rules.specs.declared.Place.TheVariants.{Tableau, Cell, Reserve, Waste, Foundation, Hole, Slot}
use Rattle.game_rules.specs.Rules.{takes_back}
use Rattle.game_rules.specs.Board.{Board, Pile, empty_pile, pile_at, entry_at, height_at, top_of, top_part}
use Rattle.game_rules.specs.Board.{foundation_top}
use Rattle.game_rules.specs.Taking.{taken, can_take, single_at}
use Rattle.game_rules.specs.Putting.{can_put}
use Rattle.game_rules.proofs.Limits.{both}
use Rattle.packed_state.specs.declared.Shape.{Shape}
use Rattle.packed_state.specs.Packed.{board_by, index_of, source_of, is_place}
use Rattle.packed_state.proofs.Ranges.{range_get, length-range}
use Rattle.packed_state.proofs.Boards.{OneTaken, RoomFor, part_at}
use Rattle.packed_state.proofs.Seams.{length-top}
use Rattle.packed_state.proofs.Linking.{below_of}

top_list-at : (xs : List Card) (n : ℕ) → length xs ≡ suc n → option_to_list (slice_get xs n) ≡ drop n xs
top_list-at [] n e = absurd (omega arith)
top_list-at (x ∷ []) zero e = refl
top_list-at (x ∷ y ∷ xs) zero e = absurd (omega arith)
top_list-at (x ∷ xs) (suc n) e = top_list-at xs n (omega arith)

pub top_list : (xs : List Card) → option_to_list (top_of xs) ≡ top_part 1 xs
top_list [] = refl
top_list (x ∷ xs) = top_list-at (x ∷ xs) (length (x ∷ xs) - 1) (omega arith)

pub some_top : (xs : List Card) → IsTrue (is_some (top_of xs)) → 0 < length xs
some_top [] h = cc
some_top (x ∷ xs) h = omega arith

none_long : (o : Option Card) (xs : List Card) → option_to_list o ≡ top_part 1 xs → IsTrue (is_none o) → length xs ≡ 0
none_long None xs e h = let l = length-top 1 xs in let m : 0 ≡ length (top_part 1 xs) = ap length e in omega arith
none_long (Some x) xs e h = cc

empty_of : (xs : List Card) → length xs ≡ 0 → xs ≡ []
empty_of [] h = refl
empty_of (x ∷ xs) h = absurd (omega arith)

pub none_top : (xs : List Card) → IsTrue (is_none (top_of xs)) → xs ≡ []
none_top xs h = empty_of xs (none_long (top_of xs) xs (top_list xs) h)

pub equal_one : (n : ℕ) → IsTrue (nat_eq n 1) → n ≡ 1
equal_one n h = grind (arith, nat_tests)

equal_none : (n : ℕ) → IsTrue (nat_eq n 0) → n ≡ 0
equal_none n h = grind (arith, nat_tests)

at_most : (a b : ℕ) → IsTrue (nat_le a b) → a ≤ b
at_most a b h = grind (arith, nat_tests)

-- so many cards are there, and a place other than a pile gives one
pub record Takes (from : Place) (there : List Card) (count : ℕ) : Type 0 where
  pub some : 0 < count
  pub enough : count ≤ length there
  pub one : OneTaken from count

found_some : (rules : RuleParts) (f n : ℕ) (b : Bool) → IsTrue (is_some (if b then foundation_top rules f n else None))
    → 0 < n
found_some rules f zero true h = cc
found_some rules f (suc n) true h = omega arith
found_some rules f n false h = cc

stacked_some : (v : Bool) (n : ℕ) (g : ℕ → Option Card) (i : ℕ) → v ≡ true
    → IsTrue (is_some
    (if v then unwrap_or (top_of (map g (range_with_len 0 n))) None else entry_at (map g (range_with_len 0 n)) i))
    → 0 < n
stacked_some true zero g i e h = cc
stacked_some true (suc n) g i e h = omega arith
stacked_some false n g i e h = cc

module _ (rules : RuleParts) (sh : Shape) (rl : ℕ) (C : ℕ → List Card) (F : ℕ → ℕ) where
  abbrev was : Board
  was = board_by sh rl C F

  abbrev pile_by : ℕ → Pile
  pile_by k = record { cards = C k; face_down = F k }

  pub pile_is : (i : ℕ) → IsTrue (is_place sh (Tableau i)) → pile_at was i ≡ record { cards = C i; face_down = F i }
  pile_is i p = part_at pile_by sh.piles i empty_pile (below_of _ _ p)

  cell_is : (i : ℕ) → IsTrue (is_place sh (Cell i)) → entry_at was.cells i ≡ top_of (C (20 + i))
  cell_is i p = part_at (λ k. top_of (C (20 + k))) sh.cells i None (below_of _ _ p)

  slot_is : (i : ℕ) → IsTrue (is_place sh (Slot i)) → entry_at was.slots i ≡ top_of (C (107 + i))
  slot_is i p = part_at (λ k. top_of (C (107 + k))) sh.slots i None (below_of _ _ p)

  pub height_is : (f : ℕ) → IsTrue (is_place sh (Foundation f)) → height_at was f ≡ length (C (90 + f))
  height_is f p = part_at (λ k. length (C (90 + k))) sh.foundations f 0 (below_of _ _ p)

  reserve_never : (cards : List Card) (i : ℕ) → IsTrue (can_put rules was (Reserve i) cards) → ⊥
  reserve_never [] i h = cc
  reserve_never (x ∷ xs) i h = cc

  -- the last entry of a reserve
  last_is : 0 < sh.entries → unwrap_or (top_of (board_by sh rl C F).reserve) None ≡ top_of (C (36 + (sh.entries - 1)))
  last_is some =
      let long = length-range (λ k. top_of (C (36 + k))) 0 sh.entries in
      let last : length (board_by sh rl C F).reserve - 1 ≡ sh.entries - 1 = omega arith in
      let none : 0 + (sh.entries - 1) ≡ sh.entries - 1 = omega arith in
      ap (λ (n : ℕ). unwrap_or (slice_get (board_by sh rl C F).reserve n) None) last
      ∙ ap (λ (o : Option (Option Card)). unwrap_or o None)
      (range_get (λ k. top_of (C (36 + k))) 0 sh.entries (sh.entries - 1) (omega arith))
      ∙ ap (λ (n : ℕ). top_of (C (36 + n))) none

  reserve_is : (v : Bool) (i : ℕ) → i < sh.entries
      → (if v then unwrap_or (top_of (board_by sh rl C F).reserve) None else entry_at (board_by sh rl C F).reserve i)
      ≡ top_of (C (source_of v sh (Reserve i)))
  reserve_is true i lt = last_is (omega arith)
  reserve_is false i lt = part_at (λ k. top_of (C (36 + k))) sh.entries i None lt

  single_of_reserve : (i : ℕ) → IsTrue (is_place sh (Reserve i))
      → single_at rules was (Reserve i) ≡ top_of (C (source_of rules.stacked sh (Reserve i)))
  single_of_reserve i p = reserve_is rules.stacked i (below_of _ _ p)

  -- a stacked reserve that gives a card has one
  pub entries_some : (from : Place) (count i : ℕ) → IsTrue (can_take rules was from count) → rules.stacked ≡ true
      → from ≡ Reserve i → 0 < sh.entries
  entries_some from count i h st e =
      let t = both _ _ (subst (λ x. IsTrue (can_take rules was x count)) e h) in
      stacked_some rules.stacked sh.entries (λ k. top_of (C (36 + k))) i st t.1

  pub never_put : (to : Place) (cards : List Card) (i : ℕ) → IsTrue (can_put rules was to cards) → to ≡ Reserve i → ⊥
  never_put to cards i h e = reserve_never cards i (subst (λ x. IsTrue (can_put rules was x cards)) e h)

  one_card : (count : ℕ) (o : Option Card) (xs : List Card) → IsTrue (nat_eq count 1 && is_some o) → o ≡ top_of xs
      → (count ≡ 1) × (0 < length xs)
  one_card count o xs h e =
      let t = both _ _ h in
      (equal_one count t.0, some_top xs (subst (λ x. IsTrue (is_some x)) e t.1))

  pub takes_by : (from : Place) (count : ℕ) → IsTrue (is_place sh from) → IsTrue (can_take rules was from count)
      → Takes from (C (source_of rules.stacked sh from)) count
  takes_by (Tableau i) count p h =
      let at = pile_is i p in
      let runs = both _ _ h in
      let groups = both _ _ runs.0 in
      let enough =
      both (nat_lt 0 count) (nat_le ((pile_at was i).face_down + count) (length (pile_at was i).cards)) groups.0 in
      let e = at_most _ _ enough.1 in
      let same : length (pile_at was i).cards ≡ length (C i) = ap (λ (q : Pile). length q.cards) at in
      record { some = below_of _ _ enough.0; enough = omega arith; one = tt }
  takes_by (Cell i) count p h = let t = one_card count _ (C (20 + i)) h (cell_is i p) in
      record { some = omega arith; enough = omega arith; one = t.0 }
  takes_by (Reserve i) count p h = let t =
      one_card count _ (C (source_of rules.stacked sh (Reserve i))) h (single_of_reserve i p) in
      record { some = omega arith; enough = omega arith; one = t.0 }
  takes_by Waste count p h = let t = one_card count _ (C 88) h refl in
      record { some = omega arith; enough = omega arith; one = t.0 }
  takes_by (Foundation f) count p h =
      let t = both _ _ h in
      let c = equal_one count t.0 in
      let n = found_some rules f (height_at was f) (takes_back rules.goal) t.1 in
      let s = height_is f p in
      record { some = omega arith; enough = omega arith; one = c }
  takes_by Hole count p h = let t = both (nat_eq count 1) false h in absurd (let q : false ≡ true = t.1 in cc)
  takes_by (Slot i) count p h = let t = one_card count _ (C (107 + i)) h (slot_is i p) in
      record { some = omega arith; enough = omega arith; one = t.0 }

  then_is : (b : Bool) (o : Option Card) → IsTrue (is_some (if b then o else None)) → (if b then o else None) ≡ o
  then_is true o h = refl
  then_is false o h = cc

  -- the cards taken; those of a foundation are the ones that the rules say, where its top is
  pub taken_by : (from : Place) (count : ℕ) → IsTrue (is_place sh from) → IsTrue (can_take rules was from count)
      → ((f : ℕ) → from ≡ Foundation f
      → top_part 1 (C (90 + f)) ≡ option_to_list (foundation_top rules f (length (C (90 + f)))))
      → taken rules was from count ≡ top_part count (C (source_of rules.stacked sh from))
  taken_by (Tableau i) count p h w = ap (λ (q : Pile). top_part count q.cards) (pile_is i p)
  taken_by (Cell i) count p h w = let t = (takes_by (Cell i) count p h).one in ap option_to_list (cell_is i p)
      ∙ top_list (C (20 + i)) ∙ ap (λ n. top_part n (C (20 + i))) (sym t)
  taken_by (Reserve i) count p h w = let t = (takes_by (Reserve i) count p h).one in
      ap option_to_list (single_of_reserve i p) ∙ top_list (C (source_of rules.stacked sh (Reserve i)))
      ∙ ap (λ n. top_part n (C (source_of rules.stacked sh (Reserve i)))) (sym t)
  taken_by Waste count p h w = let t = (takes_by Waste count p h).one in top_list (C 88)
      ∙ ap (λ n. top_part n (C 88)) (sym t)
  taken_by (Foundation f) count p h w =
      let t = (takes_by (Foundation f) count p h).one in
      let k = both _ _ h in
      ap option_to_list (then_is (takes_back rules.goal) (foundation_top rules f (height_at was f)) k.1
      ∙ ap (foundation_top rules f) (height_is f p))
      ∙ sym (w f refl) ∙ ap (λ n. top_part n (C (90 + f))) (sym t)
  taken_by Hole count p h w = let t = both (nat_eq count 1) false h in absurd (let q : false ≡ true = t.1 in cc)
  taken_by (Slot i) count p h w = let t = (takes_by (Slot i) count p h).one in ap option_to_list (slot_is i p)
      ∙ top_list (C (107 + i)) ∙ ap (λ n. top_part n (C (107 + i))) (sym t)

  one_longer : (n : ℕ) → n ≡ 0 → suc n ≡ 1
  one_longer n e = omega arith

  -- the cards go where there is room for them
  pub room_by : (to : Place) (cards : List Card) → IsTrue (is_place sh to)
      → IsTrue (can_put rules was to cards) → RoomFor to (C (index_of to)) cards
  room_by to [] p h = cc
  room_by (Tableau i) (x ∷ xs) p h = tt
  room_by (Cell i) (x ∷ xs) p h =
      let t = both _ _ h in (
        one_longer (length xs) (equal_none _ t.0),
        none_top (C (20 + i))
            (subst (λ o. IsTrue (is_none o)) (cell_is i p) t.1),
      )
  room_by (Reserve i) (x ∷ xs) p h = cc
  room_by Waste (x ∷ xs) p h = cc
  room_by (Foundation f) (x ∷ xs) p h = tt
  room_by Hole (x ∷ xs) p h = tt
  room_by (Slot i) (x ∷ xs) p h =
      let t = both _ _ h in
      let u = both _ _ t.0 in (
        one_longer (length xs) (equal_none _ u.0),
        none_top (C (107 + i))
            (subst (λ o. IsTrue (is_none o)) (slot_is i p) u.1),
      )
