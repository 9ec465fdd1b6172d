-- The places of a legal carry among the links.
use Rattle.std.proofs.Common.{◌≡◌, ◌≢◌, ℕ, ◌+◌, ◌-◌, ◌<◌, ◌≤◌, Bool, true, false, ◌&&◌, List, length, map, refl, sym}
use Rattle.std.proofs.Common.{ap, ◌∙◌, subst, arith}
use Rattle.std.specs.Prelude.{IsTrue, nat_lt, nat_eq, if◌then◌else◌}
use Rattle.std.specs.List.{range_with_len}
use Rattle.std.proofs.lemmas.Bool.Decides.{nat_tests}
use Rattle.card_piles.specs.declared.Card.{Card}
use Rattle.game_rules.specs.declared.RuleParts.{RuleParts}
use Rattle.game_rules.specs.declared.Place.{Place}
use Rattle.game_rules.specs.declared.Place.TheVariants.{Tableau, Cell, Reserve, Waste, Foundation, Hole, Slot}
use Rattle.game_rules.specs.Board.{Pile, has_place, top_of}
use Rattle.game_rules.specs.Play.{kind_of, number_of_place, same_place}
use Rattle.packed_state.specs.declared.Shape.{Shape}
use Rattle.packed_state.specs.Packed.{Linked, IsLinked, board_by, index_of, source_of, shape_after, is_place}
use Rattle.packed_state.proofs.Ranges.{length-range}
use Rattle.packed_state.proofs.Boards.{RoomFor, source_high}
use Rattle.packed_state.proofs.Linking.{below_of}

-- the kind and the number of a place, from its number among the links
abbrev kind_in : ℕ → ℕ
kind_in p =
    if nat_lt p 20 then 0 else if nat_lt p 36 then 1 else if nat_lt p 88 then 2 else if nat_lt p 89 then 3 else
    if nat_lt p 106 then 4 else if nat_lt p 107 then 5 else 6

abbrev number_in : ℕ → ℕ
number_in p =
    if nat_lt p 20 then p else if nat_lt p 36 then p - 20 else if nat_lt p 88 then p - 36 else if nat_lt p 89 then 0
    else
    if nat_lt p 106 then p - 90 else if nat_lt p 107 then 0 else p - 107

source_under : (v : Bool) (sh : Shape) (i : ℕ) → sh.entries ≤ 52 → IsTrue (is_place sh (Reserve i))
    → source_of v sh (Reserve i) < 88
source_under true sh i few p = omega arith
source_under false sh i few p = let b = below_of _ _ p in let r : 36 + i < 88 = omega arith in r

module _ (l : Linked) (h : IsLinked l) where
  kind_found : (place : Place) → IsTrue (is_place l.shape place) → kind_in (index_of place) ≡ kind_of place
  kind_found (Tableau i) p = let b = below_of _ _ p in let f = h.sized.small.piles in let g : i < 20 = omega arith in
      grind (arith, nat_tests)
  kind_found (Cell i) p = let b = below_of _ _ p in let f = h.sized.small.cells in let g : i < 16 = omega arith in
      grind (arith, nat_tests)
  kind_found (Reserve i) p = let b = below_of _ _ p in let f = h.sized.small.entries in let g : i < 52 = omega arith in
      grind (arith, nat_tests)
  kind_found Waste p = refl
  kind_found (Foundation i) p = let b = below_of _ _ p in let f = h.sized.small.foundations in let g : i < 16 =
      omega arith in
      grind (arith, nat_tests)
  kind_found Hole p = refl
  kind_found (Slot i) p = grind (arith, nat_tests)

  number_found : (place : Place) → IsTrue (is_place l.shape place) → number_in (index_of place) ≡ number_of_place place
  number_found (Tableau i) p = let b = below_of _ _ p in let f = h.sized.small.piles in let g : i < 20 = omega arith in
      grind (arith, nat_tests)
  number_found (Cell i) p = let b = below_of _ _ p in let f = h.sized.small.cells in let g : i < 16 = omega arith in
      grind (arith, nat_tests)
  number_found (Reserve i) p = let b = below_of _ _ p in let f = h.sized.small.entries in let g : i < 52 =
      omega arith in
      grind (arith, nat_tests)
  number_found Waste p = refl
  number_found (Foundation i) p = let b = below_of _ _ p in let f = h.sized.small.foundations in let g : i < 16 =
      omega arith in
      grind (arith, nat_tests)
  number_found Hole p = refl
  number_found (Slot i) p = grind (arith, nat_tests)

  same_of : (a b c d : ℕ) → a ≡ b → c ≡ d → (nat_eq a b && nat_eq c d) ≡ true
  same_of a b c d e f = grind (arith, nat_tests)

  pub apart_of_places : (from to : Place) → IsTrue (is_place l.shape from) → IsTrue (is_place l.shape to)
      → same_place from to ≡ false → index_of from ≢ index_of to
  apart_of_places from to pf pt differ e =
      let k : kind_of from ≡ kind_of to = sym (kind_found from pf) ∙ ap kind_in e ∙ kind_found to pt in
      let n : number_of_place from ≡ number_of_place to = sym (number_found from pf) ∙ ap number_in e
      ∙ number_found to pt in
      let yes_same = same_of _ _ _ _ k n in
      let c : false ≡ true = sym differ ∙ yes_same in cc

pub zero_below : (i n : ℕ) → IsTrue (nat_eq i 0) → 0 < n → IsTrue (nat_lt i n)
zero_below i n h e = grind (arith, nat_tests)

find_reserve : (v : Bool) (i n m : ℕ) → (v ≡ true → 0 < n) → m ≡ n
    → IsTrue (if v then nat_eq i 0 else nat_lt i m) → IsTrue (nat_lt i n)
find_reserve true i n m some e h = zero_below i n h (some refl)
find_reserve false i n m some e h = subst (λ k. IsTrue (nat_lt i k)) e h

-- a place of the board is a place of the links; a stacked reserve must have a card
pub find_place : (rules : RuleParts) (sh : Shape) (rl : ℕ) (C : ℕ → List Card) (F : ℕ → ℕ) (place : Place)
    → ((i : ℕ) → rules.stacked ≡ true → place ≡ Reserve i → 0 < sh.entries)
    → IsTrue (has_place rules (board_by sh rl C F) place) → IsTrue (is_place sh place)
find_place rules sh rl C F (Tableau i) some h =
    subst (λ m. IsTrue (nat_lt i m))
    (length-range (λ k. let r : Pile = record { cards = C k; face_down = F k } in r) 0 sh.piles) h
find_place rules sh rl C F (Cell i) some h =
    subst (λ m. IsTrue (nat_lt i m)) (length-range (λ k. top_of (C (20 + k))) 0 sh.cells) h
find_place rules sh rl C F (Reserve i) some h =
    find_reserve rules.stacked i sh.entries _ (λ e. some i e refl)
    (length-range (λ k. top_of (C (36 + k))) 0 sh.entries) h
find_place rules sh rl C F Waste some h = refl
find_place rules sh rl C F (Foundation i) some h =
    subst (λ m. IsTrue (nat_lt i m)) (length-range (λ k. length (C (90 + k))) 0 sh.foundations) h
find_place rules sh rl C F Hole some h = refl
find_place rules sh rl C F (Slot i) some h =
    subst (λ m. IsTrue (nat_lt i m)) (length-range (λ k. top_of (C (107 + k))) 0 sh.slots) h

same_reserve : (v : Bool) (i m n : ℕ) → m ≡ n → IsTrue (if v then nat_eq i 0 else nat_lt i m)
    → IsTrue (if v then nat_eq i 0 else nat_lt i n)
same_reserve v i m n e h = subst (λ (k : ℕ). IsTrue (if v then nat_eq i 0 else nat_lt i k)) e h

-- two lists over one range
pub same_length : {X Y : Type 0} (g : ℕ → X) (h : ℕ → Y) (n : ℕ)
    → length (map g (range_with_len 0 n)) ≡ length (map h (range_with_len 0 n))
same_length g h n = length-range g 0 n ∙ sym (length-range h 0 n)

-- whatever lies there, the places are the same
pub place_again : (rules : RuleParts) (sh : Shape) (rl : ℕ) (C D : ℕ → List Card) (F G : ℕ → ℕ) (place : Place)
    → IsTrue (has_place rules (board_by sh rl C F) place) → IsTrue (has_place rules (board_by sh rl D G) place)
place_again rules sh rl C D F G (Tableau i) h =
    subst (λ m. IsTrue (nat_lt i m))
    (same_length (λ k. let r : Pile = record { cards = C k; face_down = F k } in r)
    (λ k. let r : Pile = record { cards = D k; face_down = G k } in r) sh.piles) h
place_again rules sh rl C D F G (Cell i) h =
    subst (λ m. IsTrue (nat_lt i m)) (same_length (λ k. top_of (C (20 + k))) (λ k. top_of (D (20 + k))) sh.cells) h
place_again rules sh rl C D F G (Reserve i) h =
    same_reserve rules.stacked i _ _ (same_length (λ k. top_of (C (36 + k))) (λ k. top_of (D (36 + k))) sh.entries) h
place_again rules sh rl C D F G Waste h = refl
place_again rules sh rl C D F G (Foundation i) h =
    subst (λ m. IsTrue (nat_lt i m)) (same_length (λ k. length (C (90 + k))) (λ k. length (D (90 + k))) sh.foundations)
    h
place_again rules sh rl C D F G Hole h = h
place_again rules sh rl C D F G (Slot i) h =
    subst (λ m. IsTrue (nat_lt i m)) (same_length (λ k. top_of (C (107 + k))) (λ k. top_of (D (107 + k))) sh.slots) h

-- a carry from a place of the reserve leaves the other places, and no card is put on the reserve
pub place_after : (rules : RuleParts) (v : Bool) (sh : Shape) (from : Place) (rl : ℕ) (C : ℕ → List Card) (F : ℕ → ℕ)
    (place : Place) (there cards : List Card) → RoomFor place there cards
    → IsTrue (has_place rules (board_by sh rl C F) place)
    → IsTrue (has_place rules (board_by (shape_after v sh from) rl C F) place)
place_after rules v sh (Tableau j) rl C F place there cards room h = h
place_after rules v sh (Cell j) rl C F place there cards room h = h
place_after rules true sh (Reserve j) rl C F (Tableau i) there cards room h = h
place_after rules true sh (Reserve j) rl C F (Cell i) there cards room h = h
place_after rules true sh (Reserve j) rl C F (Reserve i) there cards room h = absurd room
place_after rules true sh (Reserve j) rl C F Waste there cards room h = h
place_after rules true sh (Reserve j) rl C F (Foundation i) there cards room h = h
place_after rules true sh (Reserve j) rl C F Hole there cards room h = h
place_after rules true sh (Reserve j) rl C F (Slot i) there cards room h = h
place_after rules false sh (Reserve j) rl C F place there cards room h = h
place_after rules v sh Waste rl C F place there cards room h = h
place_after rules v sh (Foundation f) rl C F place there cards room h = h
place_after rules v sh Hole rl C F place there cards room h = h
place_after rules v sh (Slot j) rl C F place there cards room h = h

module _ (l : Linked) (h : IsLinked l) where
  entry_apart : (v : Bool) (i : ℕ) (to : Place) (there cards : List Card) → IsTrue (is_place l.shape (Reserve i))
      → IsTrue (is_place l.shape to) → RoomFor to there cards → source_of v l.shape (Reserve i) ≢ index_of to
  entry_apart v i (Tableau j) there cards pf pt room e =
      let b = below_of _ _ pt in let f = h.sized.small.piles in let g = source_high v l.shape i in omega arith
  entry_apart v i (Cell j) there cards pf pt room e =
      let b = below_of _ _ pt in let f = h.sized.small.cells in let g = source_high v l.shape i in omega arith
  entry_apart v i (Reserve j) there cards pf pt room e = absurd room
  entry_apart v i Waste there cards pf pt room e = absurd room
  entry_apart v i (Foundation f) there cards pf pt room e =
      let g = source_under v l.shape i h.sized.small.entries pf in omega arith
  entry_apart v i Hole there cards pf pt room e =
      let g = source_under v l.shape i h.sized.small.entries pf in omega arith
  entry_apart v i (Slot j) there cards pf pt room e =
      let g = source_under v l.shape i h.sized.small.entries pf in omega arith

  -- the place that cards are taken from is another than the one where they are put
  pub apart_of_source : (v : Bool) (from to : Place) (there cards : List Card) → IsTrue (is_place l.shape from)
      → IsTrue (is_place l.shape to) → RoomFor to there cards → same_place from to ≡ false
      → source_of v l.shape from ≢ index_of to
  apart_of_source v (Tableau i) to there cards pf pt room differ = apart_of_places l h (Tableau i) to pf pt differ
  apart_of_source v (Cell i) to there cards pf pt room differ = apart_of_places l h (Cell i) to pf pt differ
  apart_of_source v (Reserve i) to there cards pf pt room differ = entry_apart v i to there cards pf pt room
  apart_of_source v Waste to there cards pf pt room differ = apart_of_places l h Waste to pf pt differ
  apart_of_source v (Foundation f) to there cards pf pt room differ = apart_of_places l h (Foundation f) to pf pt differ
  apart_of_source v Hole to there cards pf pt room differ = apart_of_places l h Hole to pf pt differ
  apart_of_source v (Slot i) to there cards pf pt room differ = apart_of_places l h (Slot i) to pf pt differ
