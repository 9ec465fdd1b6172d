-- A board that is the same as one that belongs to the rules belongs to them, if its hole holds the same cards.
use Rattle.std.proofs.Common.{◌≡◌, ℕ, ◌+◌, ◌%◌, ◌<◌, Bool, true, false, ◌||◌, List, [], ◌∷◌, map, length, get_or, refl}
use Rattle.std.proofs.Common.{ap, ap₂, sym, ◌∙◌, subst, arith, lit<, mod-eq_of_lt}
use Rattle.std.specs.Prelude.{cond, IsTrue, MatchBool, Option, nat_eq, nat_le, is_some, if◌then◌else◌}
use Rattle.std.specs.List.{list_all, sum_by, enumerate_from, range_with_len}
use Rattle.std.specs.List.Sorted.{IsPermutation}
use Rattle.std.proofs.lemmas.List.{length-map, get_or-map}
use Rattle.std.proofs.lemmas.List.FromFn.{length-enumerate_from, get_or-enumerate_from}
use Rattle.std.proofs.lemmas.List.Sums.{sum_by-cons}
use Rattle.std.proofs.lemmas.List.Sorted.{IsPermutation-refl, sum_by-IsPermutation, length_permutation}
use Rattle.std.proofs.lemmas.Nat.{mod_below}
use Rattle.card_piles.specs.declared.Card.{Card}
use Rattle.game_rules.specs.declared.RuleParts.{RuleParts}
use Rattle.game_rules.specs.Rules.{is_foundation_goal, is_hole_goal, is_sequence_goal, foundation_rank, deals_to_waste}
use Rattle.game_rules.specs.Playable.{HasLimits}
use Rattle.game_rules.specs.Board.{Board, Pile, suit_at, foundation_cards}
use Rattle.game_rules.specs.Play.{is_empty}
use Rattle.game_rules.specs.Belonging.{Belongs, same_card, holds, copies_of, copies_in, copies_in_piles, copies_at_home}
use Rattle.game_rules.specs.Belonging.{copies_on, lies_well}
use Rattle.same_boards.specs.Same.{Same, keeps_pile_order}
use Rattle.same_boards.proofs.Renaming.{Renaming, Alike, alike-from_places, Alike-list_all, Renamed-from_permutation}
use Rattle.same_boards.proofs.SameWins.{alike-heights, alike-slots, foundation_names}
use Rattle.same_boards.proofs.SameWins.{foundation_names-suits, slot_names}
use Rattle.same_boards.proofs.SameAfter.{permutation-from_alike, HasPlaces}

-- what is equal is equal up to order
up_to_order : {A : Type 0} (t : Bool) (xs ys : List A) → MatchBool t (xs ≡ ys) (IsPermutation xs ys)
    → IsPermutation xs ys
up_to_order {A = A} true xs ys h = subst (λ (zs : List A). IsPermutation xs zs) h (IsPermutation-refl xs)
up_to_order false xs ys h = h

all-permutation : {A : Type 0} (p : A → Bool) (xs ys : List A) → IsPermutation xs ys → IsTrue (list_all p xs)
    → IsTrue (list_all p ys)
all-permutation p xs ys h all =
    let r = Renamed-from_permutation xs ys h in
    Alike-list_all p r.names xs ys r.alike ∙ all

-- ---- foundations: a height counts by its suit alone

abbrev with_suit : ℕ × ℕ → ℕ × ℕ
with_suit f = (f.0 % 4, f.1)

abbrev by_suit : List ℕ → List (ℕ × ℕ)
by_suit heights = map with_suit (enumerate_from 0 heights)

remainder_twice : (f : ℕ) → f % 4 % 4 ≡ f % 4
remainder_twice f = mod-eq_of_lt (mod_below f 4 (lit< tt))

abbrev on_foundation : RuleParts → Card → ℕ × ℕ → ℕ
on_foundation rules card f = copies_of card (foundation_cards rules f.0 f.1)

suit-decides : (rules : RuleParts) (card : Card) (f h : ℕ)
    → on_foundation rules card (f, h) ≡ on_foundation rules card (f % 4, h)
suit-decides rules card f h =
    ap (λ (s : ℕ). copies_of card (map (λ (place : ℕ).
    let c : Card = record { suit = suit_at s; rank = foundation_rank rules place } in c) (range_with_len 0 h)))
    (sym (remainder_twice f))

home-by_suit : (rules : RuleParts) (card : Card) (n : ℕ) (heights : List ℕ)
    → sum_by (on_foundation rules card) (enumerate_from n heights) ≡ sum_by (on_foundation rules card)
    (map with_suit (enumerate_from n heights))
home-by_suit rules card n [] = refl
home-by_suit rules card n (h ∷ heights) =
    let first = sum_by-cons (on_foundation rules card) (n, h) (enumerate_from (n + 1) heights) in
    let other = sum_by-cons (on_foundation rules card) (n % 4, h) (map with_suit (enumerate_from (n + 1) heights)) in
    let rest = home-by_suit rules card (n + 1) heights in
    let one = suit-decides rules card n h in
    omega (arith, first, other, rest, one)

length-by_suit : (heights : List ℕ) → length (by_suit heights) ≡ length heights
length-by_suit heights = length-map (enumerate_from 0 heights) with_suit ∙ length-enumerate_from 0 heights

get-by_suit : (heights : List ℕ) (k : ℕ) (d : ℕ × ℕ) → k < length heights
    → get_or (by_suit heights) k d ≡ (k % 4, get_or heights k 0)
get-by_suit heights k d inside =
    let long = length-enumerate_from 0 heights in
    let zero-add : 0 + k ≡ k = omega arith in
    get_or-map with_suit (enumerate_from 0 heights) k (0, 0) d (omega (arith, long, inside))
    ∙ ap with_suit (get_or-enumerate_from 0 heights k (0, 0) inside)
    ∙ ap (λ (f : ℕ). (f % 4, get_or heights k 0)) zero-add

alike-by_suit : (r : Renaming) (xs ys : List ℕ) → ((f : ℕ) → r.to f % 4 ≡ f % 4) → Alike r xs ys
    → Alike r (by_suit xs) (by_suit ys)
alike-by_suit r xs ys suits alike =
    let long = length-by_suit xs in
    let other = length-by_suit ys in
    alike-from_places r (by_suit xs) (by_suit ys) (other ∙ alike.size ∙ sym long)
    (λ k h. let there : r.to k < length xs = alike.within k (omega (arith, long, h)) in omega (arith, there, long))
    (λ k h. let there : r.from k < length xs = alike.back k (omega (arith, long, h)) in omega (arith, there, long))
    (λ k d h.
    let here : k < length xs = omega (arith, long, h) in
    let there : r.to k < length xs = alike.within k here in
    get-by_suit ys (r.to k) d (omega (arith, there, alike.size))
    ∙ ap₂ (λ (s n : ℕ). (s, n)) (suits k) (alike.at k 0)
    ∙ sym (get-by_suit xs k d here))

home-alike : (rules : RuleParts) (card : Card) (r : Renaming) (xs ys : List ℕ)
    → ((f : ℕ) → r.to f % 4 ≡ f % 4) → Alike r xs ys
    → copies_at_home rules card xs ≡ copies_at_home rules card ys
home-alike rules card r xs ys suits alike =
    home-by_suit rules card 0 xs
    ∙ sym (sum_by-IsPermutation (on_foundation rules card) (by_suit xs) (by_suit ys)
    (permutation-from_alike r (by_suit xs) (by_suit ys) (alike-by_suit r xs ys suits alike)))
    ∙ sym (home-by_suit rules card 0 ys)

-- ---- heights and slots under their names

heights-named : (rules : RuleParts) (a b : Board) (same : Same rules a b) → HasPlaces rules a → HasPlaces rules b
    → Alike (foundation_names rules a b same) a.heights b.heights
heights-named rules a b same in_a in_b = alike-heights rules a b same
    (is_foundation_goal rules.goal) in_a.foundations in_b.foundations

heights-permuted : (rules : RuleParts) (a b : Board) (same : Same rules a b) → HasPlaces rules a → HasPlaces rules b
    → IsPermutation a.heights b.heights
heights-permuted rules a b same in_a in_b =
    permutation-from_alike (foundation_names rules a b same) a.heights b.heights
    (heights-named rules a b same in_a in_b)

slots-permuted : (rules : RuleParts) (a b : Board) (pos : 0 < rules.max_rank) (same : Same rules a b)
    → HasPlaces rules a → HasPlaces rules b
    → IsPermutation a.slots b.slots
slots-permuted rules a b pos same in_a in_b =
    permutation-from_alike (slot_names rules a b pos same) a.slots b.slots
    (alike-slots rules a b pos same (is_sequence_goal rules.goal) in_a.slots in_b.slots)

-- ---- each card stands as often

abbrev one_if : Bool → ℕ
one_if t = cond t 1 0

entries-alike : (card : Card) (xs ys : List (Option Card)) → IsPermutation xs ys → copies_in card xs ≡ copies_in card ys
entries-alike card xs ys h = sym (sum_by-IsPermutation (λ (e : Option Card). one_if (holds card e)) xs ys h)

cards-alike : (card : Card) (xs ys : List Card) → IsPermutation xs ys → copies_of card xs ≡ copies_of card ys
cards-alike card xs ys h = sym (sum_by-IsPermutation (λ (c : Card). one_if (same_card card c)) xs ys h)

piles-alike : (card : Card) (xs ys : List Pile) → IsPermutation xs ys
    → copies_in_piles card xs ≡ copies_in_piles card ys
piles-alike card xs ys h = sym (sum_by-IsPermutation (λ (pile : Pile). copies_of card pile.cards) xs ys h)

pub copies-from_same : (rules : RuleParts) (a b : Board) (card : Card) → HasLimits rules → HasPlaces rules a
    → HasPlaces rules b → Same rules a b
    → IsPermutation a.hole b.hole → copies_on rules a card ≡ copies_on rules b card
copies-from_same rules a b card limits in_a in_b same hole =
    let pos = limits.some_rank in
    let piles = piles-alike card a.piles b.piles (up_to_order (keeps_pile_order rules a) a.piles b.piles same.piles) in
    let cells = entries-alike card a.cells b.cells same.cells in
    let reserve = entries-alike card a.reserve b.reserve (up_to_order rules.stacked a.reserve b.reserve same.reserve) in
    let stock = ap (copies_of card) same.stock in
    let waste = ap (copies_of card) same.waste in
    let home = home-alike rules card (foundation_names rules a b same) a.heights b.heights
    (foundation_names-suits rules a b same)
    (heights-named rules a b same in_a in_b) in
    let under = cards-alike card a.hole b.hole hole in
    let slots = entries-alike card a.slots b.slots (slots-permuted rules a b pos same in_a in_b) in
    omega (arith, piles, cells, reserve, stock, waste, home, under, slots)

-- ---- the board belongs

reserve-kept : (t : Bool) (n : ℕ) (xs ys : List (Option Card)) → MatchBool t (xs ≡ ys) (IsPermutation xs ys)
    → IsTrue (if t then list_all (λ (e : Option Card). is_some e) xs else nat_eq (length xs) n)
    → IsTrue (if t then list_all (λ (e : Option Card). is_some e) ys else nat_eq (length ys) n)
reserve-kept true n xs ys h full =
    subst (λ (zs : List (Option Card)). IsTrue (list_all (λ (e : Option Card). is_some e) zs)) h full
reserve-kept false n xs ys h full = subst (λ (k : ℕ). IsTrue (nat_eq k n)) (sym (length_permutation xs ys h)) full

none-left : (xs ys : List Card) → length xs ≡ length ys → is_empty xs ≡ is_empty ys
none-left [] [] e = refl
none-left [] (y ∷ ys) e = absurd (omega arith)
none-left (x ∷ xs) [] e = absurd (omega arith)
none-left (x ∷ xs) (y ∷ ys) e = refl

pub belongs-from_same : (rules : RuleParts) (a b : Board) → HasLimits rules → Belongs rules a
    → HasPlaces rules b → Same rules a b
    → IsPermutation a.hole b.hole → Belongs rules b
belongs-from_same rules a b limits belongs in_b same hole =
    let pos = limits.some_rank in
    let in_a : HasPlaces rules a = record { foundations = belongs.foundations; slots = belongs.slots } in
    let piles = up_to_order (keeps_pile_order rules a) a.piles b.piles same.piles in
    let reserve = up_to_order rules.stacked a.reserve b.reserve same.reserve in
    let reserve_size = length_permutation a.reserve b.reserve reserve in
    let heights = heights-permuted rules a b same in_a in_b in
    record {
      piles = length_permutation a.piles b.piles piles ∙ belongs.piles;
      faces = all-permutation (lies_well rules.face) a.piles b.piles piles belongs.faces;
      cells = length_permutation a.cells b.cells same.cells ∙ belongs.cells;
      reserve_size = omega (arith, reserve_size, belongs.reserve_size);
      reserve_filled = reserve-kept rules.stacked rules.reserve a.reserve b.reserve same.reserve belongs.reserve_filled;
      stock = let stock = ap (λ (cards : List Card). length cards) same.stock in
          let waste = ap (λ (cards : List Card). length cards) same.waste in
          omega (arith, stock, waste, belongs.stock);
      waste = subst (λ (cards : List Card). IsTrue (deals_to_waste rules.target || is_empty cards))
          same.waste belongs.waste;
      redeals_left = let left = same.redeals_left in omega (arith, left, belongs.redeals_left);
      foundations = in_b.foundations;
      heights = all-permutation (λ (height : ℕ). nat_le height rules.max_rank) a.heights b.heights
          heights belongs.heights;
      hole = subst (λ (t : Bool). IsTrue (is_hole_goal rules.goal || t))
          (none-left a.hole b.hole same.hole_size) belongs.hole;
      slots = in_b.slots;
      cards = λ card. sym (copies-from_same rules a b card limits in_a in_b same hole) ∙ belongs.cards card;
    }
