-- What it means that a card is home, and how often a card stands on a board from which it can be taken.
use Rattle.std.proofs.Common.{inl, inr, ◌≡◌, ℕ, ◌+◌, ◌-◌, ◌<◌, ◌≤◌, suc, zero, Bool, true, ◌||◌, cond, List, [], ◌∷◌}
use Rattle.std.proofs.Common.{map, length, refl, ap, sym, ◌∙◌, subst, get_or, arith}
use Rattle.std.specs.Prelude.{IsTrue, ◌==◌}
use Rattle.std.specs.List.{list_all, list_any, range_with_len, enumerate_from, count_by, flat_map}
use Rattle.std.proofs.lemmas.List.FromFn.{length-enumerate_from, get_or-enumerate_from}
use Rattle.std.proofs.lemmas.List.Folds.{list_all-map, list_all-append}
use Rattle.std.proofs.lemmas.List.Sums.{sum_by-cons, get_or-le-sum_by}
use Rattle.std.proofs.lemmas.Bool.{or_cases, or_left, or_right, eqb-true}
use Rattle.std.proofs.lemmas.Bool.Decides.{nat_tests}
use Rattle.card_piles.specs.declared.Card.{Card}
use Rattle.card_piles.specs.declared.Suit.{Suit}
use Rattle.card_piles.specs.declared.Suit.TheVariants.{Clubs, Diamonds, Hearts, Spades}
use Rattle.card_piles.specs.Cards.{place_of, number_of}
use Rattle.game_rules.specs.declared.RuleParts.{RuleParts}
use Rattle.game_rules.specs.declared.Place.{Place}
use Rattle.game_rules.specs.declared.Place.TheVariants.{Tableau, Cell, Reserve, Waste, Foundation, Hole, Slot}
use Rattle.game_rules.specs.Rules.{foundation_rank}
use Rattle.game_rules.specs.Playable.{HasLimits}
use Rattle.game_rules.specs.Board.{Board, height_at, has_place, suit_at, foundation_card, foundation_cards}
use Rattle.game_rules.specs.Taking.{without, can_take, taken}
use Rattle.game_rules.specs.Belonging.{same_card, copies_of, copies_at_home, copies_on}
use Rattle.safe_moves.specs.Safe.{is_home, deck_of}
use Rattle.game_rules.proofs.Limits.{both}
use Rattle.game_rules.proofs.Copies.{copies-without}
use Rattle.safe_moves.proofs.Elsewhere.{is_source}

-- a number of a range that passes a test
pub record Found (p : ℕ → Bool) (a n : ℕ) : Type 0 where
  pub k : ℕ
  pub here : k < n
  pub passes : p (a + k) ≡ true

found_later : (p : ℕ → Bool) (a n : ℕ) → Found p (a + 1) n → Found p a (suc n)
found_later p a n h = record {
  k = suc h.k;
  here = (let l = h.here in omega arith);
  passes = subst (λ (j : ℕ). p j ≡ true) (omega arith) h.passes;
}

pub found-from_any : (p : ℕ → Bool) (a n : ℕ) → list_any p (range_with_len a n) ≡ true → Found p a n
found-from_any p a zero h = absurd (grind (arith, h))
found-from_any p a (suc n) h =
    elim (or_cases (p a) (list_any p (range_with_len (a + 1) n)) h) [
      | inl here ↦ record { k = 0; here = omega arith; passes = subst (λ (j : ℕ). p j ≡ true) (omega arith) here }
      | inr later ↦ found_later p a n (found-from_any p (a + 1) n later)
    ]

pub any-from_found : (p : ℕ → Bool) (a n k : ℕ) → k < n → p (a + k) ≡ true → list_any p (range_with_len a n) ≡ true
any-from_found p a zero k here h = absurd (omega arith)
any-from_found p a (suc n) zero here h = or_left (p a) _ (subst (λ (j : ℕ). p j ≡ true) (omega arith) h)
any-from_found p a (suc n) (suc k) here h =
    or_right (p a) _ (any-from_found p (a + 1) n k (omega arith) (subst (λ (j : ℕ). p j ≡ true) (omega arith) h))

pub all_in_range : (p : ℕ → Bool) (a n k : ℕ) → list_all p (range_with_len a n) ≡ true → k < n → p (a + k) ≡ true
all_in_range p a zero k h here = absurd (omega arith)
all_in_range p a (suc n) zero h here = subst (λ (j : ℕ). p j ≡ true) (omega arith) (both (p a) _ h).0
all_in_range p a (suc n) (suc k) h here =
    subst (λ (j : ℕ). p j ≡ true) (omega arith) (all_in_range p (a + 1) n k (both (p a) _ h).1 (omega arith))

pub all_in_flat_map : {A : Type 0} (p : A → Bool) (f : ℕ → List A) (a n k : ℕ)
    → list_all p (flat_map f (range_with_len a n)) ≡ true
    → k < n → list_all p (f (a + k)) ≡ true
all_in_flat_map p f a zero k h here = absurd (omega arith)
all_in_flat_map p f a (suc n) zero h here =
    subst (λ (j : ℕ). list_all p (f j) ≡ true) (omega arith)
    (both (list_all p (f a)) _ (sym (list_all-append p (f a) (flat_map f (range_with_len (a + 1) n))) ∙ h)).0
all_in_flat_map p f a (suc n) (suc k) h here =
    subst (λ (j : ℕ). list_all p (f j) ≡ true) (omega arith)
    (all_in_flat_map p f (a + 1) n k
    (both (list_all p (f a)) _ (sym (list_all-append p (f a) (flat_map f (range_with_len (a + 1) n))) ∙ h)).1
    (omega arith))

-- a card of a deck
suit-by_place : (s : Suit) → suit_at (place_of s) ≡ s
suit-by_place Clubs = refl
suit-by_place Diamonds = refl
suit-by_place Hearts = refl
suit-by_place Spades = refl

few_suits : (s : Suit) → place_of s < 4
few_suits Clubs = omega arith
few_suits Diamonds = omega arith
few_suits Hearts = omega arith
few_suits Spades = omega arith

pub all_of_deck : (p : Card → Bool) (max_rank : ℕ) (card : Card) → list_all p (deck_of max_rank) ≡ true → 1 ≤ card.rank
    → card.rank ≤ max_rank
    → p card ≡ true
all_of_deck p max_rank card h low high =
    let of_suit : ℕ → List Card = λ suit. map (λ rank. record { suit = suit_at suit; rank = rank })
    (range_with_len 1 max_rank) in
    let suits = all_in_flat_map p of_suit 0 4 (place_of card.suit) h (few_suits card.suit) in
    let mapped : list_all (λ rank. p (record { suit = suit_at (0 + place_of card.suit); rank = rank }))
    (range_with_len 1 max_rank) ≡ true
    = sym (list_all-map p (λ (rank : ℕ). record { suit = suit_at (0 + place_of card.suit); rank = rank })
    (range_with_len 1 max_rank)) ∙ suits in
    let at_rank : p (record { suit = suit_at (0 + place_of card.suit); rank = 1 + (card.rank - 1) }) ≡ true
    = all_in_range (λ rank. p (record { suit = suit_at (0 + place_of card.suit); rank = rank })) 1 max_rank
    (card.rank - 1) mapped (omega arith) in
    let same_rank : 1 + (card.rank - 1) ≡ card.rank = omega arith in
    let same_place : 0 + place_of card.suit ≡ place_of card.suit = omega arith in
    let suit : suit_at (0 + place_of card.suit) ≡ card.suit = ap suit_at same_place ∙ suit-by_place card.suit in
    subst (λ (s : Suit). p (record { suit = s; rank = card.rank }) ≡ true) suit
    (subst (λ (r : ℕ). p (record { suit = suit_at (0 + place_of card.suit); rank = r }) ≡ true) same_rank at_rank)

-- cards of a deck with one number are one card
same_card-by_number : (a b : Card) → 1 ≤ a.rank → a.rank ≤ 13 → 1 ≤ b.rank → b.rank ≤ 13 → number_of b ≡ number_of a
    → same_card a b ≡ true
same_card-by_number a b la ha lb hb h =
    let suits : place_of a.suit ≡ place_of b.suit = omega arith in
    let ranks : a.rank ≡ b.rank = omega arith in
    grind (arith, nat_tests)

rank_low : (rules : RuleParts) (j : ℕ) → 1 ≤ foundation_rank rules j
rank_low rules j = omega arith

rank_high : (rules : RuleParts) (j : ℕ) → HasLimits rules → foundation_rank rules j ≤ 13
rank_high rules j limits =
    let some : 0 < rules.max_rank = (let l = limits.some_rank in omega arith) in
    let high : rules.max_rank ≤ 13 = limits.max_rank in
    omega arith

-- counted at least once where some member passes
count_some : {A : Type 0} (p q : A → Bool) (g : ℕ → A) (a n : ℕ) → ((j : ℕ) → q (g j) ≡ true → p (g j) ≡ true)
    → list_any q (map g (range_with_len a n)) ≡ true → 1 ≤ count_by p (map g (range_with_len a n))
count_some {A = A} p q g a zero imp h = absurd (grind (arith, h))
count_some {A = A} p q g a (suc n) imp h =
    let f : A → ℕ = λ x. cond (p x) 1 0 in
    let split = sum_by-cons f (g a) (map g (range_with_len (a + 1) n)) in
    elim (or_cases (q (g a)) (list_any q (map g (range_with_len (a + 1) n))) h) [
      | inl here ↦ (let one : f (g a) ≡ 1 = ap (λ b. cond b 1 0) (imp a here) in omega (arith, split, one))
      | inr later ↦ omega (arith, split, count_some p q g (a + 1) n imp later)
    ]

-- a foundation that holds a card of this number
pub record HomeAt (rules : RuleParts) (board : Board) (card : Card) : Type 0 where
  pub f : ℕ
  pub within : f < length board.heights
  pub holds : list_any (λ c. number_of c == number_of card) (foundation_cards rules f (height_at board f)) ≡ true

pub home_at : (rules : RuleParts) (board : Board) (card : Card) → IsTrue (is_home rules board card)
    → HomeAt rules board card
home_at rules board card h =
    let found = found-from_any
    (λ f. list_any (λ c. number_of c == number_of card) (foundation_cards rules f (height_at board f))) 0
    (length board.heights) h in
    record { f = 0 + found.k; within = (let l = found.here in omega arith); holds = found.passes }

pub home-counted : (rules : RuleParts) (board : Board) (card : Card) → HasLimits rules → 1 ≤ card.rank → card.rank ≤ 13
    → IsTrue (is_home rules board card) → 1 ≤ copies_at_home rules card board.heights
home-counted rules board card limits low high h =
    let at = home_at rules board card h in
    let count : (ℕ × ℕ) → ℕ = λ f. copies_of card (foundation_cards rules f.0 f.1) in
    let some : 1 ≤ copies_of card (foundation_cards rules at.f (height_at board at.f))
    = count_some (same_card card) (λ c. number_of c == number_of card) (foundation_card rules at.f) 0
    (height_at board at.f)
    (λ j e. same_card-by_number card (foundation_card rules at.f j) low high (rank_low rules j)
    (rank_high rules j limits) (eqb-true _ _ e))
    at.holds in
    let within : at.f < length (enumerate_from 0 board.heights) = rw length-enumerate_from at.within in
    let part = get_or-le-sum_by count (enumerate_from 0 board.heights) at.f (0, 0) within in
    let entry : get_or (enumerate_from 0 board.heights) at.f (0, 0) ≡ (0 + at.f, height_at board at.f)
    = get_or-enumerate_from 0 board.heights at.f (0, 0) at.within in
    let plain : 0 + at.f ≡ at.f = omega arith in
    let same : count (get_or (enumerate_from 0 board.heights) at.f (0, 0)) ≡ copies_of card
    (foundation_cards rules at.f (height_at board at.f))
    = ap count entry ∙ ap (λ (f : ℕ). copies_of card (foundation_cards rules f (height_at board at.f))) plain in
    omega (arith, part, some, same)

-- no foundation is lower on the second board
pub record Raised (a b : Board) : Type 0 where
  pub many : length a.heights ≡ length b.heights
  pub heights : (f : ℕ) → height_at a f ≤ height_at b f

pub any_of_map : {A : Type 0} (q : A → Bool) (g : ℕ → A) (js : List ℕ)
    → list_any q (map g js) ≡ list_any (λ j. q (g j)) js
any_of_map q g [] = refl
any_of_map q g (j ∷ js) = ap (λ b. q (g j) || b) (any_of_map q g js)

any_longer : {A : Type 0} (q : A → Bool) (g : ℕ → A) (n m : ℕ) → n ≤ m → list_any q (map g (range_with_len 0 n)) ≡ true
    → list_any q (map g (range_with_len 0 m)) ≡ true
any_longer q g n m le h =
    let found = found-from_any (λ j. q (g j)) 0 n (sym (any_of_map q g (range_with_len 0 n)) ∙ h) in
    any_of_map q g (range_with_len 0 m) ∙ any-from_found (λ j. q (g j)) 0 m found.k
    (let l = found.here in omega arith) found.passes

pub home-raised : (rules : RuleParts) (a b : Board) (card : Card) → Raised a b → IsTrue (is_home rules a card)
    → IsTrue (is_home rules b card)
home-raised rules a b card up h =
    let at = home_at rules a card h in
    any-from_found (λ f. list_any (λ c. number_of c == number_of card) (foundation_cards rules f (height_at b f))) 0
    (length b.heights) at.f
    (subst (λ (n : ℕ). at.f < n) up.many at.within)
    (subst (λ (f : ℕ). list_any (λ c. number_of c == number_of card) (foundation_cards rules f (height_at b f)) ≡ true)
    (omega arith)
    (any_longer (λ c. number_of c == number_of card) (foundation_card rules at.f) (height_at a at.f) (height_at b at.f)
    (up.heights at.f) at.holds))

-- the first of the cards so taken stands on the board
same_card-self : (card : Card) → same_card card card ≡ true
same_card-self card = grind (arith, nat_tests)

pub first-counted : (card : Card) (cards : List Card) → 1 ≤ copies_of card (card ∷ cards)
first-counted card cards =
    let f : Card → ℕ = λ c. cond (same_card card c) 1 0 in
    let one : f card ≡ 1 = ap (λ b. cond b 1 0) (same_card-self card) in
    omega (arith, sum_by-cons f card cards, one)

pub taken-counted : (rules : RuleParts) (board : Board) (from : Place) (count : ℕ) (card : Card) (cards : List Card)
    → IsTrue (has_place rules board from) → IsTrue (can_take rules board from count)
    → taken rules board from count ≡ card ∷ cards
    → 1 ≤ copies_on rules board card
taken-counted rules board from count card cards here takes e =
    let all = copies-without rules board from count card here takes in
    let some = ap (copies_of card) e in
    omega (arith, all, some, first-counted card cards)

pub heights-without : (rules : RuleParts) (board : Board) (from : Place) (count : ℕ) → IsTrue (is_source from)
    → (without rules board from count).heights ≡ board.heights
heights-without rules board (Tableau i) count s = refl
heights-without rules board (Cell i) count s = refl
heights-without rules board (Reserve i) count s = refl
heights-without rules board Waste count s = refl
heights-without rules board (Foundation f) count s = absurd (grind (arith, s))
heights-without rules board Hole count s = absurd (grind (arith, s))
heights-without rules board (Slot i) count s = absurd (grind (arith, s))

home-le : (rules : RuleParts) (board : Board) (card : Card)
    → copies_at_home rules card board.heights ≤ copies_on rules board card
home-le rules board card = omega arith

-- a card that lies elsewhere and is home as well stands twice
pub taken_and_home : (rules : RuleParts) (board : Board) (from : Place) (count : ℕ) (card : Card)
    (cards : List Card) → HasLimits rules
    → IsTrue (is_source from) → IsTrue (has_place rules board from) → IsTrue (can_take rules board from count)
    → taken rules board from count ≡ card ∷ cards
    → 1 ≤ card.rank → card.rank ≤ 13 → IsTrue (is_home rules board card) → 2 ≤ copies_on rules board card
taken_and_home rules board from count card cards limits s here takes e low high home =
    let all = copies-without rules board from count card here takes in
    let some = ap (copies_of card) e in
    let left = home-le rules (without rules board from count) card in
    let same = ap (copies_at_home rules card) (heights-without rules board from count s) in
    let at_home = home-counted rules board card limits low high home in
    omega (arith, all, some, first-counted card cards, left, same, at_home)
