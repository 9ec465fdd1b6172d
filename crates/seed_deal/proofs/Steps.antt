-- What each step of a layout takes and leaves: no card is lost, and none comes twice.
use Rattle.std.proofs.Common.{◌≡◌, ℕ, ◌+◌, ◌*◌, ◌-◌, ◌%◌, ◌<◌, ◌≤◌, zero, suc, Bool, true, false, ◌&&◌, not, List, []}
use Rattle.std.proofs.Common.{◌∷◌, map, length, replicate, refl, ap, sym, ◌∙◌, arith, inl, inr}
use Rattle.std.proofs.Common.{length-drop, mod-eq_of_lt}
use Rattle.std.specs.Prelude.{cond, Option, Some, None, IsTrue, ◌==◌, is_some, if◌then◌else◌}
use Rattle.std.specs.List.{sum_by, count_by, filter, enumerate_from, list_all}
use Rattle.std.proofs.lemmas.List.Sums.{sum_by-cons, sum_by-append, length-filter}
use Rattle.std.proofs.lemmas.Bool.{eq-eqb, ne_eqb, eqb-true, cases_eq, cases_Bool, and_parts}
use Rattle.card_piles.specs.declared.Card.{Card}
use Rattle.card_piles.specs.declared.Suit.{Suit}
use Rattle.card_piles.specs.declared.Suit.TheVariants.{Clubs, Diamonds, Hearts, Spades}
use Rattle.card_piles.specs.Cards.{place_of}
use Rattle.card_piles.specs.Builds.{same_suit}
use Rattle.game_rules.specs.declared.RuleParts.{RuleParts}
use Rattle.game_rules.specs.declared.Goal.{Goal}
use Rattle.game_rules.specs.declared.Goal.TheVariants.{Foundations, Hole, Sequences}
use Rattle.game_rules.specs.declared.HoleStart.TheVariants.{Dealt, Named}
use Rattle.game_rules.specs.Rules.{base_of, is_hole_goal}
use Rattle.game_rules.specs.Board.{foundation_card, foundation_cards}
use Rattle.game_rules.specs.Belonging.{same_card, holds, copies_of, copies_in, copies_at_home}
use Rattle.game_rules.specs.Position.{filled}
use Rattle.game_rules.proofs.Rooms.{suit-at_place, card-by_parts}
use Rattle.game_rules.proofs.FewCards.{once}
use Rattle.game_rules.proofs.Copies.{copies-cons, copies-cut}
use Rattle.seed_deal.specs.Layout.{without_first, dealt_hole, beside_hole, slot_for}

-- two cards that are the same are one card
pub same_card-eq : (a b : Card) → IsTrue (same_card a b) → a ≡ b
same_card-eq a b same =
    let parts = and_parts (same_suit a.suit b.suit) (a.rank == b.rank) same in
    let suit : a.suit ≡ b.suit = suit-at_place a.suit (place_of b.suit)
    (eqb-true (place_of a.suit) (place_of b.suit) parts.0) ∙ sym (suit-at_place b.suit (place_of b.suit) refl) in
    card-by_parts a b.suit b.rank suit (eqb-true a.rank b.rank parts.1)

-- Step 1: the cards that stay, when those of one rank are taken out.

abbrev staying : ℕ → List Card → List Card
staying b deck = filter (λ card. not (card.rank == b)) deck

-- no card of the rank stays, and each other card does
not_same : (card c : Card) → (card.rank ≡ c.rank → ⊥) → same_card card c ≡ false
not_same card c differ =
    elim (cases_Bool (same_card card c)) [
      | inl same ↦ absurd (differ (ap (λ (x : Card). x.rank) (same_card-eq card c same)))
      | inr other ↦ other
    ]

kept_or_not : (card : Card) (b : ℕ) (c : Card) (rest : List Card) (t : Bool) → (c.rank == b) ≡ t
    → copies_of card (cond (not t) (c ∷ rest) rest) ≡ cond t 0 (once (same_card card c)) + copies_of card rest
kept_or_not card b c rest true is = omega arith
kept_or_not card b c rest false is = copies-cons card c rest

staying-step : (card : Card) (b : ℕ) (c : Card) (deck : List Card)
    → copies_of card (staying b (c ∷ deck)) ≡ cond (c.rank == b) 0
    (once (same_card card c)) + copies_of card (staying b deck)
staying-step card b c deck = kept_or_not card b c (staying b deck) (c.rank == b) refl

pub staying-none : (card : Card) (b : ℕ) (deck : List Card) → card.rank ≡ b → copies_of card (staying b deck) ≡ 0
staying-none card b [] same = refl
staying-none card b (c ∷ deck) same =
    let rest = staying-none card b deck same in
    let step = staying-step card b c deck in
    let nothing : cond (c.rank == b) 0 (once (same_card card c)) ≡ 0 =
    elim (cases_eq c.rank b) [
      | inl is ↦ ap (λ (t : Bool). cond t 0 (once (same_card card c))) (eq-eqb c.rank b is)
      | inr differ ↦
          ap (λ (t : Bool). cond t 0 (once (same_card card c))) (ne_eqb c.rank b differ)
          ∙ ap once (not_same card c (λ e. differ (sym e ∙ same)))
    ] in
    omega (arith, step, rest, nothing)

pub staying-all : (card : Card) (b : ℕ) (deck : List Card) → (card.rank ≡ b → ⊥)
    → copies_of card (staying b deck) ≡ copies_of card deck
staying-all card b [] differ = refl
staying-all card b (c ∷ deck) differ =
    let rest = staying-all card b deck differ in
    let step = staying-step card b c deck in
    let all = copies-cons card c deck in
    let here : cond (c.rank == b) 0 (once (same_card card c)) ≡ once (same_card card c) =
    elim (cases_eq c.rank b) [
      | inl is ↦
          ap (λ (t : Bool). cond t 0 (once (same_card card c))) (eq-eqb c.rank b is)
          ∙ sym (ap once (not_same card c (λ e. differ (e ∙ is))))
      | inr other ↦ ap (λ (t : Bool). cond t 0 (once (same_card card c))) (ne_eqb c.rank b other)
    ] in
    omega (arith, step, rest, all, here)

split-count : (t : Bool) → cond (not t) 1 0 + cond t 1 0 ≡ 1
split-count true = refl
split-count false = refl

pub length-staying : (b : ℕ) (deck : List Card)
    → length (staying b deck) + count_by (λ c. c.rank == b) deck ≡ length deck
length-staying b [] = refl
length-staying b (c ∷ deck) =
    let stays : Card → Bool = λ (x : Card). not (x.rank == b) in
    let kept = length-filter stays (c ∷ deck) in
    let others = length-filter stays deck in
    let first = sum_by-cons (λ (x : Card). cond (stays x) 1 0) c deck in
    let second = sum_by-cons (λ (x : Card). cond (x.rank == b) 1 0) c deck in
    omega (arith, kept, others, first, second, split-count (c.rank == b), length-staying b deck)

-- the first cards of the foundations
home-empty : (rules : RuleParts) (card : Card) (k n : ℕ) → sum_by (λ f. copies_of card (foundation_cards rules f.0 f.1))
    (enumerate_from k (replicate n 0)) ≡ 0
home-empty rules card k zero = refl
home-empty rules card k (suc n) =
    let each : ℕ × ℕ → ℕ = λ (f : ℕ × ℕ). copies_of card (foundation_cards rules f.0 f.1) in
    omega (arith, sum_by-cons each (k, 0) (enumerate_from (k + 1) (replicate n 0)), home-empty rules card (k + 1) n)

pub home-none : (rules : RuleParts) (card : Card) (n : ℕ) → copies_at_home rules card (replicate n 0) ≡ 0
home-none rules card n = home-empty rules card 0 n

four_firsts : (s : Suit) (t : Bool) → once (same_suit s Clubs && t) + once (same_suit s Diamonds && t) + once
    (same_suit s Hearts && t) + once (same_suit s Spades && t) ≡ once t
four_firsts Clubs t = omega arith
four_firsts Diamonds t = omega arith
four_firsts Hearts t = omega arith
four_firsts Spades t = omega arith

one_home : (rules : RuleParts) (card : Card) (k n : ℕ) → sum_by (λ f. copies_of card (foundation_cards rules f.0 f.1))
    (enumerate_from k (replicate (suc n) 1))
    ≡ once (same_card card (foundation_card rules k 0)) + sum_by (λ f. copies_of card (foundation_cards rules f.0 f.1))
    (enumerate_from (k + 1) (replicate n 1))
one_home rules card k n =
    let each : ℕ × ℕ → ℕ = λ (f : ℕ × ℕ). copies_of card (foundation_cards rules f.0 f.1) in
    omega (
      arith,
      sum_by-cons each (k, 1) (enumerate_from (k + 1) (replicate n 1)),
      copies-cons card
          (foundation_card rules k 0) [],
    )

four_homes : (rules : RuleParts) (card : Card) (heights : List ℕ) → heights ≡ replicate 4 1
    → copies_at_home rules card heights ≡ once (card.rank == ((base_of rules.goal - 1) + 0) % rules.max_rank + 1)
four_homes rules card heights is =
    let at_first : Bool = card.rank == ((base_of rules.goal - 1) + 0) % rules.max_rank + 1 in
    ap (copies_at_home rules card) is
    ∙ omega (
      arith,
      one_home rules card 0 3,
      one_home rules card 1 2,
      one_home rules card 2 1,
      one_home rules card 3 0,
      four_firsts card.suit at_first,
    )

eight_homes : (rules : RuleParts) (card : Card) (heights : List ℕ) → heights ≡ replicate 8 1
    → copies_at_home rules card heights ≡ 2 * once (card.rank == ((base_of rules.goal - 1) + 0) % rules.max_rank + 1)
eight_homes rules card heights is =
    let at_first : Bool = card.rank == ((base_of rules.goal - 1) + 0) % rules.max_rank + 1 in
    ap (copies_at_home rules card) is
    ∙ omega (
      arith,
      one_home rules card 0 7,
      one_home rules card 1 6,
      one_home rules card 2 5,
      one_home rules card 3 4,
      one_home rules card 4 3,
      one_home rules card 5 2,
      one_home rules card 6 1,
      one_home rules card 7 0,
      four_firsts card.suit at_first,
    )

pub home-started : (rules : RuleParts) (card : Card) → 1 ≤ rules.decks → rules.decks ≤ 2 → 1 ≤ base_of rules.goal
    → base_of rules.goal ≤ rules.max_rank
    → copies_at_home rules card (replicate (4 * rules.decks) 1) ≡ rules.decks * once (card.rank == base_of rules.goal)
home-started rules card some few low high =
    let small : (base_of rules.goal - 1) + 0 < rules.max_rank = omega (arith, low, high) in
    let first : ((base_of rules.goal - 1) + 0) % rules.max_rank + 1 ≡ base_of rules.goal =
    ap (λ (n : ℕ). n + 1) (mod-eq_of_lt small) ∙ omega (arith, low) in
    let test = ap (λ (r : ℕ). once (card.rank == r)) first in
    elim (cases_eq rules.decks 1) [
      | inl one ↦
          let homes = four_homes rules card (replicate (4 * rules.decks) 1) (ap (λ (n : ℕ). replicate (4 * n) 1) one) in
          let product : rules.decks * once (card.rank == base_of rules.goal) ≡ 1 * once
          (card.rank == base_of rules.goal) = ap (λ (n : ℕ). n * once (card.rank == base_of rules.goal)) one in
          omega (arith, homes, test, product)
      | inr more ↦
          let two : rules.decks ≡ 2 = omega (arith, some, few, more) in
          let homes = eight_homes rules card (replicate (4 * rules.decks) 1)
          (ap (λ (n : ℕ). replicate (4 * n) 1) two) in
          let product : rules.decks * once (card.rank == base_of rules.goal) ≡ 2 * once
          (card.rank == base_of rules.goal) = ap (λ (n : ℕ). n * once (card.rank == base_of rules.goal)) two in
          omega (arith, homes, test, product)
    ]

-- Step 2: the hole.

without-step : (card c next : Card) (cards : List Card) (t : Bool) → same_card card next ≡ t
    → (t ≡ false → copies_of c (card ∷ []) + copies_of c (without_first card cards) ≡ copies_of c cards)
    → copies_of c (card ∷ []) + copies_of c (cond t cards (next ∷ without_first card cards))
    ≡ copies_of c (next ∷ cards)
without-step card c next cards true same rest =
    let one = copies-cons c card [] in
    let all = copies-cons c next cards in
    let turned = ap (λ (x : Card). once (same_card c x)) (same_card-eq card next same) in
    omega (arith, one, all, turned)
without-step card c next cards false same rest =
    let kept = copies-cons c next (without_first card cards) in
    let all = copies-cons c next cards in
    omega (arith, kept, all, rest refl)

pub copies-without_first : (card c : Card) (cards : List Card) → 1 ≤ copies_of card cards
    → copies_of c (card ∷ []) + copies_of c (without_first card cards) ≡ copies_of c cards
copies-without_first card c [] there = absurd (omega (arith, there))
copies-without_first card c (next ∷ cards) there =
    without-step card c next cards (same_card card next) refl
    (λ other. copies-without_first card c cards (omega (arith, there, copies-cons card next cards, ap once other)))

without-shorter : (card next : Card) (cards : List Card) (t : Bool)
    → (t ≡ false → length (without_first card cards) + 1 ≡ length cards)
    → length (cond t cards (next ∷ without_first card cards)) + 1 ≡ length (next ∷ cards)
without-shorter card next cards true rest = omega arith
without-shorter card next cards false rest = omega (arith, rest refl)

pub length-without_first : (card : Card) (cards : List Card) → 1 ≤ copies_of card cards
    → length (without_first card cards) + 1 ≡ length cards
length-without_first card [] there = absurd (omega (arith, there))
length-without_first card (next ∷ cards) there =
    without-shorter card next cards (same_card card next)
    (λ other. length-without_first card cards (omega (arith, there, copies-cons card next cards, ap once other)))

-- the named card, where there is one, is among the cards
abbrev pub HasNamed : Goal → List Card → Type 0
HasNamed (Foundations base started take_back complete_runs) cards = Unit {0}
HasNamed (Hole wrap Dealt) cards = Unit {0}
HasNamed (Hole wrap (Named card)) cards = 1 ≤ copies_of card cards
HasNamed Sequences cards = Unit {0}

pub copies-hole : (goal : Goal) (c : Card) (cards : List Card) → HasNamed goal cards
    → copies_of c (dealt_hole goal cards) + copies_of c (beside_hole goal cards) ≡ copies_of c cards
copies-hole (Foundations base started take_back complete_runs) c cards there = omega arith
copies-hole (Hole wrap Dealt) c cards there = copies-cut c cards 1
copies-hole (Hole wrap (Named card)) c cards there = copies-without_first card c cards there
copies-hole Sequences c cards there = omega arith

pub length-beside_hole : (goal : Goal) (cards : List Card) → HasNamed goal cards
    → (if is_hole_goal goal then 1 else 0) ≤ length cards
    → length (beside_hole goal cards) + (if is_hole_goal goal then 1 else 0) ≡ length cards
length-beside_hole (Foundations base started take_back complete_runs) cards there some = omega arith
length-beside_hole (Hole wrap Dealt) cards there some = omega (arith, length-drop 1 cards, some)
length-beside_hole (Hole wrap (Named card)) cards there some = length-without_first card cards there
length-beside_hole Sequences cards there some = omega arith

-- Steps 3 and 4: entries that hold a card.

pub copies-entries : (card : Card) (cards : List Card) → copies_in card (map (λ c. Some c) cards) ≡ copies_of card cards
copies-entries card [] = refl
copies-entries card (c ∷ cards) =
    let entry : Option Card = Some c in
    omega (
      arith,
      sum_by-cons (λ (e : Option Card). once (holds card e)) entry (map (λ (x : Card). Some x) cards),
      copies-cons card c cards,
      copies-entries card cards,
    )

no_copies-in : (card : Card) (n : ℕ) → copies_in card (replicate n None) ≡ 0
no_copies-in card zero = refl
no_copies-in card (suc n) =
    omega (arith, sum_by-cons (λ (e : Option Card). once (holds card e)) None (replicate n None), no_copies-in card n)

pub copies-filled : (card : Card) (n : ℕ) (entries : List (Option Card))
    → copies_in card (filled n None entries) ≡ copies_in card entries
copies-filled card n entries =
    omega (
      arith,
      sum_by-append (λ (e : Option Card). once (holds card e)) entries
          (replicate (n - length entries) None),
      no_copies-in card (n - length entries),
    )

pub all-entries : (cards : List Card) → IsTrue (list_all (λ e. is_some e) (map (λ c. Some c) cards))
all-entries [] = refl
all-entries (c ∷ cards) = all-entries cards

-- In a game of sequences each ace becomes a gap.

slot-holds : (card c : Card) (t : Bool) → holds card (cond t None (Some c)) ≡ cond t false (same_card card c)
slot-holds card c true = refl
slot-holds card c false = refl

slots-step : (card c : Card) (deck : List Card) → copies_in card (map slot_for (c ∷ deck)) ≡ once
    (cond (c.rank == 1) false (same_card card c)) + copies_in card (map slot_for deck)
slots-step card c deck =
    let one = sum_by-cons (λ (e : Option Card). once (holds card e)) (slot_for c) (map slot_for deck) in
    let is = ap once (slot-holds card c (c.rank == 1)) in
    omega (arith, one, is)

pub slots-aces : (card : Card) (deck : List Card) → card.rank ≡ 1 → copies_in card (map slot_for deck) ≡ 0
slots-aces card [] ace = refl
slots-aces card (c ∷ deck) ace =
    let nothing : once (cond (c.rank == 1) false (same_card card c)) ≡ 0 =
    elim (cases_eq c.rank 1) [
      | inl is ↦ ap (λ (t : Bool). once (cond t false (same_card card c))) (eq-eqb c.rank 1 is)
      | inr differ ↦
          ap (λ (t : Bool). once (cond t false (same_card card c))) (ne_eqb c.rank 1 differ)
          ∙ ap once (not_same card c (λ e. differ (sym e ∙ ace)))
    ] in
    omega (arith, slots-step card c deck, nothing, slots-aces card deck ace)

pub slots-others : (card : Card) (deck : List Card) → (card.rank ≡ 1 → ⊥)
    → copies_in card (map slot_for deck) ≡ copies_of card deck
slots-others card [] other = refl
slots-others card (c ∷ deck) other =
    let here : once (cond (c.rank == 1) false (same_card card c)) ≡ once (same_card card c) =
    elim (cases_eq c.rank 1) [
      | inl is ↦
          ap (λ (t : Bool). once (cond t false (same_card card c))) (eq-eqb c.rank 1 is)
          ∙ sym (ap once (not_same card c (λ e. other (e ∙ is))))
      | inr differ ↦ ap (λ (t : Bool). once (cond t false (same_card card c))) (ne_eqb c.rank 1 differ)
    ] in
    omega (arith, slots-step card c deck, here, copies-cons card c deck, slots-others card deck other)
