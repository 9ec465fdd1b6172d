-- Of the cards of the deck at most four can build on a card: those of one rank.
use Rattle.std.proofs.Common.{inl, inr, ◌≡◌, ℕ, ◌+◌, ◌-◌, ◌<◌, ◌≤◌, zero, suc, Bool, true, false, ◌&&◌, ◌||◌, List, map}
use Rattle.std.proofs.Common.{refl, sym, ◌∙◌, subst, arith}
use Rattle.std.specs.Prelude.{IsTrue, not, nat_lt, Option, Some, None, if◌then◌else◌}
use Rattle.std.specs.List.{list_all, range_with_len, flat_map}
use Rattle.std.proofs.lemmas.List.Folds.{list_all-map, list_all-append}
use Rattle.std.proofs.lemmas.Bool.{cases_Bool, and_from}
use Rattle.std.proofs.lemmas.Bool.Decides.{nat_tests}
use Rattle.card_piles.specs.declared.Card.{Card}
use Rattle.card_piles.specs.declared.Suit.{Suit}
use Rattle.card_piles.specs.declared.Suit.TheVariants.{Clubs, Diamonds, Hearts, Spades}
use Rattle.card_piles.specs.Cards.{place_of}
use Rattle.card_piles.specs.Builds.{builds_on, ranks_fit, suits_fit}
use Rattle.game_rules.specs.declared.RuleParts.{RuleParts}
use Rattle.game_rules.specs.Playable.{IsPlayable}
use Rattle.game_rules.specs.Board.{Board, suit_at, height_at}
use Rattle.game_rules.specs.Belonging.{Belongs}
use Rattle.safe_moves.specs.Safe.{is_home, deck_of, is_not_needed, rules_allow}
use Rattle.safe_moves.specs.Need.{home_place, upper_rank, are_no_bar}
use Rattle.safe_moves.proofs.AtHome.{all_in_range, all_of_deck}
use Rattle.safe_moves.proofs.HomePlace.{same_tests, home-by_height}

pub all-from_range : (p : ℕ → Bool) (a n : ℕ) → ((k : ℕ) → k < n → p (a + k) ≡ true)
    → list_all p (range_with_len a n) ≡ true
all-from_range p a zero h = refl
all-from_range p a (suc n) h =
    and_from _ _ (subst (λ (j : ℕ). p j ≡ true) (omega arith) (h 0 (omega arith)))
    (all-from_range p (a + 1) n (λ k l. subst (λ (j : ℕ). p j ≡ true) (omega arith) (h (suc k) (omega arith))))

all-from_flat_map : {A : Type 0} (p : A → Bool) (f : ℕ → List A) (a n : ℕ)
    → ((k : ℕ) → k < n → list_all p (f (a + k)) ≡ true)
    → list_all p (flat_map f (range_with_len a n)) ≡ true
all-from_flat_map p f a zero h = refl
all-from_flat_map p f a (suc n) h =
    list_all-append p (f a) (flat_map f (range_with_len (a + 1) n))
    ∙ and_from _ _ (subst (λ (j : ℕ). list_all p (f j) ≡ true) (omega arith) (h 0 (omega arith)))
    (all-from_flat_map p f (a + 1) n
    (λ k l. subst (λ (j : ℕ). list_all p (f j) ≡ true) (omega arith) (h (suc k) (omega arith))))

pub all-from_deck : (p : Card → Bool) (max_rank : ℕ)
    → ((suit rank : ℕ) → suit < 4 → 1 ≤ rank → rank ≤ max_rank → p (record { suit = suit_at suit; rank = rank }) ≡ true)
    → list_all p (deck_of max_rank) ≡ true
all-from_deck p max_rank h =
    all-from_flat_map p
    (λ suit. map (λ rank. record { suit = suit_at suit; rank = rank }) (range_with_len 1 max_rank)) 0 4
    (λ suit few. list_all-map p (λ (rank : ℕ). record { suit = suit_at (0 + suit); rank = rank })
    (range_with_len 1 max_rank)
    ∙ all-from_range (λ rank. p (record { suit = suit_at (0 + suit); rank = rank })) 1 max_rank
    (λ k l. h (0 + suit) (1 + k) (omega arith) (omega arith) (omega arith)))

-- whether a card of this suit and rank does not fit on the card or is home
abbrev is_free_of : RuleParts → Board → Card → ℕ → ℕ → Bool
is_free_of rules board card rank suit =
    not (suits_fit rules.build (suit_at suit) card.suit)
    || is_home rules board (record { suit = suit_at suit; rank = rank })

-- the same of all four suits
abbrev is_free_of_all : RuleParts → Board → Card → Option ℕ → Bool
is_free_of_all rules board card None = true
is_free_of_all rules board card (Some rank) = list_all (is_free_of rules board card rank) (range_with_len 0 4)

-- which rank fits
fits_below : (wrap : Bool) (max_rank upper lower : ℕ) → 1 ≤ lower → lower ≤ max_rank → 1 ≤ upper → upper ≤ max_rank
    → ranks_fit wrap max_rank upper lower ≡ true
    → (if nat_lt 1 lower then Some (lower - 1) else if wrap then Some max_rank else None) ≡ Some upper
fits_below true max_rank upper lower ll hl lu hu h = grind (arith, nat_tests)
fits_below false max_rank upper lower ll hl lu hu h = grind (arith, nat_tests)

below_fits : (wrap : Bool) (max_rank upper lower : ℕ) → 1 ≤ lower → lower ≤ max_rank
    → (if nat_lt 1 lower then Some (lower - 1) else if wrap then Some max_rank else None) ≡ Some upper
    → ranks_fit wrap max_rank upper lower ≡ true
below_fits true max_rank upper lower ll hl h = grind (arith, nat_tests)
below_fits false max_rank upper lower ll hl h = grind (arith, nat_tests)

pub upper_within : (wrap : Bool) (max_rank upper lower : ℕ) → 1 ≤ lower → lower ≤ max_rank
    → (if nat_lt 1 lower then Some (lower - 1) else if wrap then Some max_rank else None) ≡ Some upper
    → (1 ≤ upper) × (upper ≤ max_rank)
upper_within true max_rank upper lower ll hl h = (grind (arith, nat_tests), grind (arith, nat_tests))
upper_within false max_rank upper lower ll hl h = (grind (arith, nat_tests), grind (arith, nat_tests))

-- what is said of one card of the deck
fitting : (ranks suits home : Bool) → ranks ≡ true → (not (ranks && suits) || home) ≡ (not suits || home)
fitting true suits home h = refl
fitting false suits home h = cc

unfitting : (ranks suits home : Bool) → ranks ≡ false → (not (ranks && suits) || home) ≡ true
unfitting true suits home h = cc
unfitting false suits home h = refl

bars_from_deck : (rules : RuleParts) (board : Board) (c : Card) (upper : Option ℕ) → 1 ≤ c.rank
    → c.rank ≤ rules.max_rank
    → upper_rank rules c.rank ≡ upper → IsTrue (is_not_needed rules board c)
    → IsTrue (is_free_of_all rules board c upper)
bars_from_deck rules board c None low high e h = refl
bars_from_deck rules board c (Some r) low high e h =
    let within = upper_within rules.wrap rules.max_rank r c.rank low high e in
    let fits = below_fits rules.wrap rules.max_rank r c.rank low high e in
    let wl = within.0 in
    let wh = within.1 in
    all-from_range (is_free_of rules board c r) 0 4
    (λ suit few.
    sym (fitting (ranks_fit rules.wrap rules.max_rank r c.rank) (suits_fit rules.build (suit_at (0 + suit)) c.suit)
    (is_home rules board (record { suit = suit_at (0 + suit); rank = r })) fits)
    ∙ all_of_deck
    (λ u. not (builds_on rules.build rules.wrap rules.max_rank u c) || is_home rules board u) rules.max_rank
    (record { suit = suit_at (0 + suit); rank = r }) h wl wh)

no_bar_at : (rules : RuleParts) (board : Board) (c : Card) (upper : Option ℕ) (suit rank : ℕ) → suit < 4
    → upper ≡ Some rank
    → IsTrue (is_free_of_all rules board c upper) → is_free_of rules board c rank suit ≡ true
no_bar_at rules board c None suit rank few e h = cc
no_bar_at rules board c (Some r) suit rank few e h =
    let same : r ≡ rank = cc in
    let plain : 0 + suit ≡ suit = omega arith in
    subst (λ (r : ℕ). is_free_of rules board c r suit ≡ true) same
    (subst (λ (s : ℕ). is_free_of rules board c r s ≡ true) plain
    (all_in_range (is_free_of rules board c r) 0 4 suit h few))

deck_from_bars : (rules : RuleParts) (board : Board) (c : Card) → 1 ≤ c.rank → c.rank ≤ rules.max_rank
    → IsTrue (is_free_of_all rules board c (upper_rank rules c.rank)) → IsTrue (is_not_needed rules board c)
deck_from_bars rules board c low high h =
    all-from_deck
    (λ u. not (builds_on rules.build rules.wrap rules.max_rank u c) || is_home rules board u) rules.max_rank
    (λ suit rank few rl rh.
    elim (cases_Bool (ranks_fit rules.wrap rules.max_rank rank c.rank)) [
      | inl fits ↦
          fitting (ranks_fit rules.wrap rules.max_rank rank c.rank) (suits_fit rules.build (suit_at suit) c.suit)
          (is_home rules board (record { suit = suit_at suit; rank = rank })) fits
          ∙ no_bar_at rules board c (upper_rank rules c.rank) suit rank few
          (fits_below rules.wrap rules.max_rank rank c.rank low high rl rh fits) h
      | inr off ↦ unfitting (ranks_fit rules.wrap rules.max_rank rank c.rank)
          (suits_fit rules.build (suit_at suit) c.suit)
          (is_home rules board (record { suit = suit_at suit; rank = rank })) off
    ])

not_needed-by_rank : (rules : RuleParts) (board : Board) (c : Card) → 1 ≤ c.rank → c.rank ≤ rules.max_rank
    → is_not_needed rules board c ≡ is_free_of_all rules board c (upper_rank rules c.rank)
not_needed-by_rank rules board c low high =
    same_tests _ _ (bars_from_deck rules board c (upper_rank rules c.rank) low high refl)
    (deck_from_bars rules board c low high)

-- each of the four is home exactly if its foundation is higher than its place
by_heights : (rules : RuleParts) (board : Board) (c : Card) (upper : Option ℕ) → IsPlayable rules
    → IsTrue (rules_allow rules) → Belongs rules board
    → 1 ≤ c.rank → c.rank ≤ rules.max_rank → upper_rank rules c.rank ≡ upper
    → is_free_of_all rules board c upper ≡ are_no_bar rules board c upper
by_heights rules board c None playable allow belongs low high e = refl
by_heights rules board c (Some r) playable allow belongs low high e =
    let within = upper_within rules.wrap rules.max_rank r c.rank low high e in
    let at : (suit : Suit) → is_home rules board (record { suit = suit; rank = r }) ≡ nat_lt (home_place rules r)
    (height_at board (place_of suit))
    = λ suit. home-by_height rules board (record { suit = suit; rank = r }) playable allow belongs within.0 within.1 in
    let clubs = at Clubs in
    let diamonds = at Diamonds in
    let hearts = at Hearts in
    let spades = at Spades in
    cc

pub not_needed-by_heights : (rules : RuleParts) (board : Board) (c : Card) → IsPlayable rules
    → IsTrue (rules_allow rules) → Belongs rules board
    → 1 ≤ c.rank → c.rank ≤ rules.max_rank → is_not_needed rules board c ≡ are_no_bar rules board c
    (upper_rank rules c.rank)
not_needed-by_heights rules board c playable allow belongs low high =
    not_needed-by_rank rules board c low high
    ∙ by_heights rules board c (upper_rank rules c.rank) playable allow belongs low high refl
