-- Runs of the last cards of a pile, followed from its top.
use Rattle.std.proofs.Common.{◌≡◌, ℕ, ◌+◌, ◌-◌, ◌<◌, ◌≤◌, zero, suc, Bool, true, false, ◌&&◌, List, [], ◌∷◌, length}
use Rattle.std.proofs.Common.{get_or, take, drop, refl, ap, sym, ◌∙◌, arith, inl, inr, length-take-le}
use Rattle.std.proofs.Common.{drop-cons, true≢false}
use Rattle.std.specs.Prelude.{Option, Some, None, slice_get, min, ◌||◌, ◌==◌, nat_lt, nat_le, if◌then◌else◌}
use Rattle.std.proofs.lemmas.Bool.{false_from_ne_true}
use Rattle.game_rules.proofs.Limits.{both}
use Rattle.std.proofs.lemmas.Bool.Decides.{nat_tests, leb_tells}
use Rattle.std.proofs.lemmas.List.{take-take, drop-drop}
use Rattle.std.proofs.lemmas.Option.{slice_get_within, get_or_from_slice_get, slice_get-get_or}
use Rattle.std.proofs.Math.Seq.{take-length, drop-length}
use Rattle.std.proofs.Math.Bool.{and-false}
use Rattle.card_piles.specs.declared.Card.{Card}
use Rattle.card_piles.specs.Builds.{builds_on}
use Rattle.card_piles.specs.Cards.{place_of}
use Rattle.game_rules.specs.Putting.{falls_in_suit}
use Rattle.game_rules.specs.declared.RuleParts.{RuleParts}
use Rattle.game_rules.specs.Rules.{moves_groups, foundation_suit}
use Rattle.game_rules.specs.Board.{Pile, top_part, below_top, top_of}
use Rattle.game_rules.specs.Taking.{is_run, pile_gives}
use Rattle.legal_moves.specs.Runs.{built_on, next_down, most_given}

-- an element of the first part
slice_get-take : {A : Type 0} (xs : List A) (m i : ℕ) → i < m → slice_get (take m xs) i ≡ slice_get xs i
slice_get-take xs zero i low = absurd (omega (arith, low))
slice_get-take [] (suc m) i low = refl
slice_get-take (x ∷ xs) (suc m) zero low = refl
slice_get-take (x ∷ xs) (suc m) (suc i) low = slice_get-take xs m i (omega (arith, low))

-- the elements from a known one on
drop_from : {A : Type 0} (xs : List A) (i : ℕ) (x : A) → slice_get xs i ≡ Some x → drop i xs ≡ x ∷ drop (suc i) xs
drop_from xs i x e =
    drop-cons xs i x (slice_get_within xs i x e) ∙ ap (λ y. y ∷ drop (suc i) xs) (get_or_from_slice_get xs i x x e)

-- the last cards and the one under them
pub top_part-more : {A : Type 0} (cards : List A) (n : ℕ) (card : A) → n ≤ length cards
    → top_of (below_top n cards) ≡ Some card
    → (n < length cards) × (top_part (n + 1) cards ≡ card ∷ top_part n cards)
top_part-more cards n card few e =
    let m = length cards - n in
    let long : length (take m cards) ≡ m = length-take-le m cards (omega arith) in
    let within = slice_get_within (take m cards) (length (take m cards) - 1) card e in
    let some : 1 ≤ m = omega (arith, within, long) in
    let place : m - 1 ≡ length (take m cards) - 1 = omega (arith, long) in
    let at : slice_get cards (m - 1) ≡ Some card =
    sym (slice_get-take cards m (m - 1) (omega (arith, some))) ∙ ap (slice_get (take m cards)) place ∙ e in
    let start : length cards - (n + 1) ≡ m - 1 = omega arith in
    let next : suc (m - 1) ≡ m = omega (arith, some) in (
      omega (arith, some),
      ap (λ j. drop j cards) start ∙ drop_from cards (m - 1) card at ∙ ap (λ j. card ∷ drop j cards) next,
    )

-- what lies under the last cards and the one under them
pub below_top-more : {A : Type 0} (cards : List A) (n : ℕ) → n ≤ length cards
    → below_top 1 (below_top n cards) ≡ below_top (n + 1) cards
below_top-more cards n few =
    let m = length cards - n in
    let long : length (take m cards) ≡ m = length-take-le m cards (omega arith) in
    let less : length (take m cards) - 1 ≤ m = omega (arith, long) in
    let place : length (take m cards) - 1 ≡ length cards - (n + 1) = omega (arith, long) in
    take-take (length (take m cards) - 1) m cards less ∙ ap (λ j. take j cards) place

pub below_top-none : {A : Type 0} (cards : List A) → below_top 0 cards ≡ cards
below_top-none cards = ap (λ j. take j cards) (omega arith) ∙ take-length cards

pub top_part-none : {A : Type 0} (cards : List A) → top_part 0 cards ≡ []
top_part-none cards = ap (λ j. drop j cards) (omega arith) ∙ drop-length cards

-- a run was followed from the top of the cards: its last n cards, of which `card` is the first, with `left` under it
pub record Reached (rules : RuleParts) (cards left : List Card) (card : Card) (n : ℕ) : Type 0 where
  pub some : 1 ≤ n
  pub few : n ≤ length cards
  pub under : left ≡ below_top n cards
  pub run : is_run rules (top_part n cards) ≡ true
  pub rest : List Card
  pub first : top_part n cards ≡ card ∷ rest
  pub size : length rest + 1 ≡ n

pub reached-first : (rules : RuleParts) (cards left : List Card) (card : Card) → top_of cards ≡ Some card
    → left ≡ below_top 1 cards
    → Reached rules cards left card 1
reached-first rules cards left card e below =
    let more = top_part-more cards 0 card (omega arith) (ap top_of (below_top-none cards) ∙ e) in
    let one : top_part 1 cards ≡ card ∷ [] = more.1 ∙ ap (λ xs. card ∷ xs) (top_part-none cards) in
    record {
      some = omega arith;
      few = omega (arith, more.0);
      under = below;
      run = ap (is_run rules) one;
      rest = [];
      first = one;
      size = refl;
    }

if_some : {A : Type 0} (b : Bool) (x y : A) → (if b then Some x else None) ≡ Some y → (x ≡ y) × (b ≡ true)
if_some true x y e = (cc, refl)
if_some false x y e = absurd cc

if_none : {A : Type 0} (b : Bool) (x : A) → (if b then Some x else None) ≡ None → b ≡ false
if_none true x e = absurd cc
if_none false x e = refl

built_on-some : (rules : RuleParts) (upper lower : Card) (top : Option Card) → built_on rules upper top ≡ Some lower
    → (top ≡ Some lower) × (builds_on rules.group_build rules.wrap rules.max_rank upper lower ≡ true)
built_on-some rules upper lower None e = absurd cc
built_on-some rules upper lower (Some card) e =
    let parts = if_some (builds_on rules.group_build rules.wrap rules.max_rank upper card) card lower e in (
      ap (λ (c : Card). Some c) parts.0,
      ap (λ c. builds_on rules.group_build rules.wrap rules.max_rank upper c)
          (sym parts.0) ∙ parts.1,
    )

pub reached-more : (rules : RuleParts) (cards left left' : List Card) (card lower : Card) (n : ℕ)
    → Reached rules cards left card n
    → next_down rules left card ≡ Some lower → left' ≡ below_top 1 left → Reached rules cards left' lower (n + 1)
reached-more rules cards left left' card lower n reached e below =
    let parts = built_on-some rules card lower (top_of left) e in
    let more = top_part-more cards n lower reached.few (ap top_of (sym reached.under) ∙ parts.0) in
    let all : top_part (n + 1) cards ≡ lower ∷ card ∷ reached.rest = more.1 ∙ ap (λ xs. lower ∷ xs) reached.first in
    let run : is_run rules (card ∷ reached.rest) ≡ true = ap (is_run rules) (sym reached.first) ∙ reached.run in
    record {
      some = omega arith;
      few = omega (arith, more.0);
      under = below ∙ ap (below_top 1) reached.under ∙ below_top-more cards n reached.few;
      run = ap (is_run rules) all ∙ rw parts.1 run;
      rest = card ∷ reached.rest;
      first = all;
      size = omega (arith, reached.size);
    }

-- a part of a run is a run
is_run-tail : (rules : RuleParts) (card : Card) (cards : List Card) → is_run rules (card ∷ cards) ≡ true
    → is_run rules cards ≡ true
is_run-tail rules card [] e = refl
is_run-tail rules card (upper ∷ cards) e =
    (both (builds_on rules.group_build rules.wrap rules.max_rank upper card) (is_run rules (upper ∷ cards)) e).1

is_run-drop : (rules : RuleParts) (cards : List Card) (k : ℕ) → is_run rules cards ≡ true
    → is_run rules (drop k cards) ≡ true
is_run-drop rules cards zero e = e
is_run-drop rules [] (suc k) e = e
is_run-drop rules (card ∷ cards) (suc k) e = is_run-drop rules cards k (is_run-tail rules card cards e)

top_part-shorter : (cards : List Card) (n m : ℕ) → n ≤ m → m ≤ length cards
    → top_part n cards ≡ drop (m - n) (top_part m cards)
top_part-shorter cards n m less few =
    let place : length cards - n ≡ length cards - m + (m - n) = omega (arith, less, few) in
    ap (λ j. drop j cards) place ∙ sym (drop-drop (m - n) (length cards - m) cards)

-- where the next card does not build on the first one, no more cards are a run
no_longer_run : (rules : RuleParts) (cards left : List Card) (card : Card) (n m : ℕ) → Reached rules cards left card n
    → next_down rules left card ≡ None → n < m → m ≤ length cards → is_run rules (top_part m cards) ≡ false
no_longer_run rules cards left card n m reached none more few =
    let below : List Card = below_top n cards in
    let long : length below ≡ length cards - n = length-take-le (length cards - n) cards (omega arith) in
    let lower : Card = get_or below (length below - 1) card in
    let top : top_of below ≡ Some lower = slice_get-get_or below (length below - 1) card
    (omega (arith, long, more, few)) in
    let refused : built_on rules card (Some lower) ≡ None =
    ap (built_on rules card) (sym top) ∙ ap (λ xs. next_down rules xs card) (sym reached.under) ∙ none in
    let broken : builds_on rules.group_build rules.wrap rules.max_rank card lower ≡ false =
    if_none (builds_on rules.group_build rules.wrap rules.max_rank card lower) lower refused in
    let longer = top_part-more cards n lower reached.few top in
    let all : top_part (n + 1) cards ≡ lower ∷ card ∷ reached.rest = longer.1 ∙ ap (λ xs. lower ∷ xs) reached.first in
    let stops : is_run rules (top_part (n + 1) cards) ≡ false = ap (is_run rules) all ∙ rw broken refl in
    let part : top_part (n + 1) cards ≡ drop (m - (n + 1)) (top_part m cards) = top_part-shorter cards (n + 1) m
    (omega (arith, more)) few in
    false_from_ne_true _ (λ run.
    true≢false (sym (is_run-drop rules (top_part m cards) (m - (n + 1)) run) ∙ ap (is_run rules) (sym part) ∙ stops))

-- how many cards a pile gives, but for the run
abbrev is_enough : Bool → ℕ → ℕ → ℕ → Bool
is_enough groups size down n = nat_lt 0 n && nat_le (down + n) size && ((n == 1) || groups)

abbrev most : Bool → ℕ → ℕ → ℕ
most groups size down = if groups then size - down else min (size - down) 1

enough : (groups : Bool) (size down n : ℕ) → 1 ≤ n → n ≤ most groups size down → is_enough groups size down n ≡ true
enough true size down n some few = grind (arith, nat_tests)
enough false size down n some few = grind (arith, nat_tests)

not_enough : (groups : Bool) (size down n : ℕ) → most groups size down < n → is_enough groups size down n ≡ false
not_enough true size down n past = grind (arith, nat_tests)
not_enough false size down n past = grind (arith, nat_tests)

past_size : (groups : Bool) (size down n : ℕ) → size < n → is_enough groups size down n ≡ false
past_size groups size down n past = grind (arith, nat_tests)

most-le : (groups : Bool) (size down : ℕ) → most groups size down ≤ size
most-le true size down = omega arith
most-le false size down = omega arith

pub gives-reached : (rules : RuleParts) (pile : Pile) (left : List Card) (card : Card) (n : ℕ)
    → Reached rules pile.cards left card n
    → n ≤ most_given rules pile → pile_gives rules pile n ≡ true
gives-reached rules pile left card n reached few =
    rw (enough (moves_groups rules.groups) (length pile.cards) pile.face_down n reached.some few) reached.run

-- the pile gives no more than so many cards
abbrev pub Stops : RuleParts → Pile → ℕ → Type 0
Stops rules pile n = (m : ℕ) → n < m → pile_gives rules pile m ≡ false

pub stops-at_most : (rules : RuleParts) (pile : Pile) (n : ℕ) → most_given rules pile ≤ n → Stops rules pile n
stops-at_most rules pile n few m more =
    rw (not_enough (moves_groups rules.groups) (length pile.cards) pile.face_down m (omega (arith, few, more))) refl

pub stops-at_break : (rules : RuleParts) (pile : Pile) (left : List Card) (card : Card) (n : ℕ)
    → Reached rules pile.cards left card n
    → next_down rules left card ≡ None → Stops rules pile n
stops-at_break rules pile left card n reached none m more =
    let first = is_enough (moves_groups rules.groups) (length pile.cards) pile.face_down m in
    elim (leb_tells m (length pile.cards)) [
      | inl within ↦ rw (no_longer_run rules pile.cards left card n m reached none more within.1) (and-false first)
      | inr past ↦ rw
          (past_size (moves_groups rules.groups) (length pile.cards) pile.face_down m (omega (arith, past.1))) refl
    ]

pub most_given-le : (rules : RuleParts) (pile : Pile) → most_given rules pile ≤ length pile.cards
most_given-le rules pile = most-le (moves_groups rules.groups) (length pile.cards) pile.face_down

-- cards that fall to the ace, followed from the top
pub falls-more : (f : ℕ) (cards : List Card) (n : ℕ) (card : Card) → n ≤ length cards
    → top_of (below_top n cards) ≡ Some card
    → falls_in_suit f (n + 1) (top_part (n + 1) cards)
    ≡ ((place_of card.suit == foundation_suit f) && (card.rank == n + 1) && falls_in_suit f n (top_part n cards))
falls-more f cards n card few e =
    let less : n + 1 - 1 ≡ n = omega arith in
    ap (falls_in_suit f (n + 1)) (top_part-more cards n card few e).1
    ∙ ap (λ r.
    (place_of card.suit == foundation_suit f) && (card.rank == n + 1) && falls_in_suit f r (top_part n cards)) less

falls-drop : (f rank : ℕ) (cards : List Card) (k : ℕ) → falls_in_suit f rank cards ≡ true
    → falls_in_suit f (rank - k) (drop k cards) ≡ true
falls-drop f rank cards zero e =
    let same : rank - 0 ≡ rank = omega arith in
    ap (λ r. falls_in_suit f r cards) same ∙ e
falls-drop f rank [] (suc k) e = refl
falls-drop f rank (card ∷ cards) (suc k) e =
    let same : rank - suc k ≡ rank - 1 - k = omega arith in
    let rest = both ((place_of card.suit == foundation_suit f) && (card.rank == rank))
    (falls_in_suit f (rank - 1) cards) e in
    ap (λ r. falls_in_suit f r (drop k cards)) same ∙ falls-drop f (rank - 1) cards k rest.1

-- where fewer cards do not fall so, more do not
pub falls-broken : (f : ℕ) (cards : List Card) (n m : ℕ) → n ≤ m → m ≤ length cards
    → falls_in_suit f n (top_part n cards) ≡ false
    → falls_in_suit f m (top_part m cards) ≡ false
falls-broken f cards n m less few broken =
    let rank : n ≡ m - (m - n) = omega (arith, less) in
    false_from_ne_true _ (λ falls.
    true≢false (sym (falls-drop f m (top_part m cards) (m - n) falls)
    ∙ ap (λ r. falls_in_suit f r (drop (m - n) (top_part m cards))) (sym rank)
    ∙ ap (falls_in_suit f n) (sym (top_part-shorter cards n m less few))
    ∙ broken))

-- a list with no last element is empty
pub no_top : {A : Type 0} (cards : List A) → top_of cards ≡ None → length cards ≡ 0
no_top [] e = refl
no_top (x ∷ xs) e =
    let some = slice_get-get_or (x ∷ xs) (length (x ∷ xs) - 1) x (omega arith) in
    absurd cc
