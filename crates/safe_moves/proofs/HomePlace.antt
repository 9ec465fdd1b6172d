-- With one deck a card is home exactly where its foundation is higher than its place.
use Rattle.std.proofs.Common.{inl, inr, ◌≡◌, ℕ, ◌+◌, ◌-◌, ◌*◌, ◌%◌, ◌<◌, ◌≤◌, zero, suc, Bool, true, false, ◌&&◌}
use Rattle.std.proofs.Common.{length, refl, ap, sym, ◌∙◌, subst, arith, eq-eqb}
use Rattle.std.specs.Prelude.{IsTrue, ◌==◌, nat_lt, nat_le}
use Rattle.std.specs.List.{list_any, range_with_len}
use Rattle.std.proofs.Math.Nat.{mod-eq_of_lt, mod-eq-sub-mod}
use Rattle.std.proofs.lemmas.Bool.{cases_lt, eqb-true, ltb-true, lt-ltb, leb-true}
use Rattle.std.proofs.lemmas.Bool.Decides.{nat_tests}
use Rattle.card_piles.specs.declared.Card.{Card}
use Rattle.card_piles.specs.declared.Suit.{Suit}
use Rattle.card_piles.specs.declared.Suit.TheVariants.{Clubs, Diamonds, Hearts, Spades}
use Rattle.card_piles.specs.Cards.{place_of, number_of}
use Rattle.game_rules.specs.declared.RuleParts.{RuleParts}
use Rattle.game_rules.specs.declared.Goal.{Goal}
use Rattle.game_rules.specs.declared.Goal.TheVariants.{Foundations, Hole as HoleGoal, Sequences}
use Rattle.game_rules.specs.Rules.{is_foundation_goal, base_of, foundation_suit, foundation_rank}
use Rattle.game_rules.specs.Conflicts.{has_base_above, is_base_within}
use Rattle.game_rules.specs.Playable.{IsPlayable}
use Rattle.game_rules.specs.Board.{Board, height_at, suit_at, foundation_card, foundation_cards}
use Rattle.game_rules.specs.Belonging.{Belongs}
use Rattle.safe_moves.specs.Safe.{is_home, rules_allow}
use Rattle.safe_moves.specs.Need.{home_place}
use Rattle.game_rules.proofs.Limits.{both, past, was_false, numbers_of, limits_of}
use Rattle.safe_moves.proofs.AtHome.{found-from_any, any-from_found, any_of_map, home_at}
use Rattle.safe_moves.proofs.SafeFacts.{Allowed, allowed, all_at}
use Rattle.safe_moves.proofs.SafeExchange.{four}

-- a sum below twice the divisor
mod_once : (x m : ℕ) → x < m → x % m ≡ x
mod_once x m h = mod-eq_of_lt h

mod_twice : (x m : ℕ) → m ≤ x → x < m + m → x % m ≡ x - m
mod_twice x m low high =
    let rest : x - m < m = omega arith in
    mod-eq-sub-mod low ∙ mod-eq_of_lt rest

place_of_rank : (m b r j : ℕ) → 1 ≤ b → b ≤ m → 1 ≤ r → r ≤ m → j < m → ((b - 1) + j) % m + 1 ≡ r → (r + m - b) % m ≡ j
place_of_rank m b r j lb hb lr hr lj h =
    elim (cases_lt ((b - 1) + j) m) [
      | inl below ↦ (
          let rank : (b - 1) + j + 1 ≡ r = (let e = mod_once ((b - 1) + j) m below in omega (arith, e, h)) in
          let e = mod_twice (r + m - b) m (omega arith) (omega arith) in
          omega (arith, e, rank))
      | inr above ↦ (
          let rank : (b - 1) + j - m + 1 ≡ r =
          (let e = mod_twice ((b - 1) + j) m above (omega arith) in omega (arith, e, h)) in
          let e = mod_once (r + m - b) m (omega arith) in
          omega (arith, e, rank, above))
    ]

rank_of_place : (m b r : ℕ) → 1 ≤ b → b ≤ m → 1 ≤ r → r ≤ m → ((b - 1) + (r + m - b) % m) % m + 1 ≡ r
rank_of_place m b r lb hb lr hr =
    elim (cases_lt r b) [
      | inl below ↦ (
          let e : (r + m - b) % m ≡ r + m - b = mod_once (r + m - b) m (omega arith) in
          let sum : (b - 1) + (r + m - b) % m ≡ r - 1 + m = omega (arith, e) in
          let f : (r - 1 + m) % m ≡ r - 1 =
          (let g = mod_twice (r - 1 + m) m (omega arith) (omega arith) in omega (arith, g)) in
          ap (λ (x : ℕ). x % m + 1) sum ∙ omega (arith, f))
      | inr above ↦ (
          let e : (r + m - b) % m ≡ r - b =
          (let g = mod_twice (r + m - b) m (omega arith) (omega arith) in omega (arith, g)) in
          let sum : (b - 1) + (r + m - b) % m ≡ r - 1 = omega (arith, e, above) in
          let f : (r - 1) % m ≡ r - 1 = mod_once (r - 1) m (omega arith) in
          ap (λ (x : ℕ). x % m + 1) sum ∙ omega (arith, f))
    ]

-- the base of playable rules
pub record BaseWithin (rules : RuleParts) : Type 0 where
  pub low : 1 ≤ base_of rules.goal
  pub high : base_of rules.goal ≤ rules.max_rank

base_low : (goal : Goal) → IsTrue (is_base_within goal) → 1 ≤ base_of goal
base_low (Foundations base started take_back complete_runs) h = grind (arith, nat_tests, h)
base_low (HoleGoal wrap start) h = omega arith
base_low Sequences h = omega arith

below_of : (g : Bool) (m b : ℕ) → IsTrue g → (g && nat_lt m b) ≡ false → b ≤ m
below_of true m b h k = grind (arith, nat_tests, k)
below_of false m b h k = cc

pub base_within : (rules : RuleParts) → IsPlayable rules → IsTrue (is_foundation_goal rules.goal) → BaseWithin rules
base_within rules playable goal =
    let above : has_base_above rules ≡ false
    = was_false _ 8 _
    (past _ 7 _ (past _ 6 _ (past _ 5 _ (past _ 4 _ (past _ 3 _ (past _ 2 _ playable.no_conflict)))))) in
    record {
      low = base_low rules.goal (numbers_of rules playable).base;
      high = below_of (is_foundation_goal rules.goal) rules.max_rank (base_of rules.goal) goal above;
    }

-- suits and foundations
pub place-of_suit : (n : ℕ) → n < 4 → place_of (suit_at n) ≡ n
place-of_suit zero h = refl
place-of_suit (suc zero) h = refl
place-of_suit (suc (suc zero)) h = refl
place-of_suit (suc (suc (suc zero))) h = refl
place-of_suit (suc (suc (suc (suc n)))) h = absurd (omega arith)

few_places : (s : Suit) → place_of s < 4
few_places Clubs = omega arith
few_places Diamonds = omega arith
few_places Hearts = omega arith
few_places Spades = omega arith

suit-on_foundation : (f : ℕ) → f < 4 → place_of (suit_at (foundation_suit f)) ≡ f
suit-on_foundation f h =
    let small : f % 4 ≡ f = mod_once f 4 h in
    ap (λ (n : ℕ). place_of (suit_at n)) small ∙ place-of_suit f h

pub same_tests : (a b : Bool) → (a ≡ true → b ≡ true) → (b ≡ true → a ≡ true) → a ≡ b
same_tests true b h k = sym (h refl)
same_tests false true h k = k refl
same_tests false false h k = refl

pub four_heights : (rules : RuleParts) (board : Board) → Allowed rules → Belongs rules board → length board.heights ≡ 4
four_heights rules board allows belongs = belongs.foundations
    ∙ four (is_foundation_goal rules.goal) rules.decks allows.goal allows.deck

low_height : (rules : RuleParts) (board : Board) (f : ℕ) → Allowed rules → Belongs rules board → f < 4
    → height_at board f ≤ rules.max_rank
low_height rules board f allows belongs small =
    let count = four_heights rules board allows belongs in
    leb-true _ _
    (all_at (λ (height : ℕ). nat_le height rules.max_rank) board.heights f 0 belongs.heights (omega (arith, count)))

pub home-by_place : (rules : RuleParts) (board : Board) (card : Card) → IsPlayable rules → Allowed rules
    → Belongs rules board
    → 1 ≤ card.rank → card.rank ≤ rules.max_rank
    → is_home rules board card ≡ nat_lt (home_place rules card.rank) (height_at board (place_of card.suit))
home-by_place rules board card playable allows belongs low high =
    let base = base_within rules playable allows.goal in
    let count = four_heights rules board allows belongs in
    let top = allows.limits.max_rank in
    let lb = base.low in
    let hb = base.high in
    let number : Card → Bool = λ c. number_of c == number_of card in
    same_tests _ _
    (λ h.
    let at = home_at rules board card h in
    let small : at.f < 4 = (let w = at.within in omega (arith, w, count)) in
    let found = found-from_any (λ j. number (foundation_card rules at.f j)) 0 (height_at board at.f)
    (sym (any_of_map number (foundation_card rules at.f) (range_with_len 0 (height_at board at.f))) ∙ at.holds) in
    let equal : number_of (foundation_card rules at.f (0 + found.k)) ≡ number_of card = eqb-true _ _ found.passes in
    let suit = suit-on_foundation at.f small in
    let within : found.k < height_at board at.f = found.here in
    let limit = low_height rules board at.f allows belongs small in
    let some : 0 < rules.max_rank = omega (arith, lb, hb) in
    let rank_low : 1 ≤ foundation_rank rules (0 + found.k) = omega arith in
    let rank_high : foundation_rank rules (0 + found.k) ≤ 13 = omega (arith, top, some) in
    let place : place_of card.suit ≡ at.f = omega (arith, equal, suit, low, high, top, rank_low, rank_high) in
    let rank : foundation_rank rules (0 + found.k) ≡ card.rank = omega
    (arith, equal, suit, low, high, top, rank_low, rank_high) in
    let plain : 0 + found.k ≡ found.k = omega arith in
    let rank_plain : (base_of rules.goal - 1 + found.k) % rules.max_rank + 1 ≡ card.rank =
    sym (ap (foundation_rank rules) plain) ∙ rank in
    let at_place : home_place rules card.rank ≡ found.k
    = place_of_rank rules.max_rank (base_of rules.goal) card.rank found.k lb hb low high
    (omega (arith, within, limit)) rank_plain in
    let same = ap (height_at board) place in
    lt-ltb _ _ (omega (arith, at_place, within, same)))
    (λ h.
    let f : ℕ = place_of card.suit in
    let j : ℕ = home_place rules card.rank in
    let below : j < height_at board f = ltb-true _ _ h in
    let small : f < 4 = few_places card.suit in
    let rank : foundation_rank rules j ≡ card.rank = rank_of_place rules.max_rank
    (base_of rules.goal) card.rank lb hb low high in
    let suit = suit-on_foundation f small in
    let equal : number_of (foundation_card rules f j) ≡ number_of card
    = ap (λ (p : ℕ). 13 * p + (foundation_rank rules j - 1)) suit ∙ ap (λ (r : ℕ). 13 * f + (r - 1)) rank in
    let plain_j : j ≡ 0 + j = omega arith in
    let plain_f : f ≡ 0 + f = omega arith in
    let here : list_any number (foundation_cards rules f (height_at board f)) ≡ true
    = any_of_map number (foundation_card rules f) (range_with_len 0 (height_at board f))
    ∙ any-from_found (λ j. number (foundation_card rules f j)) 0 (height_at board f) j below
    (subst (λ (j : ℕ). number (foundation_card rules f j) ≡ true) plain_j (eq-eqb _ _ equal)) in
    any-from_found (λ f. list_any number (foundation_cards rules f (height_at board f))) 0 (length board.heights) f
    (omega (arith, count, small))
    (subst (λ (f : ℕ). list_any number (foundation_cards rules f (height_at board f)) ≡ true) plain_f here))

pub home-by_height : (rules : RuleParts) (board : Board) (card : Card) → IsPlayable rules → IsTrue (rules_allow rules)
    → Belongs rules board
    → 1 ≤ card.rank → card.rank ≤ rules.max_rank
    → is_home rules board card ≡ nat_lt (home_place rules card.rank) (height_at board (place_of card.suit))
home-by_height rules board card playable allow belongs low high =
    home-by_place rules board card playable (allowed rules (limits_of rules playable) allow) belongs low high
