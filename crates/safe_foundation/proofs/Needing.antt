-- Whether a card is needed, foundation by foundation.
use Rattle.std.proofs.Common.{inl, inr, ◌≡◌, ℕ, ◌+◌, ◌<◌, ◌≤◌, Bool, true, false, refl, ap, sym, ◌∙◌, subst, arith}
use Rattle.std.specs.Prelude.{IsTrue, Option, Some, None, nat_lt, if◌then◌else◌}
use Rattle.std.specs.List.{list_all, range_with_len}
use Rattle.std.proofs.lemmas.Bool.{cases_Bool, cond-true, cond-false}
use Rattle.card_piles.specs.declared.Card.{Card}
use Rattle.game_rules.specs.declared.RuleParts.{RuleParts}
use Rattle.game_rules.specs.Rules.{foundation_rank}
use Rattle.game_rules.specs.Board.{Board, foundation_card}
use Rattle.game_rules.specs.Playable.{IsPlayable}
use Rattle.game_rules.specs.Belonging.{Belongs}
use Rattle.safe_moves.specs.Safe.{rules_allow, is_not_needed}
use Rattle.safe_moves.specs.Need.{home_place, upper_rank, is_no_bar, are_no_bar}
use Rattle.safe_moves.proofs.AtHome.{all_in_range}
use Rattle.safe_moves.proofs.NotNeeded.{all-from_range, not_needed-by_heights}
use Rattle.safe_foundation.specs.Giving.{next_card}

-- the rank of the card that is next is one of the deck
pub record InDeck (rules : RuleParts) (card : Card) : Type 0 where
  pub low : 1 ≤ card.rank
  pub high : card.rank ≤ rules.max_rank

pub next-ranked : (rules : RuleParts) (f height : ℕ) (c : Card) → 1 ≤ rules.max_rank
    → next_card rules f height ≡ Some c → InDeck rules c
next-ranked rules f height c some h =
    elim (cases_Bool (nat_lt height rules.max_rank)) [
      | inl room ↦ (
          let e = cond-true (nat_lt height rules.max_rank) (Some (foundation_card rules f height)) None room in
          let same : foundation_card rules f height ≡ c = cc in
          subst (λ (c : Card). InDeck rules c) same (record { low = omega arith; high = omega (arith, some) }))
      | inr full ↦
          (let e = cond-false (nat_lt height rules.max_rank) (Some (foundation_card rules f height)) None full in cc)
    ]

-- four foundations, one after the other
pub not_needed-none : (rules : RuleParts) (board : Board) (c : Card) → IsPlayable rules → IsTrue (rules_allow rules)
    → Belongs rules board
    → 1 ≤ c.rank → c.rank ≤ rules.max_rank → upper_rank rules c.rank ≡ None → is_not_needed rules board c ≡ true
not_needed-none rules board c playable allow belongs low high e =
    not_needed-by_heights rules board c playable allow belongs low high ∙ ap (are_no_bar rules board c) e

pub not_needed-all : (rules : RuleParts) (board : Board) (c : Card) (rank : ℕ) → IsPlayable rules
    → IsTrue (rules_allow rules) → Belongs rules board
    → 1 ≤ c.rank → c.rank ≤ rules.max_rank → upper_rank rules c.rank ≡ Some rank
    → ((suit : ℕ) → suit < 4 → is_no_bar rules board c (home_place rules rank) suit ≡ true)
    → is_not_needed rules board c ≡ true
not_needed-all rules board c rank playable allow belongs low high e all =
    not_needed-by_heights rules board c playable allow belongs low high ∙ ap (are_no_bar rules board c) e
    ∙ all-from_range (is_no_bar rules board c (home_place rules rank)) 0 4
    (λ k few. (let plain : k ≡ 0 + k = omega arith in
    subst (λ (j : ℕ). is_no_bar rules board c (home_place rules rank) j ≡ true) plain (all k few)))

pub not_needed-barred : (rules : RuleParts) (board : Board) (c : Card) (rank suit : ℕ) → IsPlayable rules
    → IsTrue (rules_allow rules) → Belongs rules board
    → 1 ≤ c.rank → c.rank ≤ rules.max_rank → upper_rank rules c.rank ≡ Some rank
    → suit < 4 → is_no_bar rules board c (home_place rules rank) suit ≡ false → is_not_needed rules board c ≡ false
not_needed-barred rules board c rank suit playable allow belongs low high e few bar =
    not_needed-by_heights rules board c playable allow belongs low high ∙ ap (are_no_bar rules board c) e
    ∙ elim (cases_Bool (list_all (is_no_bar rules board c (home_place rules rank)) (range_with_len 0 4))) [
      | inl all ↦ (
          let here = all_in_range (is_no_bar rules board c (home_place rules rank)) 0 4 suit all few in
          let plain : 0 + suit ≡ suit = omega arith in
          let there = subst (λ (j : ℕ). is_no_bar rules board c (home_place rules rank) j ≡ true) plain here in
          cc)
      | inr some ↦ some
    ]
