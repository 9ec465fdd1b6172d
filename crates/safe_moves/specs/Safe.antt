-- Safe moves: a card that no other card can still need goes to its foundation.
use Rattle.std.specs.Prelude.{ℕ, Bool, true, false, ◌==◌, ◌&&◌, ◌||◌, not, List, map, length, Option}
use Rattle.std.specs.List.{find, flat_map, list_all, list_any, range_with_len}
use Rattle.card_piles.specs.declared.Card.{Card}
use Rattle.card_piles.specs.Cards.{number_of}
use Rattle.card_piles.specs.Builds.{builds_on}
use Rattle.game_rules.specs.declared.RuleParts.{RuleParts}
use Rattle.game_rules.specs.declared.Move.{Move}
use Rattle.game_rules.specs.declared.Move.TheVariants.{Carry, Deal, Redeal}
use Rattle.game_rules.specs.declared.Place.{Place}
use Rattle.game_rules.specs.declared.Place.TheVariants.{Tableau, Cell, Reserve, Foundation}
use Rattle.game_rules.specs.Rules.{is_foundation_goal, takes_back, takes_complete_runs, deals_to_tableau}
use Rattle.game_rules.specs.Board.{Board, suit_at, foundation_cards, height_at}
use Rattle.game_rules.specs.Taking.{taken}
use Rattle.game_rules.specs.Play.{is_legal_move}
use Rattle.game_rules.specs.Order.{legal_moves}

-- the cards of one deck
abbrev pub deck_of : ℕ → List Card
deck_of max_rank =
    flat_map (λ suit. map (λ rank. record { suit = suit_at suit; rank = rank }) (range_with_len 1 max_rank))
    (range_with_len 0 4)

-- whether the card lies on a foundation
abbrev pub is_home : RuleParts → Board → Card → Bool
is_home rules board card =
    list_any (λ f. list_any (λ c. number_of c == number_of card) (foundation_cards rules f (height_at board f)))
    (range_with_len 0 (length board.heights))

-- whether the rules allow forced moves to foundations
abbrev pub rules_allow : RuleParts → Bool
rules_allow rules =
    is_foundation_goal rules.goal && (rules.decks == 1) && not (takes_back rules.goal)
    && not (takes_complete_runs rules.goal) && not (deals_to_tableau rules.target)

-- whether each card of the deck that builds on the card is home
abbrev pub is_not_needed : RuleParts → Board → Card → Bool
is_not_needed rules board card =
    list_all (λ upper. not (builds_on rules.build rules.wrap rules.max_rank upper card) || is_home rules board upper)
    (deck_of rules.max_rank)

-- whether a card may be forced from the place: from the tableau, a cell or the reserve
abbrev pub gives_safely : Place → Bool
gives_safely (Tableau i) = true
gives_safely (Cell i) = true
gives_safely (Reserve i) = true
gives_safely place = false

-- whether the place is a foundation
abbrev pub is_foundation : Place → Bool
is_foundation (Foundation f) = true
is_foundation place = false

-- whether the move may be forced: one card legally goes to its foundation, and no card can still need it
abbrev pub is_safe : RuleParts → Board → Move → Bool
is_safe rules board (Carry from to count) =
    rules_allow rules && is_legal_move rules board (Carry from to count) && (count == 1)
    && gives_safely from && is_foundation to
    && list_all (is_not_needed rules board) (taken rules board from count)
is_safe rules board Deal = false
is_safe rules board Redeal = false

-- the first safe move of the board in the order of moves, if it has one
abbrev pub first_safe : RuleParts → Board → Option Move
first_safe rules board = find (is_safe rules board) (legal_moves rules board)
