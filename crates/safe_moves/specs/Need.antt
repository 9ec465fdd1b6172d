-- Which foundations have to be how high before a card is not needed any more.
use Rattle.std.specs.Prelude.{ℕ, ◌+◌, ◌-◌, ◌%◌, Bool, true, ◌||◌, not, nat_lt, Option, Some, None, if◌then◌else◌}
use Rattle.std.specs.List.{list_all, range_with_len}
use Rattle.card_piles.specs.declared.Card.{Card}
use Rattle.card_piles.specs.Builds.{suits_fit}
use Rattle.game_rules.specs.declared.RuleParts.{RuleParts}
use Rattle.game_rules.specs.Rules.{base_of}
use Rattle.game_rules.specs.Board.{Board, suit_at, height_at}

-- the place of a rank on a foundation, counted from 0 at the bottom
abbrev pub home_place : RuleParts → ℕ → ℕ
home_place rules rank = (rank + rules.max_rank - base_of rules.goal) % rules.max_rank

-- the rank of the cards that build on a card of this rank, if there is one
abbrev pub upper_rank : RuleParts → ℕ → Option ℕ
upper_rank rules rank = if nat_lt 1 rank then Some (rank - 1) else if rules.wrap then Some rules.max_rank else None

-- whether the foundation of a suit is higher than the place, or the suit does not build on the card
abbrev pub is_no_bar : RuleParts → Board → Card → ℕ → ℕ → Bool
is_no_bar rules board card place suit =
    not (suits_fit rules.build (suit_at suit) card.suit) || nat_lt place (height_at board suit)

-- the same of all four suits
abbrev pub are_no_bar : RuleParts → Board → Card → Option ℕ → Bool
are_no_bar rules board card None = true
are_no_bar rules board card (Some rank) = list_all (is_no_bar rules board card (home_place rules rank))
    (range_with_len 0 4)
