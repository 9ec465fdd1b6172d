-- Rows, card by card.
use Rattle.std.specs.Prelude.{Bool, false, ◌==◌, Option, Some, None}
use Rattle.card_piles.specs.declared.Card.{Card}
use Rattle.game_rules.specs.Putting.{follows}

-- whether the card goes right of the one to its left in a row, or first where there is none
abbrev pub goes_next : Option Card → Option Card → Bool
goes_next left None = false
goes_next None (Some card) = card.rank == 2
goes_next (Some left) (Some card) = follows (Some left) card
