-- Stock moves, one after the other: deals and redeals of a stock that deals to the waste.
use Rattle.std.specs.Prelude.{ℕ, zero, suc, Bool, true, false, not, Option, Some}
use Rattle.std.specs.Prelude.{None, if◌then◌else◌}
use Rattle.game_rules.specs.declared.RuleParts.{RuleParts}
use Rattle.game_rules.specs.declared.Move.{Move}
use Rattle.game_rules.specs.declared.Move.TheVariants.{Carry, Deal, Redeal}
use Rattle.game_rules.specs.Board.{Board}
use Rattle.game_rules.specs.Play.{is_empty, is_legal_redeal, after}

-- whether a move carries cards; the other moves are stock moves
abbrev pub is_carry : Move → Bool
is_carry (Carry from to count) = true
is_carry Deal = false
is_carry Redeal = false

-- the next stock move of a board whose stock deals to the waste: a deal while the stock has a card, else a redeal where
-- it is legal
abbrev pub stock_move : RuleParts → Board → Option Move
stock_move rules board =
    if not (is_empty board.stock) then Some Deal
    else if is_legal_redeal rules board then Some Redeal else None

-- the board after its next stock move, and the board itself where it has none
abbrev pub after_stock_move : RuleParts → Board → Board
after_stock_move rules board = elim (stock_move rules board) [
  | None ↦ board
  | Some move ↦ after rules board move
]

-- the board after so many stock moves, each the next one of the board where it is made
abbrev pub after_stock_moves : RuleParts → ℕ → Board → Board
after_stock_moves rules zero board = board
after_stock_moves rules (suc k) board = after_stock_moves rules k (after_stock_move rules board)
