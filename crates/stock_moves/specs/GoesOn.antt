-- Whether a run of stock moves goes on, told by the lengths of its stocks.
use Rattle.std.specs.Prelude.{◌≢◌, ℕ, Bool, [], length, Option, IsTrue}
use Rattle.std.specs.Option.{option_map}
use Rattle.game_rules.specs.declared.RuleParts.{RuleParts}
use Rattle.game_rules.specs.Rules.{is_unlimited}
use Rattle.game_rules.specs.Board.{Board}
use Rattle.game_rules.specs.Play.{after}
use Rattle.game_rules.specs.StockMoves.{stock_move}
use Rattle.game_rules.specs.NextByStock.{IsNextByStock}

-- the number of cards in the stock after the next stock move, if the board has one
abbrev pub next_stock : RuleParts → Board → Option ℕ
next_stock rules board = option_map (λ move. length (after rules board move).stock) (stock_move rules board)

-- a stock move leads to a board that the run does not have. If redeals are unlimited, its stock is not
-- as long as the first one, and not empty if one of the run was empty
pub record GoesOn (rules : RuleParts) (board : Board) (first : ℕ) (emptied : Bool) : Type 0 where
  pub next : Board
  pub is_next : IsNextByStock rules board next
  pub other : IsTrue (is_unlimited rules.redeals) → length next.stock ≢ first
  pub some : IsTrue (is_unlimited rules.redeals) → IsTrue emptied → next.stock ≢ []
