-- Steps that can be made from a board. What the program promises does not rest on this page.
use Rattle.std.specs.Prelude.{List, [], ◌∷◌, ⊤}
use Rattle.game_rules.specs.declared.RuleParts.{RuleParts}
use Rattle.game_rules.specs.Board.{Board}
use Rattle.game_rules.specs.Play.{Legal}
use Rattle.game_rules.specs.StockMoves.{after_stock_moves}
use Rattle.game_rules.specs.NextByStock.{HasStockMoves}
use Rattle.stock_steps.specs.declared.Step.{Step}
use Rattle.stock_steps.specs.Steps.{after_step}

-- the step's stock moves can be made from the board, and its last move is legal after them
pub record CanBeMade (rules : RuleParts) (board : Board) (step : Step) : Type 0 where
  pub stock : HasStockMoves rules step.deals board
  pub last : Legal rules (after_stock_moves rules step.deals board) step.last

-- each step can be made from the board to which the steps before it lead
abbrev pub CanAllBeMade : RuleParts → Board → List Step → Type 0
CanAllBeMade rules board [] = ⊤
CanAllBeMade rules board (step ∷ steps) = CanBeMade rules board step
    × CanAllBeMade rules (after_step rules board step) steps
