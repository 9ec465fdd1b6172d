-- Stock moves as a relation, and stock and waste as one queue. What the program promises does not rest on this page.
use Rattle.std.specs.Prelude.{◌≡◌, ℕ, suc, ◌<◌, not, IsTrue, List, ◌++◌, reverse}
use Rattle.card_piles.specs.declared.Card.{Card}
use Rattle.game_rules.specs.declared.RuleParts.{RuleParts}
use Rattle.game_rules.specs.declared.Move.{Move}
use Rattle.game_rules.specs.Rules.{deals_to_waste}
use Rattle.game_rules.specs.Board.{Board}
use Rattle.game_rules.specs.Play.{Legal, after}
use Rattle.game_rules.specs.StockMoves.{is_carry, after_stock_moves}

-- b is the board after a stock move that is legal on a
pub record IsNextByStock (rules : RuleParts) (a b : Board) : Type 0 where
  pub move : Move
  pub is_stock_move : IsTrue (not (is_carry move))
  pub legal : Legal rules a move
  pub is_after : b ≡ after rules a move

-- so many stock moves can be made from the board; for any of them the stock must deal to the waste
pub record HasStockMoves (rules : RuleParts) (k : ℕ) (board : Board) : Type 0 where
  pub to_waste : 0 < k → IsTrue (deals_to_waste rules.target)
  pub each : (i : ℕ) → i < k → IsNextByStock rules (after_stock_moves rules i board)
      (after_stock_moves rules (suc i) board)

-- stock and waste as one queue of cards: the stock from its bottom up, then the waste from its top down
abbrev pub queue : Board → List Card
queue board = board.stock ++ reverse board.waste
