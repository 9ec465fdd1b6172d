-- Boards whose places stand in the order of their key.
use Rattle.std.specs.Prelude.{◌≡◌, ℕ, ◌<◌, IsTrue, map, length}
use Rattle.game_rules.specs.declared.RuleParts.{RuleParts}
use Rattle.game_rules.specs.Rules.{is_foundation_goal, is_sequence_goal}
use Rattle.game_rules.specs.Board.{Board, below_top}
use Rattle.game_rules.specs.Winning.{rows_of}
use Rattle.game_rules.specs.Position.{filled}
use Rattle.same_boards.specs.Same.{heights_of_suit}
use Rattle.same_boards.specs.Keys.{sorted_bytes, sorted_lists, card_bytes, entry_byte, cell_bytes, reserve_bytes}
use Rattle.same_boards.specs.Keys.{pile_bytes, piles_bytes, row_bytes}

-- like places hold their cards in the order of the key, from place 0 on; the cards below the top of the hole go up
pub record IsInKeyOrder (rules : RuleParts) (board : Board) : Type 0 where
  pub piles : map pile_bytes board.piles ≡ piles_bytes rules board
  pub cells : map entry_byte board.cells ≡ filled rules.cells 0 (cell_bytes board)
  pub reserve : map entry_byte board.reserve ≡ filled (length board.reserve) 0 (reserve_bytes rules board)
  pub heights : IsTrue (is_foundation_goal rules.goal) → (suit : ℕ) → suit < 4
      → heights_of_suit rules board suit ≡ sorted_bytes (heights_of_suit rules board suit)
  pub rows : IsTrue (is_sequence_goal rules.goal)
      → map row_bytes (rows_of rules board) ≡ sorted_lists (map row_bytes (rows_of rules board))
  pub hole : card_bytes (below_top 1 board.hole) ≡ sorted_bytes (card_bytes (below_top 1 board.hole))
