-- What the making of a key asks of a board.
use Rattle.std.specs.Prelude.{◌≡◌, ◌≤◌, length}
use Rattle.game_rules.specs.declared.RuleParts.{RuleParts}
use Rattle.game_rules.specs.Board.{Board}
use Rattle.game_rules.specs.Belonging.{foundation_count, slot_count}

-- the board has as many places as its rules say, and its parts are short
pub record IsReadable (rules : RuleParts) (board : Board) : Type 0 where
  pub piles : length board.piles ≡ rules.piles
  pub cells : length board.cells ≡ rules.cells
  pub heights : length board.heights ≡ foundation_count rules
  pub slots : length board.slots ≡ slot_count rules
  pub few_in_reserve : length board.reserve ≤ 52
  pub few_in_stock : length board.stock ≤ 104
  pub few_in_hole : length board.hole ≤ 104
