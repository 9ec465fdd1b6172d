-- Parts of a board that fit the rules.
use Rattle.std.specs.Prelude.{◌≡◌, false}
use Rattle.game_rules.specs.declared.RuleParts.{RuleParts}
use Rattle.game_rules.specs.declared.BoardParts.{BoardParts}
use Rattle.game_rules.specs.Position.{tableau_full, face_down_full, cells_full, reserve_full, stock_full, waste_full}
use Rattle.game_rules.specs.Position.{redeals_full, foundations_full, hole_full, rows_full}

-- no part has more than the rules give it
pub record NoneIsFull (rules : RuleParts) (parts : BoardParts) : Type 0 where
  pub tableau : tableau_full rules parts ≡ false
  pub face_down : face_down_full rules parts ≡ false
  pub cells : cells_full rules parts ≡ false
  pub reserve : reserve_full rules parts ≡ false
  pub stock : stock_full rules parts ≡ false
  pub waste : waste_full rules parts ≡ false
  pub redeals_left : redeals_full rules parts ≡ false
  pub foundations : foundations_full rules parts ≡ false
  pub hole : hole_full rules parts ≡ false
  pub rows : rows_full rules parts ≡ false
