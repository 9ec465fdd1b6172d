-- Where a session stands that did not come to the end of its orders.
use Rattle.std.specs.Prelude.{◌≡◌, ℕ, ◌≤◌, List, length, take}
use Rattle.game_rules.specs.declared.RuleParts.{RuleParts}
use Rattle.game_rules.specs.Board.{Board}
use Rattle.play_session.specs.declared.order.Order.{Order}
use Rattle.play_session.specs.Moves.{Moves, after_orders}
use Rattle.play_session.specs.Held.{Held, Stands}

-- the moves are those after so many of the orders, from the first on
pub record IsAfterSome (rules : RuleParts) (start : Board) (old : Moves) (orders : List Order) (new : Moves) : Type 0
  where
    pub count : ℕ
    pub within : count ≤ length orders
    pub moves : new ≡ after_orders rules start old (take count orders)

-- rules and start stay, and the standing moves lead to the board
pub record Keeps (old new : Held) : Type 0 where
  pub rules : new.rules ≡ old.rules
  pub start : new.start ≡ old.start
  pub stands : Stands new
