-- What the orders of a session make of its moves.
use Rattle.std.specs.Prelude.{◌≡◌, ℕ, List, [], ◌∷◌, ◌++◌, Option, Some, None, take, if◌then◌else◌}
use Rattle.game_rules.specs.declared.RuleParts.{RuleParts}
use Rattle.game_rules.specs.declared.Move.{Move}
use Rattle.game_rules.specs.Board.{Board, top_of, below_top}
use Rattle.game_rules.specs.Play.{is_legal_move, after}
use Rattle.play_session.specs.declared.order.Order.{Order}
use Rattle.play_session.specs.declared.order.Order.TheVariants.{Make, Undo, Redo, Show, Solved}

-- the moves that stand, in the order in which they were made, and those taken back: the last is the next to be made again
pub record Moves : Type 0 where
  pub standing : List Move
  pub undone : List Move

-- no move stands, and none is taken back
abbrev pub no_moves : Moves
no_moves = record { standing = []; undone = [] }

-- the board that moves give, one made after the other
abbrev pub board_after : RuleParts → Board → List Move → Board
board_after rules board [] = board
board_after rules board (move ∷ moves) = board_after rules (after rules board move) moves

-- the moves after one more was made: none is taken back any more
abbrev pub with_made : Moves → Move → Moves
with_made moves move = record { standing = moves.standing ++ move ∷ []; undone = [] }

-- the moves after a standing one, if there is one, was taken back
abbrev pub with_undone : Moves → Option Move → Moves
with_undone moves None = moves
with_undone moves (Some last) =
    record { standing = below_top 1 moves.standing; undone = moves.undone ++ last ∷ [] }

-- the moves after one that was taken back, if there is one, was made again
abbrev pub with_redone : Moves → Option Move → Moves
with_redone moves None = moves
with_redone moves (Some next) =
    record { standing = moves.standing ++ next ∷ []; undone = below_top 1 moves.undone }

-- what an order makes of the moves: what cannot be done changes nothing
abbrev pub after_order : RuleParts → Board → Moves → Order → Moves
after_order rules start moves (Make move) =
    if is_legal_move rules (board_after rules start moves.standing) move then with_made moves move else moves
after_order rules start moves Undo = with_undone moves (top_of moves.standing)
after_order rules start moves Redo = with_redone moves (top_of moves.undone)
after_order rules start moves Show = moves
after_order rules start moves Solved = moves

-- what orders make of the moves, one after the other
abbrev pub after_orders : RuleParts → Board → Moves → List Order → Moves
after_orders rules start moves [] = moves
after_orders rules start moves (order ∷ orders) =
    after_orders rules start (after_order rules start moves order) orders
