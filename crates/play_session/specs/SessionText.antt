-- What a session prints for orders.
use Rattle.std.specs.Prelude.{ℕ, List, [], ◌∷◌, ◌++◌, length, codes, decimal, if◌then◌else◌}
use Rattle.game_rules.specs.declared.RuleParts.{RuleParts}
use Rattle.game_rules.specs.Board.{Board}
use Rattle.game_rules.specs.Play.{is_empty, is_legal_move}
use Rattle.game_rules.specs.Winning.{is_won}
use Rattle.line_printer.specs.LineFile.{ended}
use Rattle.deal_reader.specs.Spelling.{position_text}
use Rattle.play_session.specs.declared.order.Order.{Order}
use Rattle.play_session.specs.declared.order.Order.TheVariants.{Make, Undo, Redo, Show, Solved}
use Rattle.play_session.specs.Moves.{Moves, no_moves, board_after, after_order}

-- what is printed for an order: the board is the one that the standing moves give
abbrev pub answer_text : RuleParts → Board → Moves → Order → List ℕ
answer_text rules start moves (Make move) =
    if is_legal_move rules (board_after rules start moves.standing) move
    then codes "ok" else codes "refused not-legal"
answer_text rules start moves Undo =
    if is_empty moves.standing then codes "refused nothing-to-undo" else codes "ok"
answer_text rules start moves Redo =
    if is_empty moves.undone then codes "refused nothing-to-redo" else codes "ok"
answer_text rules start moves Show = position_text rules (board_after rules start moves.standing)
answer_text rules start moves Solved =
    if is_won rules (board_after rules start moves.standing) then codes "yes" else codes "no"

-- a line for each order of a session that has these moves, and at the end how many moves stand
abbrev pub session_text : RuleParts → Board → Moves → List Order → List ℕ
session_text rules start moves [] = ended (codes "standing " ++ decimal (length moves.standing))
session_text rules start moves (order ∷ orders) =
    ended (answer_text rules start moves order)
    ++ session_text rules start (after_order rules start moves order) orders

-- the whole text of a session that begins with the orders: no move stands, and none is taken back
unfoldable pub play_text : RuleParts → Board → List Order → List ℕ
play_text rules start orders = session_text rules start no_moves orders
