-- The text of orders: what a script that is read was.
use Rattle.std.specs.Prelude.{ℕ, List, [], ◌∷◌, ◌++◌, codes}
use Rattle.line_printer.specs.MoveText.{move_text}
use Rattle.line_printer.specs.LineFile.{ended}
use Rattle.play_session.specs.declared.order.Order.{Order}
use Rattle.play_session.specs.declared.order.Order.TheVariants.{Make, Undo, Redo, Show, Solved}

-- the text of an order
abbrev pub order_text : Order → List ℕ
order_text (Make move) = move_text move
order_text Undo = codes "undo"
order_text Redo = codes "redo"
order_text Show = codes "show"
order_text Solved = codes "solved?"

-- the text of orders: each order's text on a line of its own
abbrev pub script_text : List Order → List ℕ
script_text [] = []
script_text (order ∷ orders) = ended (order_text order) ++ script_text orders
