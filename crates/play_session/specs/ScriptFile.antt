-- The file of a session's orders.
use Rattle.std.specs.Prelude.{ℕ, ◌+◌, nat_lt, List, [], ◌∷◌, length, Option, Some, None, Result}
use Rattle.std.specs.Prelude.{Ok, Err, codes, if◌then◌else◌}
use Rattle.std.specs.Str.{bytes_eq}
use Rattle.game_rules.specs.Play.{is_empty}
use Rattle.game_rules.specs.declared.Move.{Move}
use Rattle.line_printer.specs.MoveText.{move_of_text}
use Rattle.line_printer.specs.LineFile.{parts_of}
use Rattle.play_session.specs.declared.order.Order.{Order}
use Rattle.play_session.specs.declared.order.Order.TheVariants.{Make, Undo, Redo, Show, Solved}
use Rattle.play_session.specs.declared.fault.ScriptFault.{ScriptFault}
use Rattle.play_session.specs.declared.fault.ScriptFault.TheVariants.{TooLong, BadOrder}

-- the order to make a move, if there is one
abbrev pub made : Option Move → Option Order
made None = None
made (Some move) = Some (Make move)

-- the order whose text this is
unfoldable pub order_of_text : List ℕ → Option Order
order_of_text text =
    if bytes_eq text (codes "undo") then Some Undo else
    if bytes_eq text (codes "redo") then Some Redo else
    if bytes_eq text (codes "show") then Some Show else
    if bytes_eq text (codes "solved?") then Some Solved else made (move_of_text text)

-- an order, and the orders that follow it; where there is no order, the fault at its line
abbrev pub with_order : ℕ → Option Order → Result (List Order) ScriptFault → Result (List Order) ScriptFault
with_order line None rest = Err (BadOrder line)
with_order line (Some order) (Ok orders) = Ok (order ∷ orders)
with_order line (Some order) (Err fault) = Err fault

-- the orders of lines of which the first has this number, with nothing after the last of them
abbrev pub orders_from : ℕ → List (List ℕ) → Result (List Order) ScriptFault
orders_from line [] = Ok []
orders_from line (text ∷ parts) =
    if is_empty parts then (if is_empty text then Ok [] else Err (BadOrder line))
    else with_order line (order_of_text text) (orders_from (line + 1) parts)

-- what a file of at most the limit's bytes gives: its orders or its first fault
abbrev pub script_within : ℕ → List ℕ → Result (List Order) ScriptFault
script_within limit bytes = if nat_lt limit (length bytes) then Err TooLong else orders_from 1 (parts_of bytes)

-- what a script gives: its orders or its first fault
unfoldable pub script_of : List ℕ → Result (List Order) ScriptFault
script_of bytes = script_within 65536 bytes
