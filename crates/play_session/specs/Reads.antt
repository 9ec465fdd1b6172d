-- Answers of a reading that needs memory.
use Rattle.std.specs.Prelude.{List, ◌≡◌, Result, Ok, Err}
use Rattle.play_session.specs.declared.order.Order.{Order}
use Rattle.play_session.specs.declared.fault.ScriptFault.{ScriptFault}
use Rattle.play_session.specs.declared.fault.ScriptFault.TheVariants.{TooLong, BadOrder, Memory}

-- the answer is the reading, or want of memory
abbrev pub ReadsAs : Result (List Order) ScriptFault → Result (List Order) ScriptFault → Type 0
ReadsAs (Ok orders) reading = reading ≡ Ok orders
ReadsAs (Err Memory) reading = Unit {0}
ReadsAs (Err TooLong) reading = reading ≡ Err TooLong
ReadsAs (Err (BadOrder line)) reading = reading ≡ Err (BadOrder line)
