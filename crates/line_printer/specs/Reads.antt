-- Answers of a reading that needs memory.
use Rattle.std.specs.Prelude.{List, ◌≡◌, Result, Ok, Err}
use Rattle.game_rules.specs.declared.Move.{Move}
use Rattle.line_printer.specs.declared.fault.LineFault.{LineFault}
use Rattle.line_printer.specs.declared.fault.LineFault.TheVariants.{TooLong, BadMove, Memory}

-- the answer is the reading, or want of memory
abbrev pub ReadsAs : Result (List Move) LineFault → Result (List Move) LineFault → Type 0
ReadsAs (Ok moves) reading = reading ≡ Ok moves
ReadsAs (Err Memory) reading = Unit {0}
ReadsAs (Err TooLong) reading = reading ≡ Err TooLong
ReadsAs (Err (BadMove line)) reading = reading ≡ Err (BadMove line)
