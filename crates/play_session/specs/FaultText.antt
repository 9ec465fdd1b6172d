-- How a fault of a script is printed.
use Rattle.std.specs.Prelude.{List, ℕ, ◌++◌, codes, decimal}
use Rattle.play_session.specs.declared.fault.ScriptFault.{ScriptFault}
use Rattle.play_session.specs.declared.fault.ScriptFault.TheVariants.{TooLong, BadOrder, Memory}

-- the text of a fault, with the number of the line that it is at
abbrev pub script_fault_text : ScriptFault → List ℕ
script_fault_text TooLong = codes "too-long"
script_fault_text (BadOrder line) = codes "bad-order " ++ decimal line
script_fault_text Memory = codes "memory"
