-- How a fault of a line file is printed.
use Rattle.std.specs.Prelude.{List, ℕ, ◌++◌, codes, decimal}
use Rattle.line_printer.specs.declared.fault.LineFault.{LineFault}
use Rattle.line_printer.specs.declared.fault.LineFault.TheVariants.{TooLong, BadMove, Memory}

-- the text of a fault, with the number of the line that it is at
abbrev pub line_fault_text : LineFault → List ℕ
line_fault_text TooLong = codes "too-long"
line_fault_text (BadMove line) = codes "bad-move " ++ decimal line
line_fault_text Memory = codes "memory"
