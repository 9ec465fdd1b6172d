-- A printed verdict read again. What the program promises does not rest on this page.
use Rattle.std.specs.Prelude.{ℕ, ◌≡◌, List, Ok}
use Rattle.line_printer.specs.declared.verdict.Verdict.{Verdict}
use Rattle.line_printer.specs.declared.verdict.Verdict.TheVariants.{Winnable, Unwinnable, Undecided}
use Rattle.line_printer.specs.LineFile.{line_of}

-- the text of a winnable verdict is a line file that gives its line
abbrev pub ReadsBack : List ℕ → Verdict → Type 0
ReadsBack text (Winnable line nodes narrow_nodes) = line_of text ≡ Ok line
ReadsBack text (Unwinnable nodes narrow_nodes) = Unit {0}
ReadsBack text (Undecided nodes narrow_nodes) = Unit {0}
