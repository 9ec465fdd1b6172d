-- The text of a verdict.
use Rattle.std.specs.Prelude.{ℕ, List, ◌++◌, length, codes, decimal}
use Rattle.line_printer.specs.declared.verdict.Verdict.{Verdict}
use Rattle.line_printer.specs.declared.verdict.Verdict.TheVariants.{Winnable, Unwinnable, Undecided}
use Rattle.line_printer.specs.LineFile.{ended, line_text}

-- the lines that open the text of each verdict: its kind, and the nodes of the plain and of the narrow search
abbrev pub head_text : List ℕ → ℕ → ℕ → List ℕ
head_text kind nodes narrow_nodes = ended kind ++ ended (codes "nodes " ++ decimal nodes)
    ++ ended (codes "narrow " ++ decimal narrow_nodes)

-- the whole text of a verdict
unfoldable pub output_of : Verdict → List ℕ
output_of (Winnable line nodes narrow_nodes) =
    head_text (codes "winnable") nodes narrow_nodes ++ ended (codes "moves " ++ decimal (length line)) ++ line_text line
output_of (Unwinnable nodes narrow_nodes) = head_text (codes "unwinnable") nodes narrow_nodes
output_of (Undecided nodes narrow_nodes) = head_text (codes "undecided") nodes narrow_nodes
