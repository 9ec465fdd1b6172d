-- The numbers of nodes of a verdict. What the program promises does not rest on this page.
use Rattle.std.specs.Prelude.{ℕ}
use Rattle.line_printer.specs.declared.verdict.Verdict.{Verdict}
use Rattle.line_printer.specs.declared.verdict.Verdict.TheVariants as verdict

-- the nodes of a verdict
abbrev pub nodes_of : Verdict → ℕ
nodes_of (verdict.Winnable line nodes narrow_nodes) = nodes
nodes_of (verdict.Unwinnable nodes narrow_nodes) = nodes
nodes_of (verdict.Undecided nodes narrow_nodes) = nodes

-- the nodes of the restricted search
abbrev pub narrow_nodes_of : Verdict → ℕ
narrow_nodes_of (verdict.Winnable line nodes narrow_nodes) = narrow_nodes
narrow_nodes_of (verdict.Unwinnable nodes narrow_nodes) = narrow_nodes
narrow_nodes_of (verdict.Undecided nodes narrow_nodes) = narrow_nodes
