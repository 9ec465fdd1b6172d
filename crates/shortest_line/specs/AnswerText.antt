-- The text of the answer to the question for a shortest line.
use Rattle.std.specs.Prelude.{ℕ, List, ◌++◌, length, codes, decimal}
use Rattle.line_printer.specs.LineFile.{ended, line_text}
use Rattle.shortest_line.specs.declared.answer.Shortest.{Shortest}
use Rattle.shortest_line.specs.declared.answer.Shortest.TheVariants.{Least, NoLine, Open}

-- the lines that open the text of each answer: its kind, and the nodes
abbrev pub opening : List ℕ → ℕ → List ℕ
opening kind nodes = ended kind ++ ended (codes "nodes " ++ decimal nodes)

-- the whole text of an answer
unfoldable pub shortest_text : Shortest → List ℕ
shortest_text (Least line nodes) =
    opening (codes "shortest") nodes ++ ended (codes "moves " ++ decimal (length line)) ++ line_text line
shortest_text (NoLine nodes) = opening (codes "unwinnable") nodes
shortest_text (Open bound nodes) = opening (codes "undecided") nodes ++ ended (codes "bound " ++ decimal bound)
