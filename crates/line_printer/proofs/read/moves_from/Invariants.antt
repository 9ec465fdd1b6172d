use Rattle.std.proofs.Common.{length}
use Rattle.line_printer.proofs.Steps.{ReadSoFar}
use Rattle.line_printer.proofs.read.moves_from.Given as goal

abbrev pub invariant-loop-part : goal.invariant-loop-part
invariant-loop-part l = ReadSoFar l.fn.first l.fn.text l.line l.moves.items l.rest

abbrev pub decreases-loop-part : goal.decreases-loop-part
decreases-loop-part l = length l.rest
