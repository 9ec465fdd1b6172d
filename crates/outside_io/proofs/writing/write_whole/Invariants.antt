use Rattle.std.proofs.Common.{◌≡◌, ◌++◌, List, ℕ, length}
use Rattle.std.specs.Io.KnownBytes.{Appends}
use Rattle.outside_io.proofs.writing.write_whole.Given as goal

-- what is no longer in the rest was written
abbrev pub invariant-loop-rest : goal.invariant-loop-rest
invariant-loop-rest g l = record {
  done : (bytes : List ℕ) × (l.piece ≡ bytes ++ l.rest) × Appends (g.W.Write.contents l.fn.writer)
      (g.W.Write.contents l.writer) bytes;
  kept : l.faults ≡ l.fn.faults;
}

abbrev pub decreases-loop-rest : goal.decreases-loop-rest
decreases-loop-rest g l = length l.rest
