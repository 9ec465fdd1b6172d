use Rattle.std.proofs.Common.{◌≡◌, ◌+◌, ◌-◌, ◌≤◌, ℕ, List, ◌++◌, length}
use Rattle.std.specs.Io.KnownBytes.{Consumes}
use Rattle.outside_io.proofs.reading.read_up_to.Given as goal

-- what was read so far was taken from the reader and appended
abbrev pub invariant-reads : goal.invariant-reads
invariant-reads g l = record {
  done : (bytes : List ℕ) × (l.out.items ≡ l.fn.out.items ++ bytes) × Consumes (g.F.Read.remaining l.fn.file)
      (g.F.Read.remaining l.file) bytes × (length bytes ≤ l.fn.limit + 1);
  kept : l.faults ≡ l.fn.faults;
  start : l.start ≡ length l.fn.out.items;
}

abbrev pub decreases-reads : goal.decreases-reads
decreases-reads g l = (l.fn.limit + 1 + l.start) - length l.out.items
