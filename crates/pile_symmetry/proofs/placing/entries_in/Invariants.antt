use Rattle.std.proofs.Common.{◌≡◌, take, map}
use Rattle.same_boards.specs.Bytes.{entry_of_byte}
use Rattle.pile_symmetry.proofs.placing.entries_in.Given as goal

abbrev pub invariant-loop-byte : goal.invariant-loop-byte
invariant-loop-byte l = l.entries ≡ map entry_of_byte (take l.byte-index l.bytes)
