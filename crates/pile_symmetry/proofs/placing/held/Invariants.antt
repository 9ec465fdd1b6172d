use Rattle.std.proofs.Common.{◌≡◌, take, map}
use Rattle.pile_symmetry.specs.Reading.{card_entry}
use Rattle.pile_symmetry.proofs.placing.held.Given as goal

abbrev pub invariant-loop-byte : goal.invariant-loop-byte
invariant-loop-byte l = l.entries ≡ map card_entry (take l.byte-index l.bytes)
