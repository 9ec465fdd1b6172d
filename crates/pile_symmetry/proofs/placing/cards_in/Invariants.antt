use Rattle.std.proofs.Common.{◌≡◌, take, map}
use Rattle.same_boards.specs.Bytes.{card_of_byte}
use Rattle.pile_symmetry.proofs.placing.cards_in.Given as goal

abbrev pub invariant-loop-byte : goal.invariant-loop-byte
invariant-loop-byte l = l.cards ≡ map card_of_byte (take l.byte-index l.bytes)
