use Rattle.same_boards.proofs.KeySize.{key-short}
use Rattle.same_boards.proofs.KeyBytes.{key-are_bytes}
use Rattle.same_boards.proofs.laws.keys_are_short.Goals as goal

pub returns : goal.returns
returns c = record { few = key-short; bytes = key-are_bytes }
