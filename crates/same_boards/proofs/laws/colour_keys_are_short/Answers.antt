use Rattle.same_boards.proofs.ColourKeys.{colour_key-short, colour_key-are_bytes}
use Rattle.same_boards.proofs.laws.colour_keys_are_short.Goals as goal

pub returns : goal.returns
returns c = record { few = colour_key-short; bytes = colour_key-are_bytes }
