use Rattle.same_boards.proofs.ColourKeys.{coloured-byte}
use Rattle.same_boards.proofs.laws.a_colour_byte_tells_colour_and_rank.Goals as goal

pub returns : goal.returns
returns c = record { byte = coloured-byte }
