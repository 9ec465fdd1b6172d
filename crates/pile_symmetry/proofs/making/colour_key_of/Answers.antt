use Rattle.same_boards.proofs.ColourKeys.{colour_key-short}
use Rattle.packed_state.specs.Packed.{board_of}
use Rattle.pile_symmetry.proofs.Readable.{readable-coloured}
use Rattle.pile_symmetry.proofs.making.colour_key_of.Goals as goal

pub put_key-requires-clause-readable : goal.put_key-requires-clause-readable
put_key-requires-clause-readable c = readable-coloured c.args.rules.now
    (board_of c.args.packed.now) c.parts.ensures.playable c.requires

pub put_key-requires-clause-short : goal.put_key-requires-clause-short
put_key-requires-clause-short c = colour_key-short c.args.rules.now
    (board_of c.args.packed.now) c.parts.ensures.playable c.requires
