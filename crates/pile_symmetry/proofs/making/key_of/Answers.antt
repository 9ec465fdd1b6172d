use Rattle.same_boards.proofs.KeySize.{key-short}
use Rattle.packed_state.specs.Packed.{board_of}
use Rattle.pile_symmetry.proofs.Readable.{readable-belongs}
use Rattle.pile_symmetry.proofs.making.key_of.Goals as goal

pub put_key-requires-clause-readable : goal.put_key-requires-clause-readable
put_key-requires-clause-readable c = readable-belongs c.args.rules.now
    (board_of c.args.packed.now) c.parts.ensures.playable c.requires

pub put_key-requires-clause-short : goal.put_key-requires-clause-short
put_key-requires-clause-short c = key-short c.args.rules.now
    (board_of c.args.packed.now) c.parts.ensures.playable c.requires
