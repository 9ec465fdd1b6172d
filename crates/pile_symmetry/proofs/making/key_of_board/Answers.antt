use Rattle.same_boards.proofs.KeySize.{key-short}
use Rattle.pile_symmetry.proofs.Readable.{readable-belongs}
use Rattle.pile_symmetry.proofs.making.key_of_board.Goals as goal

pub put_key-requires-clause-readable : goal.put_key-requires-clause-readable
put_key-requires-clause-readable c = readable-belongs c.args.rules.now c.args.board.now
    c.parts.ensures.playable c.requires

pub put_key-requires-clause-short : goal.put_key-requires-clause-short
put_key-requires-clause-short c = key-short c.args.rules.now c.args.board.now c.parts.ensures.playable c.requires
