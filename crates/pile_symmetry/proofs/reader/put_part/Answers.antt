use Rattle.std.proofs.Common.{◌≡◌, length, reverse, ap, ◌∙◌, arith}
use Rattle.std.proofs.lemmas.List.{length-reverse}
use Rattle.packed_state.specs.Packed.{board_of, is_stacked}
use Rattle.packed_state.specs.Spots as spots
use Rattle.pile_symmetry.specs.Parts.{cards_of}
use Rattle.pile_symmetry.proofs.Turned.{spot_cards, put_turned}
use Rattle.pile_symmetry.proofs.reader.put_part.Goals as goal

pub put_turned-requires : goal.put_turned-requires
put_turned-requires g c =
    let board = board_of c.args.packed.now in
    let down : c.cards.result ≡ reverse (cards_of board c.args.part) =
    c.cards.ensures ∙ ap (spots.cards_of (is_stacked c.args.packed.now) board) c.spot_of.ensures
    ∙ spot_cards (is_stacked c.args.packed.now) board c.args.part in
    omega (arith, ap length down, length-reverse (cards_of board c.args.part), c.requires)

pub returns : goal.returns
returns g c =
    let board = board_of c.args.packed.now in
    put_turned g.S.Shows.shown c.args.bytes.now c.put_turned.new.bytes (cards_of board c.args.part) c.cards.result
    (c.cards.ensures ∙ ap (spots.cards_of (is_stacked c.args.packed.now) board) c.spot_of.ensures
    ∙ spot_cards (is_stacked c.args.packed.now) board c.args.part)
    c.put_turned.ensures
