use Rattle.std.proofs.Common.{arith}
use Rattle.packed_state.proofs.Placed.{placed_empty, placed_room, placed_more, faces_fit, placed_board, placed_used}
use Rattle.packed_state.proofs.Placed.{placed_home}
use Rattle.packed_state.proofs.Packed.from_board.Goals as goal

pub put_place-requires-clause-empty : goal.put_place-requires-clause-empty
put_place-requires-clause-empty c =
    placed_empty c.args.rules.now c.args.board.now c.loop-place.packed c.loop-place.place c.loop-place-test.true
    c.loop-place.invariant

pub put_place-requires-clause-room : goal.put_place-requires-clause-room
put_place-requires-clause-room c =
    placed_room c.args.rules.now c.args.board.now c.loop-place.packed c.loop-place.place c.loop-place-test.true
    c.loop-place.invariant c.max_rank.ensures.limits c.requires

pub loop-place-preserved : goal.loop-place-preserved
loop-place-preserved c =
    placed_more c.args.rules.now c.args.board.now c.loop-place.packed c.loop-place.place c.loop-place-test.true
    c.loop-place.invariant c.put_place.new.self c.put_place.ensures

pub write_faces-requires : goal.write_faces-requires
write_faces-requires c =
    faces_fit c.args.rules.now c.args.board.now c.max_rank.ensures.limits c.requires c.loop-place.packed
    c.loop-place.place (omega arith) c.loop-place.invariant c.faces_due.result c.faces_due.ensures

pub returns-clause-stands_for : goal.returns-clause-stands_for
returns-clause-stands_for c =
    placed_board c.args.rules.now c.args.board.now c.max_rank.ensures.limits c.requires c.loop-place.packed
    c.loop-place.place (omega arith) c.loop-place.invariant c.faces_due.result c.faces_due.ensures
    c.write_faces.new.self c.write_faces.ensures

pub returns-clause-foundations : goal.returns-clause-foundations
returns-clause-foundations c =
    placed_home c.args.rules.now c.args.board.now c.max_rank.ensures.limits c.requires c.loop-place.packed
    c.loop-place.place (omega arith) c.loop-place.invariant c.faces_due.result c.faces_due.ensures
    c.write_faces.new.self c.write_faces.ensures

pub returns-clause-used : goal.returns-clause-used
returns-clause-used c =
    placed_used c.args.rules.now c.args.board.now c.max_rank.ensures.limits c.requires c.loop-place.packed
    c.loop-place.place (omega arith) c.loop-place.invariant c.faces_due.result c.faces_due.ensures
    c.write_faces.new.self c.write_faces.ensures
