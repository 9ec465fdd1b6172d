use Rattle.std.proofs.Common.{◌-◌, ◌∙◌, ap, arith, length}
use Rattle.packed_state.specs.Packed.{is_inside}
use Rattle.packed_state.proofs.Due.{due_inside, due_room}
use Rattle.packed_state.proofs.Packed.put_place.Goals as goal

pub put_entry-requires-clause-inside : goal.put_entry-requires-clause-inside
put_entry-requires-clause-inside c =
    λ some. let long = ap length c.entry_due.ensures in
    ap (λ s. is_inside s c.args.place) c.requires.shape
    ∙ due_inside c.args.rules.now c.args.board.now c.args.place (omega arith)

pub put_all-requires-clause-inside : goal.put_all-requires-clause-inside
put_all-requires-clause-inside c =
    λ some. let long = ap length c.list_due.ensures in
    ap (λ s. is_inside s c.args.place) c.requires.shape
    ∙ due_inside c.args.rules.now c.args.board.now c.args.place (omega arith)

pub put_home-requires-clause-room : goal.put_home-requires-clause-room
put_home-requires-clause-room c =
    due_room c.args.rules.now c.args.board.now c.args.place (c.args.place - 90) c.height_due.result
    c.args.self.now.links.used (omega arith) (omega arith) c.height_due.ensures c.requires.room
