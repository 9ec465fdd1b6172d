use Rattle.std.proofs.Common.{arith}
use Rattle.std.specs.Prelude.{Some}
use Rattle.packed_state.proofs.Making.{can_return, home_fits, there_fits, back_apart, back_enough, back_depth}
use Rattle.packed_state.proofs.Making.{returned_linked}
use Rattle.packed_state.proofs.Packed.uncarry.Goals as goal

pub overflow_sub-count : goal.overflow_sub-count
overflow_sub-count c =
    let r = can_return c.args.stacked c.args.self.now c.args.from c.args.to c.args.count c.args.face_down c.requires in
    let s = r.some in omega arith

pub slot-slot-requires-clause-place : goal.slot-slot-requires-clause-place
slot-slot-requires-clause-place c =
    let r = can_return c.args.stacked c.args.self.now c.args.from c.args.to c.args.count c.args.face_down c.requires in
    there_fits _ _ _ c.self.view_is c.self.invariant c.args.from c.args.to c.args.count c.args.face_down r _ _ _
    c.shape_before-shape.ensures c.source_of-a.ensures c.index_of-b.ensures

pub slot-slot-requires-clause-depth : goal.slot-slot-requires-clause-depth
slot-slot-requires-clause-depth c =
    let r = can_return c.args.stacked c.args.self.now c.args.from c.args.to c.args.count c.args.face_down c.requires in
    back_depth _ _ _ c.self.view_is c.self.invariant c.args.from c.args.to c.args.count c.args.face_down r _ _ _
    c.shape_before-shape.ensures c.source_of-a.ensures c.index_of-b.ensures

pub shift-requires-clause-from : goal.shift-requires-clause-from
shift-requires-clause-from c =
    let r = can_return c.args.stacked c.args.self.now c.args.from c.args.to c.args.count c.args.face_down c.requires in
    there_fits _ _ _ c.self.view_is c.self.invariant c.args.from c.args.to c.args.count c.args.face_down r _ _ _
    c.shape_before-shape.ensures c.source_of-a.ensures c.index_of-b.ensures

pub shift-requires-clause-to : goal.shift-requires-clause-to
shift-requires-clause-to c =
    let r = can_return c.args.stacked c.args.self.now c.args.from c.args.to c.args.count c.args.face_down c.requires in
    home_fits _ _ _ c.self.view_is c.self.invariant c.args.from c.args.to c.args.count c.args.face_down r _ _ _
    c.shape_before-shape.ensures c.source_of-a.ensures c.index_of-b.ensures

pub shift-requires-clause-apart : goal.shift-requires-clause-apart
shift-requires-clause-apart c =
    let r = can_return c.args.stacked c.args.self.now c.args.from c.args.to c.args.count c.args.face_down c.requires in
    back_apart _ _ _ c.self.view_is c.self.invariant c.args.from c.args.to c.args.count c.args.face_down r _ _ _
    c.shape_before-shape.ensures c.source_of-a.ensures c.index_of-b.ensures

pub shift-requires-clause-enough : goal.shift-requires-clause-enough
shift-requires-clause-enough c =
    let r = can_return c.args.stacked c.args.self.now c.args.from c.args.to c.args.count c.args.face_down c.requires in
    back_enough _ _ _ c.self.view_is c.self.invariant c.args.from c.args.to c.args.count c.args.face_down r _ _ _
    c.shape_before-shape.ensures c.source_of-a.ensures c.index_of-b.ensures

pub invariant_of-self : goal.invariant_of-self
invariant_of-self c =
    let r = can_return c.args.stacked c.args.self.now c.args.from c.args.to c.args.count c.args.face_down c.requires in
    returned_linked _ _ _ c.self.view_is c.self.invariant c.args.from c.args.to c.args.count c.args.face_down r _ _ _
    c.shape_before-shape.ensures c.source_of-a.ensures c.index_of-b.ensures
    _ _ _ c.slot-slot.result (Some c.args.card) c.shift.ensures c.write_card.ensures c.write_face.ensures
