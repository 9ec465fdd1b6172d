use Rattle.packed_state.proofs.Depths.{made_pile, made_no_pile, made_cell, made_slot}
use Rattle.packed_state.proofs.Packed.at.Goals as goal

pub returns-then-i-self : goal.returns-then-i-self
returns-then-i-self c =
    rw c.in-Pile.is
    (made_pile _ _ c.self.view_is c.in-Pile.i c.args.depth _ c.from.result c.if-i-self.true c.from.ensures
    c.deep_card.ensures)

pub returns-else-i-self : goal.returns-else-i-self
returns-else-i-self c = rw c.in-Pile.is (made_no_pile _ _ c.self.view_is c.in-Pile.i c.args.depth c.if-i-self.false)

pub returns-in-Cell : goal.returns-in-Cell
returns-in-Cell c = rw c.in-Cell.is (made_cell _ _ c.self.view_is c.in-Cell.i c.args.depth _ c.entry_card.ensures)

pub returns-in-Slot : goal.returns-in-Slot
returns-in-Slot c =
    rw c.in-Slot.is (made_slot _ _ c.self.view_is c.in-Slot.i c.args.depth _ c.entry_card-in-Slot.ensures)
