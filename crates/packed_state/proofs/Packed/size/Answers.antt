use Rattle.packed_state.proofs.Counts.{made_pile, made_cell, made_slot}
use Rattle.packed_state.proofs.Packed.size.Goals as goal

pub returns-in-Pile : goal.returns-in-Pile
returns-in-Pile c = rw c.in-Pile.is (made_pile _ _ c.self.view_is c.keep.ensures c.in-Pile.i _ c.count_at.ensures)

pub returns-in-Cell : goal.returns-in-Cell
returns-in-Cell c =
    rw c.in-Cell.is (made_cell _ _ c.self.view_is c.keep.ensures c.in-Cell.i _ c.count_at-in-Cell.ensures)

pub returns-in-Slot : goal.returns-in-Slot
returns-in-Slot c =
    rw c.in-Slot.is (made_slot _ _ c.self.view_is c.keep.ensures c.in-Slot.i _ c.count_at-in-Slot.ensures)

pub returns-in-Stock : goal.returns-in-Stock
returns-in-Stock c = rw c.in-Stock.is c.count.ensures.cards

pub returns-in-Waste : goal.returns-in-Waste
returns-in-Waste c = rw c.in-Waste.is c.count-in-Waste.ensures.cards

pub returns-in-Hole : goal.returns-in-Hole
returns-in-Hole c = rw c.in-Hole.is c.count-in-Hole.ensures.cards
