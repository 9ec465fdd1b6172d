use Rattle.packed_state.proofs.Downward.{made_pile, made_cell, made_slot}
use Rattle.packed_state.proofs.Packed.cards.Goals as goal

pub returns-in-Pile : goal.returns-in-Pile
returns-in-Pile c = rw c.in-Pile.is (made_pile _ _ c.self.view_is c.keep.ensures c.in-Pile.i _ c.chain_at.ensures)

pub returns-in-Cell : goal.returns-in-Cell
returns-in-Cell c =
    rw c.in-Cell.is (made_cell _ _ c.self.view_is c.keep.ensures c.in-Cell.i _ c.chain_at-in-Cell.ensures)

pub returns-in-Slot : goal.returns-in-Slot
returns-in-Slot c =
    rw c.in-Slot.is (made_slot _ _ c.self.view_is c.keep.ensures c.in-Slot.i _ c.chain_at-in-Slot.ensures)
