use Rattle.packed_state.proofs.Followed.{top_pile}
use Rattle.packed_state.proofs.Packed.top.Goals as goal

pub returns-in-Pile : goal.returns-in-Pile
returns-in-Pile c = rw c.in-Pile.is (top_pile _ _ c.self.view_is c.in-Pile.i _ c.slot_at.ensures)
