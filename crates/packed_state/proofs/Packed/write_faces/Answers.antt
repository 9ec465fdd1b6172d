use Rattle.std.proofs.Common.{arith}
use Rattle.packed_state.proofs.Placed.{faces_linked}
use Rattle.packed_state.proofs.Packed.write_faces.Goals as goal

pub invariant_of-self : goal.invariant_of-self
invariant_of-self c = faces_linked _ _ c.self.view_is c.self.invariant c.args.faces (omega arith) c.requires
