use Rattle.std.proofs.Common.{arith}
use Rattle.packed_state.proofs.Tabling.{dealt_made}
use Rattle.packed_state.proofs.Packed.deal_to_tableau.Goals as goal

pub invariant_of-self : goal.invariant_of-self
invariant_of-self c =
    dealt_made _ _ c.self.view_is c.self.invariant _ c.size.result c.min-count.result c.size.ensures (omega arith)
    c.deal_out.ensures
