use Rattle.packed_state.proofs.Dealing.{redeals_linked}
use Rattle.packed_state.proofs.Packed.set_redeals.Goals as goal

pub invariant_of-self : goal.invariant_of-self
invariant_of-self c = redeals_linked _ c.args.redeals_left c.self.invariant
