use Rattle.packed_state.proofs.Tabling.{below_here, some_here, undealt_made}
use Rattle.packed_state.proofs.Packed.undeal_from_tableau.Goals as goal

pub gather-requires-clause-below : goal.gather-requires-clause-below
gather-requires-clause-below c = below_here _ _ c.self.view_is c.self.invariant c.args.count c.requires

pub gather-requires-clause-enough : goal.gather-requires-clause-enough
gather-requires-clause-enough c = some_here _ _ c.self.view_is c.self.invariant c.args.count c.requires

pub invariant_of-self : goal.invariant_of-self
invariant_of-self c = undealt_made _ _ c.self.view_is c.self.invariant c.args.count c.requires _ c.gather.ensures
