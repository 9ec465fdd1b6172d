use Rattle.packed_state.proofs.Dealing.{turn_a, turn_b, turn_enough, turn_made}
use Rattle.packed_state.proofs.Packed.turn.Goals as goal

pub shift_each-requires-clause-from : goal.shift_each-requires-clause-from
shift_each-requires-clause-from c =
    turn_a _ _ c.self.view_is c.self.invariant c.args.from c.args.to c.args.count c.requires.from c.requires.to
    c.requires.apart c.requires.enough

pub shift_each-requires-clause-to : goal.shift_each-requires-clause-to
shift_each-requires-clause-to c =
    turn_b _ _ c.self.view_is c.self.invariant c.args.from c.args.to c.args.count c.requires.from c.requires.to
    c.requires.apart c.requires.enough

pub shift_each-requires-clause-enough : goal.shift_each-requires-clause-enough
shift_each-requires-clause-enough c =
    turn_enough _ _ c.self.view_is c.self.invariant c.args.from c.args.to c.args.count c.requires.from c.requires.to
    c.requires.apart c.requires.enough

pub invariant_of-self : goal.invariant_of-self
invariant_of-self c =
    turn_made _ _ c.self.view_is c.self.invariant c.args.from c.args.to c.args.count c.requires.from c.requires.to
    c.requires.apart c.requires.enough _ c.shift_each.ensures
