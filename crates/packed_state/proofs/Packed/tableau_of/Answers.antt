use Rattle.std.proofs.Common.{ap, ◌∙◌}
use Rattle.packed_state.specs.Packed.{cards_at}
use Rattle.packed_state.proofs.Unpacked.{more_listed}
use Rattle.packed_state.proofs.Packed.tableau_of.Goals as goal

pub loop-i-preserved : goal.loop-i-preserved
loop-i-preserved c =
    more_listed (cards_at c.args.self.now) c.loop-i.i c.loop-i.out c.push.new.self
    c.in_ok-cards_of.field-0 c.loop-i.invariant c.in_ok-push.ensures.ok
    (c.in_ok-cards_of.ensures ∙ ap (cards_at c.args.self.now) c.from.ensures)
