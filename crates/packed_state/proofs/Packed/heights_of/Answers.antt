use Rattle.std.proofs.Common.{◌+◌, length, ap, ◌∙◌}
use Rattle.packed_state.specs.Packed.{cards_at}
use Rattle.packed_state.proofs.Unpacked.{more_listed}
use Rattle.packed_state.proofs.Packed.heights_of.Goals as goal

pub loop-f-preserved : goal.loop-f-preserved
loop-f-preserved c =
    more_listed (λ f. length (cards_at c.args.self.now (90 + f))) c.loop-f.f c.loop-f.out c.push.new.self
    c.count.result c.loop-f.invariant c.in_ok-push.ensures.ok
    (c.count.ensures.cards ∙ ap (λ f. length (cards_at c.args.self.now (90 + f))) c.from.ensures)
