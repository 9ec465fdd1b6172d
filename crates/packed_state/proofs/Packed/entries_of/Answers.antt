use Rattle.std.proofs.Common.{◌+◌, ap, ◌∙◌}
use Rattle.game_rules.specs.Board.{top_of}
use Rattle.packed_state.specs.Packed.{cards_at}
use Rattle.packed_state.proofs.Unpacked.{more_listed}
use Rattle.packed_state.proofs.Packed.entries_of.Goals as goal

pub loop-i-preserved : goal.loop-i-preserved
loop-i-preserved c =
    more_listed (λ i. top_of (cards_at c.args.self.now (c.args.first + i))) c.loop-i.i c.loop-i.out c.push.new.self
    c.top_card.result c.loop-i.invariant c.in_ok-push.ensures.ok
    (c.top_card.ensures ∙ ap (λ i. top_of (cards_at c.args.self.now (c.args.first + i))) c.from.ensures)
