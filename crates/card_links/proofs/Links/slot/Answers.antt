use Rattle.std.proofs.Common.{◌+◌, arith}
use Rattle.card_links.proofs.Following.{step, inside}
use Rattle.card_links.proofs.Links.slot.Goals as goal

pub loop-k-preserved : goal.loop-k-preserved
loop-k-preserved c =
    let h = inside _ _ c.args.place c.loop-k._k c.args.depth c.self.view_is c.self.invariant c.requires.place
    c.loop-k-test.true c.requires.depth in
    step _ c.loop-k._k (c.loop-k._k + 1) _ c.loop-k.slot c.from.result 0 c.loop-k.invariant (omega arith) c.from.ensures
    (omega arith)
