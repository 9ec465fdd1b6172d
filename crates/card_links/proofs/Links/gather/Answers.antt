use Rattle.std.proofs.Common.{◌≡◌, ◌≤◌, ◌<◌, ◌+◌, ◌-◌, suc, arith}
use Rattle.card_links.proofs.Out.{gather_step}
use Rattle.card_links.proofs.Links.gather.Goals as goal

pub loop-i-preserved : goal.loop-i-preserved
loop-i-preserved c =
    let test : c.loop-i.i < c.args.count = c.loop-i-test.true in
    let below : c.args.count ≤ c.args.to = c.requires.below in
    let at : c.from.result ≡ c.args.count - (c.loop-i.i + 1) = omega arith in
    let next : c.args.count - c.loop-i.i ≡ suc (c.args.count - (c.loop-i.i + 1)) = omega arith in
    gather_step c.args.to c.requires.to c.loop-i.self c.shift.new.self _ (c.args.count - c.loop-i.i)
    (c.args.count - (c.loop-i.i + 1)) c.from.result
    c.shift.ensures at next (omega arith) c.loop-i.invariant.0 c.loop-i.invariant.1
