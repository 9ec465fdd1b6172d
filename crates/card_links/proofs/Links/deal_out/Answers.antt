use Rattle.std.proofs.Common.{◌≤◌, ◌<◌, subst, sym, arith}
use Rattle.card_links.specs.Chains.{size_at}
use Rattle.card_links.proofs.Out.{out_one}
use Rattle.card_links.proofs.Links.deal_out.Goals as goal

pub shift-requires-clause-enough : goal.shift-requires-clause-enough
shift-requires-clause-enough c =
    let test : c.loop-i.i < c.args.count = c.loop-i-test.true in
    let below : c.args.count ≤ c.args.from = c.requires.below in
    let enough : c.args.count ≤ size_at c.args.self.now c.args.from = c.requires.enough in
    let one = out_one c.args.from c.requires.from c.args.self.now c.used.ensures.chained c.loop-i.i (omega arith)
    (omega arith) in
    subst (λ x. 1 ≤ size_at x c.args.from) (sym c.loop-i.invariant) one
