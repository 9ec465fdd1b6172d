use Rattle.std.proofs.Common.{◌≤◌, ◌<◌, subst, sym, arith}
use Rattle.card_links.specs.Chains.{size_at}
use Rattle.card_links.proofs.Each.{each_size}
use Rattle.card_links.proofs.Links.shift_each.Goals as goal

pub shift-requires-clause-enough : goal.shift-requires-clause-enough
shift-requires-clause-enough c =
    let test : c.loop-k._k < c.args.count = c.loop-k-test.true in
    let below : c.args.count ≤ size_at c.args.self.now c.args.from = c.requires.enough in
    let one = each_size c.args.from c.args.to c.requires.from c.requires.to c.requires.apart c.args.self.now
    c.used.ensures.chained c.loop-k._k (omega arith) in
    subst (λ x. 1 ≤ size_at x c.args.from) (sym c.loop-k.invariant) one
