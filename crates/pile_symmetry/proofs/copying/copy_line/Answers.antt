use Rattle.std.proofs.Common.{◌+◌, ◌*◌, ◌≤◌, length, ◌∙◌, arith}
use Rattle.pile_symmetry.proofs.Copied.{copied-more, copied-long, line-copied}
use Rattle.pile_symmetry.proofs.copying.copy_line.Goals as goal

pub loop-k-preserved : goal.loop-k-preserved
loop-k-preserved c =
    let there : c.args.at + 8 * c.loop-k.k + 8 ≤ length c.loop-k.out = omega
    (arith, c.loop-k.invariant.1, c.requires.there) in
    let here : c.args.from + 8 * c.loop-k.k + 8 ≤ length c.args.bytes.now = omega (arith, c.requires.here) in (
      copied-more c.args.out.now c.loop-k.out c.copy_eight.new.out c.args.bytes.now c.args.at c.args.from c.loop-k.k
          there here c.copy_eight.ensures c.loop-k.invariant.0,
      copied-long c.loop-k.out c.copy_eight.new.out c.args.bytes.now (c.args.at + 8 * c.loop-k.k)
          (c.args.from + 8 * c.loop-k.k) there here c.copy_eight.ensures ∙ c.loop-k.invariant.1,
    )

pub returns-clause-line : goal.returns-clause-line
returns-clause-line c =
    line-copied c.args.out.now c.loop-k.out c.args.bytes.now c.args.at c.args.from c.args.size c.loop-k.k
    c.requires.there (omega arith) c.loop-k.invariant.0
