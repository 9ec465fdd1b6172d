use Rattle.std.proofs.Common.{◌+◌, List, ℕ, ap, arith, length, length-append}
use Rattle.outside_io.proofs.Transfers.{reads_most}
use Rattle.outside_io.proofs.reading.read_up_to.Goals as goal

pub returns-then-taken-limit-clause-front : goal.returns-then-taken-limit-clause-front
returns-then-taken-limit-clause-front g c =
    let done = c.reads.invariant.done in
    let old = c.args.out.now.items in
    reads_most (c.args.limit + 1) (g.F.Read.remaining c.args.file.now)
    (g.F.Read.remaining c.reads.file) old c.reads.out.items done.0 done.1 done.2
    (omega (
      arith,
      done.3,
      c.if-taken-limit.true,
      c.len.ensures,
      c.reads.out.ok.0,
      c.reads.invariant.start,
      ap (λ (xs : List ℕ). length xs) done.1,
      length-append old done.0,
    ))
