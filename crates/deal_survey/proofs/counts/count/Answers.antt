use Rattle.std.proofs.Common.{arith}
use Rattle.deal_survey.proofs.Sums.{counts_of_all}
use Rattle.deal_survey.proofs.counts.count.Goals as goal

pub returns-clause-sum : goal.returns-clause-sum
returns-clause-sum c =
    counts_of_all c.loop-judged.counts c.args.answers.now c.loop-judged.judged-index
    (omega (arith, c.loop-judged-test.false)) c.loop-judged.invariant
