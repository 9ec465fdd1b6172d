use Rattle.std.proofs.Common.{◌≡◌, take}
use Rattle.deal_survey.specs.Counting.{counts_of}
use Rattle.deal_survey.proofs.counts.count.Given as goal

abbrev pub invariant-loop-judged : goal.invariant-loop-judged
invariant-loop-judged l = l.counts ≡ counts_of (take l.judged-index l.answers)
