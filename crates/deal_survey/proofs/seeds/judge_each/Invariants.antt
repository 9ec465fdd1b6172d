use Rattle.std.proofs.Common.{◌≡◌, ◌++◌, ◌↔◌, ℕ, List, length}
use Rattle.deal_survey.specs.declared.judge.Judged.{Judged}
use Rattle.deal_survey.specs.Answers.{AreAllowed}
use Rattle.deal_survey.proofs.seeds.judge_each.Given as goal

-- so far each seed has its answer
abbrev pub invariant-loop-place : goal.invariant-loop-place
invariant-loop-place g l = record {
  answers : List Judged;
  grew : l.out.items ≡ l.fn.out.items ++ answers;
  one_each : length answers ≡ l.place;
  allowed : AreAllowed (g.J.Judge.allows l.fn.judge) l.from answers;
  same : (seed : ℕ) (judged : Judged) → g.J.Judge.allows l.judge seed judged ↔ g.J.Judge.allows l.fn.judge seed judged;
}
