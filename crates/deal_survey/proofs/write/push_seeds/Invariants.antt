use Rattle.std.proofs.Common.{◌≡◌, ◌++◌, string_bytes, take}
use Rattle.deal_survey.specs.SurveyText.{seed_lines}
use Rattle.deal_survey.proofs.write.push_seeds.Given as goal

abbrev pub invariant-loop-place : goal.invariant-loop-place
invariant-loop-place l = string_bytes l.text ≡ string_bytes l.initial.text ++ seed_lines l.from (take l.place l.answers)
