use Rattle.std.proofs.Common.{◌∙◌, ◌++◌, ap, Vec, ℕ}
use Rattle.std.specs.declared.alloc.Global.{Global}
use Rattle.deal_survey.specs.SurveyText.{seed_lines}
use Rattle.deal_survey.proofs.Heads.{survey_is}
use Rattle.deal_survey.proofs.write.write_survey.Goals as goal

pub returns : goal.returns
returns c =
    ap (λ (v : Vec ℕ Global). v.items) c.into_bytes.ensures.value
    ∙ (c.in_ok-push_seeds.ensures
    ∙ (ap (λ text. text ++ seed_lines c.args.from c.args.answers.now) c.in_ok-text.ensures.ok
    ∙ survey_is c.args.from c.args.counts.now c.args.answers.now))
