use Rattle.std.proofs.Common.{◌∙◌, ◌+◌, ap, sym, arith}
use Rattle.solver_words.specs.Options.{setting_at, with_value}
use Rattle.solver_words.proofs.OptionSteps.{options_step}
use Rattle.solver_words.proofs.options.read_options.Goals as goal

pub loop-option-preserved : goal.loop-option-preserved
loop-option-preserved c =
    let at = c.loop-option.at in
    let given = c.loop-option.given in
    let first = c.in-Some.ensures.cases in
    let second = c.in-Some-split_first.ensures.cases in (
      options_step c.args.taker at given c.in_ok-given.given c.in_ok-setting.setting _ _ _ _ _ first.0 second.0
          (sym (c.in_ok-setting.ensures ∙ ap (λ word. setting_at c.args.taker at word given) c.as_str.ensures.value))
          (sym (c.in_ok-given.ensures
          ∙ ap (with_value (at + 1) c.in_ok-setting.setting given) c.as_str-in-Some.ensures.value))
          ∙ c.loop-option.invariant.0,
      omega arith,
    )
