use Rattle.stock_steps.proofs.StepLines.{step_line}
use Rattle.search_space.proofs.NarrowSteps.{narrow_steps-made}
use Rattle.search_space.proofs.laws.narrow_steps_are_lines.Goals as goal

pub returns : goal.returns
returns c = record {
  made = narrow_steps-made;
  line = λ rules way board step playable here.
      step_line rules board step (narrow_steps-made rules way board step playable here);
}
