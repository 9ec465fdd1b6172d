use Rattle.stock_steps.proofs.StepLines.{playable_draw, step_line, steps-made}
use Rattle.stock_steps.proofs.StepsOnce.{steps-apart}
use Rattle.stock_steps.proofs.StockLaws.{belongs-after_step, trail_line, wins_by_step}
use Rattle.stock_steps.proofs.laws.steps_are_lines.Goals as goal

pub returns-clause-line : goal.returns-clause-line
returns-clause-line c = step_line

pub returns-clause-made : goal.returns-clause-made
returns-clause-made c = λ rules board step playable. steps-made rules board step (playable_draw rules playable)

pub returns-clause-once : goal.returns-clause-once
returns-clause-once c = steps-apart

pub returns-clause-wins : goal.returns-clause-wins
returns-clause-wins c = wins_by_step

pub returns-clause-lines : goal.returns-clause-lines
returns-clause-lines c = trail_line

pub returns-clause-belongs : goal.returns-clause-belongs
returns-clause-belongs c = belongs-after_step
