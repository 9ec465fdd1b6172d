use Rattle.stock_steps.proofs.RepeatTest.{never_again, comes_again}
use Rattle.stock_steps.proofs.StepLines.{playable_draw}
use Rattle.stock_steps.proofs.laws.stock_runs_end_by_length.Goals as goal

pub returns-clause-counted : goal.returns-clause-counted
returns-clause-counted c = λ rules board next k boards playable to_waste counted.
    never_again rules board next k boards counted (playable_draw rules playable) to_waste

pub returns-clause-unlimited : goal.returns-clause-unlimited
returns-clause-unlimited c = λ rules board next k boards playable to_waste unlimited.
    comes_again rules board next k boards unlimited (playable_draw rules playable) to_waste
