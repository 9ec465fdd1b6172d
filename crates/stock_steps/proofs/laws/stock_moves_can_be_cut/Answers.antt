use Rattle.stock_steps.proofs.Descent.{cut_run}
use Rattle.stock_steps.proofs.StepLines.{playable_draw}
use Rattle.stock_steps.proofs.laws.stock_moves_can_be_cut.Goals as goal

pub returns : goal.returns
returns c = λ rules board k playable to_waste. cut_run rules board k (playable_draw rules playable) to_waste
