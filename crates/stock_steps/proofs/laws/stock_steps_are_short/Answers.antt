use Rattle.stock_steps.proofs.StepLines.{stock_step-deals}
use Rattle.stock_steps.proofs.Pigeons.{unlimited_deals}
use Rattle.stock_steps.proofs.laws.stock_steps_are_short.Goals as goal

pub returns-clause-all : goal.returns-clause-all
returns-clause-all c = stock_step-deals

pub returns-clause-unlimited : goal.returns-clause-unlimited
returns-clause-unlimited c = unlimited_deals
