use Rattle.stock_steps.proofs.StockList.{stock_steps-are, stock_steps-along}
use Rattle.stock_steps.proofs.StepsOnce.{stock_steps-apart}
use Rattle.stock_steps.proofs.StepLines.{playable_draw}
use Rattle.stock_steps.proofs.laws.stock_steps_are_listed.Goals as goal

pub returns-clause-exact : goal.returns-clause-exact
returns-clause-exact c = λ rules board step playable. stock_steps-are rules board step (playable_draw rules playable)

pub returns-clause-once : goal.returns-clause-once
returns-clause-once c = stock_steps-apart

pub returns-clause-order : goal.returns-clause-order
returns-clause-order c = λ rules board playable to_waste.
    stock_steps-along rules board (playable_draw rules playable) to_waste
