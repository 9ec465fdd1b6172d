use Rattle.stock_steps.proofs.StockLaws.{lose_no_win}
use Rattle.stock_steps.proofs.laws.steps_lose_no_win.Goals as goal

pub returns : goal.returns
returns c = lose_no_win
