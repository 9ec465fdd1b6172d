use Rattle.stock_steps.proofs.StockCommutes.{won_before}
use Rattle.stock_steps.proofs.laws.stock_moves_win_nothing.Goals as goal

pub returns : goal.returns
returns c = won_before
