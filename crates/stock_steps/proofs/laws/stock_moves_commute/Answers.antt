use Rattle.stock_steps.proofs.StockLaws.{may_change}
use Rattle.stock_steps.proofs.laws.stock_moves_commute.Goals as goal

pub returns : goal.returns
returns c = may_change
