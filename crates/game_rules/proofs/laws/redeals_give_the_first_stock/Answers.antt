use Rattle.game_rules.proofs.StockMoves.{stock-after_pass}
use Rattle.game_rules.proofs.laws.redeals_give_the_first_stock.Goals as goal

pub returns : goal.returns
returns c = stock-after_pass
