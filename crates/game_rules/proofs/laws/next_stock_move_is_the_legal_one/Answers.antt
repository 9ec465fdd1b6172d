use Rattle.game_rules.proofs.StockMoves.{stock_move-exact}
use Rattle.game_rules.proofs.laws.next_stock_move_is_the_legal_one.Goals as goal

pub returns : goal.returns
returns c = stock_move-exact
