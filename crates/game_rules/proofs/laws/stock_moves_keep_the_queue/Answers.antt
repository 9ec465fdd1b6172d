use Rattle.game_rules.proofs.StockMoves.{queue-after_stock_moves}
use Rattle.game_rules.proofs.laws.stock_moves_keep_the_queue.Goals as goal

pub returns : goal.returns
returns c = λ rules board k to_waste. queue-after_stock_moves rules k board to_waste
