use Rattle.safe_moves.proofs.SafeExchange.{exchange}
use Rattle.safe_moves.proofs.laws.safe_move_may_come_first.Goals as goal

pub returns : goal.returns
returns c = exchange
