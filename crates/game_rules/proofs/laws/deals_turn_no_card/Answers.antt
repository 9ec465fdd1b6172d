use Rattle.game_rules.proofs.StockMoves.{face_down-after_deal}
use Rattle.game_rules.proofs.laws.deals_turn_no_card.Goals as goal

pub returns : goal.returns
returns c = face_down-after_deal
