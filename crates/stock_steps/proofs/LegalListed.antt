-- The lists of legal moves: what stands in them, and that nothing stands there twice.
use Rattle.game_rules.specs.declared.RuleParts.{RuleParts}
use Rattle.game_rules.specs.declared.Move.{Move}
use Rattle.game_rules.specs.Board.{Board}
use Rattle.game_rules.specs.Play.{Legal}
use Rattle.game_rules.specs.Order.{legal_moves}
use Rattle.game_rules.proofs.MovesListed.{legal_moves-exact}
use Rattle.game_rules.proofs.MovesInOrder.{legal_moves-once}
use Rattle.stock_steps.proofs.Members.{Mem, Distinct, Contains-from_Mem, Mem-from_Contains, Distinct-from_AreApart}

pub legal_listed : (rules : RuleParts) (board : Board) (move : Move) → Legal rules board move
    → Mem move (legal_moves rules board)
legal_listed rules board move legal = Mem-from_Contains move (legal_moves rules board)
    ((legal_moves-exact rules board move).1 legal)

pub listed_legal : (rules : RuleParts) (board : Board) (move : Move) → Mem move (legal_moves rules board)
    → Legal rules board move
listed_legal rules board move h = (legal_moves-exact rules board move).0
    (Contains-from_Mem move (legal_moves rules board) h)

pub legal_once : (rules : RuleParts) (board : Board) → Distinct (legal_moves rules board)
legal_once rules board = Distinct-from_AreApart (legal_moves rules board) (legal_moves-once rules board)
