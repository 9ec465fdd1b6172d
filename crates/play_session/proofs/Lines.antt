-- Lines of moves, and the boards that they give.
use Rattle.std.proofs.Common.{◌≡◌, ◌++◌, ◌∙◌, List, [], ◌∷◌, refl, ap, sym, subst}
use Rattle.game_rules.specs.declared.RuleParts.{RuleParts}
use Rattle.game_rules.specs.declared.Move.{Move}
use Rattle.game_rules.specs.Board.{Board}
use Rattle.game_rules.specs.Playable.{IsPlayable}
use Rattle.game_rules.specs.Play.{Legal, after}
use Rattle.game_rules.specs.Belonging.{Belongs}
use Rattle.game_rules.specs.Winning.{Line}
use Rattle.game_rules.proofs.KeepsBelonging.{belongs-after}
use Rattle.play_session.specs.Moves.{board_after}

-- a line goes on by a legal move
pub Line-append : (rules : RuleParts) (start : Board) (moves : List Move) (board : Board) (move : Move) (next : Board)
    → Line rules start moves board → Legal rules board move → next ≡ after rules board move
    → Line rules start (moves ++ move ∷ []) next
Line-append rules start [] board move next line legal is =
    (subst (λ b. Legal rules b move) line legal, is ∙ ap (λ b. after rules b move) line)
Line-append rules start (first ∷ moves) board move next line legal is =
    (line.0, Line-append rules (after rules start first) moves board move next line.1 legal is)

-- a line ends on the board that its moves give
pub Line-board : (rules : RuleParts) (start : Board) (moves : List Move) (end : Board) → Line rules start moves end
    → end ≡ board_after rules start moves
Line-board rules start [] end line = line
Line-board rules start (move ∷ moves) end line = Line-board rules (after rules start move) moves end line.1

-- a line ends on a board that belongs to the rules
pub Line-belongs : (rules : RuleParts) (start : Board) (moves : List Move) (end : Board) → IsPlayable rules
    → Belongs rules start → Line rules start moves end → Belongs rules end
Line-belongs rules start [] end playable belongs line = subst (λ b. Belongs rules b) (sym line) belongs
Line-belongs rules start (move ∷ moves) end playable belongs line =
    Line-belongs rules (after rules start move) moves end playable
    (belongs-after rules start move playable belongs line.0) line.1
