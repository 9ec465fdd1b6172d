-- A line of moves that wins goes no other way.
use Rattle.std.proofs.Common.{◌≡◌, ℕ, List, [], ◌∷◌, ◌++◌, sym, ◌∙◌, subst}
use Rattle.game_rules.specs.declared.RuleParts.{RuleParts}
use Rattle.game_rules.specs.declared.Move.{Move}
use Rattle.game_rules.specs.Board.{Board}
use Rattle.game_rules.specs.Play.{Legal, after}
use Rattle.game_rules.specs.Winning.{Line, Won}
use Rattle.win_replay.specs.declared.Replayed.TheVariants.{Wins, EndsShort, Illegal}
use Rattle.win_replay.specs.Replays.{IsReplayed}

-- a line has one end
line-end : (rules : RuleParts) (start : Board) (moves : List Move) (a b : Board) → Line rules start moves a
    → Line rules start moves b → a ≡ b
line-end rules start [] a b first second = first ∙ sym second
line-end rules start (m ∷ moves) a b first second = line-end rules (after rules start m) moves a b first.1 second.1

-- each move of a line is legal where it is made
line-legal : (rules : RuleParts) (start : Board) (before : List Move) (m : Move) (later : List Move) (board end : Board)
    → Line rules start before board → Line rules start (before ++ m ∷ later) end → Legal rules board m
line-legal rules start [] m later board end leads line = subst (λ b. Legal rules b m) (sym leads) line.0
line-legal rules start (x ∷ before) m later board end leads line =
    line-legal rules (after rules start x) before m later board end leads.1 line.1

-- a line that wins does not end short
pub wins-not_short : (rules : RuleParts) (start : Board) (moves : List Move) → IsReplayed rules start moves Wins
    → ¬ IsReplayed rules start moves EndsShort
wins-not_short rules start moves (end, line, won) (other, line', not_won) =
    not_won (subst (Won rules) (line-end rules start moves end other line line') won)

-- a line that wins has no illegal move
pub wins-not_illegal : (rules : RuleParts) (start : Board) (moves : List Move) (at : ℕ)
    → IsReplayed rules start moves Wins
    → ¬ IsReplayed rules start moves (Illegal at)
wins-not_illegal rules start moves at (end, line, won) x =
    let whole : Line rules start (x.before ++ x.move ∷ x.after) end =
    subst (λ m. Line rules start m end) x.split line in
    x.refused (line-legal rules start x.before x.move x.after x.board end x.leads whole)
