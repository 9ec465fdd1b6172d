-- How a line of moves goes from a board.
use Rattle.std.specs.Prelude.{ℕ, ◌≡◌, ◌∷◌, ◌++◌, List, length}
use Rattle.game_rules.specs.declared.RuleParts.{RuleParts}
use Rattle.game_rules.specs.declared.Move.{Move}
use Rattle.game_rules.specs.Board.{Board}
use Rattle.game_rules.specs.Play.{Legal}
use Rattle.game_rules.specs.Winning.{Line, Won}
use Rattle.win_replay.specs.declared.Replayed.{Replayed}
use Rattle.win_replay.specs.declared.Replayed.TheVariants.{Wins, EndsShort, Illegal}

-- the moves before the place are legal where they are made, and the one at the place is not
pub record IsIllegalAt (rules : RuleParts) (start : Board) (moves : List Move) (at : ℕ) : Type 0 where
  pub before : List Move
  pub move : Move
  pub after : List Move
  pub split : moves ≡ before ++ move ∷ after
  pub place : length before ≡ at
  pub board : Board
  pub leads : Line rules start before board
  pub refused : ¬ Legal rules board move

-- how the moves go from the start: to a won board, to one that is not won, or not past an illegal move
abbrev pub IsReplayed : RuleParts → Board → List Move → Replayed → Type 0
IsReplayed rules start moves Wins = (end : Board) × Line rules start moves end × Won rules end
IsReplayed rules start moves EndsShort = (end : Board) × Line rules start moves end × (¬ Won rules end)
IsReplayed rules start moves (Illegal at) = IsIllegalAt rules start moves at
