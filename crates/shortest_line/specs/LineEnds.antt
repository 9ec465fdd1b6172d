-- The boards at the ends of lines, counted up to the order of like places.
use Rattle.std.specs.Prelude.{◌≡◌, ℕ, ◌<◌, ◌≤◌, List, length, AllPairs, Any}
use Rattle.game_rules.specs.declared.RuleParts.{RuleParts}
use Rattle.game_rules.specs.declared.Move.{Move}
use Rattle.game_rules.specs.Board.{Board}
use Rattle.game_rules.specs.Winning.{Won, Line}
use Rattle.same_boards.specs.Same.{Same}
use Rattle.same_boards.specs.Keys.{key_bytes}

-- the board is the end of a line of at most so many moves
pub record IsEndWithin (rules : RuleParts) (start : Board) (most : ℕ) (board : Board) : Type 0 where
  pub moves : List Move
  pub line : Line rules start moves board
  pub few : length moves ≤ most

-- the key is that of the end of some line
pub record IsEndKey (rules : RuleParts) (start : Board) (key : List ℕ) : Type 0 where
  pub moves : List Move
  pub end : Board
  pub line : Line rules start moves end
  pub is : key ≡ key_bytes rules end

-- no two of the boards are the same
abbrev pub AreApart : RuleParts → List Board → Type 0
AreApart rules boards = AllPairs (λ a b. ¬ Same rules a b) boards

-- each end of a line of fewer moves than the bound is the same as one of the boards
abbrev pub CoverBelow : RuleParts → Board → ℕ → List Board → Type 0
CoverBelow rules start bound boards =
    (moves : List Move) (end : Board) → Line rules start moves end → length moves < bound → Any (Same rules end) boards

-- no list of fewer moves than the bound is a line to a won board
abbrev pub NoWinBelow : RuleParts → Board → ℕ → Type 0
NoWinBelow rules start bound =
    (moves : List Move) (end : Board) → Line rules start moves end → Won rules end → bound ≤ length moves

-- the end of each line, whatever its length, is the same as one of at most so many boards
pub record HasFewEnds (rules : RuleParts) (start : Board) (limit : ℕ) : Type 0 where
  pub boards : List Board
  pub covers : (moves : List Move) (end : Board) → Line rules start moves end → Any (Same rules end) boards
  pub few : length boards ≤ limit
