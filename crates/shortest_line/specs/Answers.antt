-- What the answer to the question for a shortest line says.
use Rattle.std.specs.Prelude.{◌≡◌, ◌≢◌, ◌+◌, ◌-◌, ℕ, ◌≤◌, List, length, All, AllPairs, Contains, ⊤}
use Rattle.game_rules.specs.declared.RuleParts.{RuleParts}
use Rattle.game_rules.specs.declared.Move.{Move}
use Rattle.game_rules.specs.Board.{Board}
use Rattle.game_rules.specs.Winning.{Won, Line, Winnable}
use Rattle.same_boards.specs.Same.{Same}
use Rattle.same_boards.specs.Keys.{key_bytes}
use Rattle.shortest_line.specs.LineEnds.{IsEndWithin, IsEndKey, AreApart, CoverBelow, NoWinBelow}
use Rattle.shortest_line.specs.declared.answer.Shortest.{Shortest}
use Rattle.shortest_line.specs.declared.answer.Shortest.TheVariants.{Least, NoLine, Open}

-- The line leads to a won board, and no list of fewer moves does. The nodes are boards that are not won, no two of them
-- the same, at ends of lines of no more moves; each end of a line of fewer moves is the same as one of them.
pub record IsLeast (rules : RuleParts) (start : Board) (limit : ℕ) (line : List Move) (nodes : ℕ) : Type 0 where
  pub end : Board
  pub leads : Line rules start line end
  pub won : Won rules end
  pub least : NoWinBelow rules start (length line)
  pub within : nodes ≤ limit
  pub boards : List Board
  pub count : length boards ≡ nodes
  pub not_won : All (λ board. ¬ Won rules board) boards
  pub apart : AreApart rules boards
  pub reached : All (IsEndWithin rules start (length line)) boards
  pub covers : CoverBelow rules start (length line) boards

-- No line of legal moves, of any length, leads to a won board. The nodes are the different keys of the ends of all lines.
pub record HasNoLine (rules : RuleParts) (start : Board) (limit nodes : ℕ) : Type 0 where
  pub never : ¬ Winnable rules start
  pub within : nodes ≤ limit
  pub keys : List (List ℕ)
  pub count : length keys ≡ nodes
  pub differ : AllPairs (λ a b. a ≢ b) keys
  pub each : All (IsEndKey rules start) keys
  pub all : (moves : List Move) (end : Board) → Line rules start moves end → Contains keys (key_bytes rules end)

-- All nodes were spent: so many boards, no two of them the same, at ends of lines of at most bound - 1 moves, and a
-- further board at the end of a line of bound - 1 moves. No list of fewer moves than the bound leads to a won board.
pub record IsOpen (rules : RuleParts) (start : Board) (limit bound nodes : ℕ) : Type 0 where
  pub spent : nodes ≡ limit
  pub boards : List Board
  pub count : length boards ≡ nodes
  pub apart : AreApart rules boards
  pub reached : All (IsEndWithin rules start (bound - 1)) boards
  pub covers : CoverBelow rules start (bound - 1) boards
  pub further : Board
  pub way : List Move
  pub leads : Line rules start way further
  pub long : length way + 1 ≡ bound
  pub other : All (λ board. ¬ Same rules further board) boards
  pub none : NoWinBelow rules start bound

-- what an answer says of a start, where so many boards may be kept
abbrev pub IsAnswer : RuleParts → Board → ℕ → Shortest → Type 0
IsAnswer rules start limit (Least line nodes) = IsLeast rules start limit line nodes
IsAnswer rules start limit (NoLine nodes) = HasNoLine rules start limit nodes
IsAnswer rules start limit (Open bound nodes) = IsOpen rules start limit bound nodes

-- the answer is a line, or that there is none
abbrev pub IsDecided : Shortest → Type 0
IsDecided (Least line nodes) = ⊤
IsDecided (NoLine nodes) = ⊤
IsDecided (Open bound nodes) = ⊥
