-- Boards by levels: what holds of the kept boards while a level is reached from the one before it.
use Rattle.std.specs.Prelude.{◌≡◌, ◌≢◌, ◌⊎◌, ◌+◌, ◌<◌, ◌≤◌, ℕ, Bool, true, false, List, [], ◌∷◌, ◌++◌, length, map}
use Rattle.std.specs.Prelude.{All, AllPairs, Contains, Option, Some, None}
use Rattle.game_rules.specs.declared.RuleParts.{RuleParts}
use Rattle.game_rules.specs.declared.Move.{Move}
use Rattle.game_rules.specs.Board.{Board}
use Rattle.game_rules.specs.Play.{Legal, after}
use Rattle.game_rules.specs.Winning.{Won, Line}
use Rattle.same_boards.specs.Keys.{key_bytes}
use Rattle.shortest_line.specs.declared.searching.Search.{Search}
use Rattle.shortest_line.specs.Tree.{Tree, line_at, with_board}

-- the board after the moves
unfoldable pub end_of : RuleParts → Board → List Move → Board
end_of rules board [] = board
end_of rules board (m ∷ moves) = end_of rules (after rules board m) moves

module _ (rules : RuleParts) (start : Board) where
  -- the board at a place
  abbrev pub board_at : List (List Move) → ℕ → Board
  board_at lines place = end_of rules start (line_at lines place)

  -- the moves are a line from the start
  abbrev pub IsLine : List Move → Type 0
  IsLine moves = Line rules start moves (end_of rules start moves)

  -- boards at the ends of lines, none of them won, with their keys, which are all different
  pub record IsTree (tree : Tree) : Type 0 where
    pub keys : tree.keys ≡ map (λ moves. key_bytes rules (end_of rules start moves)) tree.lines
    pub legal : (k : ℕ) → k < length tree.lines → IsLine (line_at tree.lines k)
    pub not_won : (k : ℕ) → k < length tree.lines → ¬ Won rules (board_at tree.lines k)
    pub apart : AllPairs (λ a b. a ≢ b) tree.keys

  -- as many boards are kept as may be, and the end of a line of so many moves is none of them
  pub record IsFurther (tree : Tree) (limit moves : ℕ) : Type 0 where
    pub way : List Move
    pub line : IsLine way
    pub long : length way ≡ moves
    pub full : length tree.lines ≡ limit
    pub other : ¬ Contains tree.keys (key_bytes rules (end_of rules start way))

  -- a tree with its nodes counted, and a board of so many moves beyond it where there is one
  pub record IsSound (s : Search) (moves : ℕ) : Type 0 where
    pub tree : IsTree s.kept
    pub counted : s.budget.spent ≡ length s.kept.lines
    pub within : s.budget.spent ≤ s.budget.limit
    pub few : s.budget.limit ≤ 4000000
    pub further : s.further ≡ true → IsFurther s.kept s.budget.limit moves

  -- no legal move of the boards at the first places leads to a won board
  abbrev pub AreTried : List (List Move) → ℕ → Type 0
  AreTried lines places = (k : ℕ) → k < places → (m : Move) → Legal rules (board_at lines k) m
      → ¬ Won rules (after rules (board_at lines k) m)

  -- each legal move of the boards at the first places leads to a board with one of the keys
  abbrev pub AreReached : List (List Move) → List (List ℕ) → ℕ → Type 0
  AreReached lines keys places = (k : ℕ) → k < places → (m : Move) → Legal rules (board_at lines k) m
      → Contains keys (key_bytes rules (after rules (board_at lines k) m))

  -- the end of each line of at most so many moves is kept
  abbrev pub AreCovered : Tree → ℕ → Type 0
  AreCovered tree depth = (moves : List Move) (end : Board) → Line rules start moves end → length moves ≤ depth
      → Contains tree.keys (key_bytes rules end)

  -- the line leads to a won board in so many moves
  pub record IsWin (line : List Move) (moves : ℕ) : Type 0 where
    pub leads : IsLine line
    pub won : Won rules (end_of rules start line)
    pub long : length line ≡ moves

  -- what came of the moves of one board: one of them wins, or each was tried
  abbrev pub IsExpanded : Search → Search → ℕ → Option (List Move) → Type 0
  IsExpanded old new place (Some line) = IsWin line (length (line_at old.kept.lines place) + 1)
  IsExpanded old new place None =
      ((m : Move) → Legal rules (board_at old.kept.lines place) m
      → ¬ Won rules (after rules (board_at old.kept.lines place) m))
      × (new.further ≡ false → (m : Move) → Legal rules (board_at old.kept.lines place) m
      → Contains new.kept.keys (key_bytes rules (after rules (board_at old.kept.lines place) m)))

  -- what came of all boards of a level: a move of one of them wins, or each was tried
  abbrev pub IsDone : Search → Search → ℕ → ℕ → Option (List Move) → Type 0
  IsDone old new places depth (Some line) = IsWin line (depth + 1)
  IsDone old new places depth None = AreTried old.kept.lines places
      × (new.further ≡ false → AreReached old.kept.lines new.kept.keys places)

  -- the boards from a place on are those of one level, and all that stand before them are expanded
  pub record IsLevel (s : Search) (from depth : ℕ) : Type 0 where
    pub sound : IsSound s (depth + 1)
    pub none_further : s.further ≡ false
    pub from_within : from ≤ length s.kept.lines
    pub short : (k : ℕ) → k < length s.kept.lines → length (line_at s.kept.lines k) ≤ depth
    pub last : (k : ℕ) → from ≤ k → k < length s.kept.lines → length (line_at s.kept.lines k) ≡ depth
    pub covered : AreCovered s.kept depth
    pub reached : AreReached s.kept.lines s.kept.keys from
    pub deep : depth ≤ from

-- boards at the ends of lines of so many moves were added, and what was met stays so
pub record IsGrown (old new : Search) (moves : ℕ) : Type 0 where
  pub lines : List (List Move)
  pub keys : List (List ℕ)
  pub lines_are : new.kept.lines ≡ old.kept.lines ++ lines
  pub keys_are : new.kept.keys ≡ old.kept.keys ++ keys
  pub long : (k : ℕ) → k < length lines → length (line_at lines k) ≡ moves
  pub limit : new.budget.limit ≡ old.budget.limit
  pub stays : old.further ≡ true → new.further ≡ true

-- The board with this key was met: it is known or not asked for; or it was kept; or there is no room for it.
abbrev pub IsMet : Search → Search → List ℕ → ℕ → Move → Type 0
IsMet old new key place m =
    ((new ≡ old) × ((old.further ≡ true) ⊎ Contains old.kept.keys key))
    ⊎ (((old.further ≡ false) × (¬ Contains old.kept.keys key)
    × (new.kept ≡ with_board old.kept key place m) × (new.further ≡ false)
    × (new.budget.spent ≡ old.budget.spent + 1) × (old.budget.spent ≢ old.budget.limit))
    ⊎ ((old.further ≡ false) × (¬ Contains old.kept.keys key)
    × (new.kept ≡ old.kept) × (new.further ≡ true)
    × (new.budget ≡ old.budget) × (old.budget.spent ≡ old.budget.limit)))
