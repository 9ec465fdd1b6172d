-- What a verdict says of a start. Boards count up to the order of like places, as `plain_game` says, and in a
-- restricted search as `narrow_game` says.
use Rattle.std.specs.Prelude.{◌≡◌, ◌≢◌, ◌⊎◌, ℕ, ◌≤◌, ◌<◌, List, [], ◌∷◌, ◌++◌, length, min, ⊤}
use Rattle.trails.specs.Game.{Game}
use Rattle.trails.specs.Trails.{IsClean}
use Rattle.trails.specs.Walks.{Follows, IsWalk, IsClosed}
use Rattle.trails.specs.Fresh.{IsFresh, IsCover}
use Rattle.game_rules.specs.declared.RuleParts.{RuleParts}
use Rattle.game_rules.specs.declared.Move.{Move}
use Rattle.game_rules.specs.Board.{Board}
use Rattle.game_rules.specs.Winning.{Won, Line, Winnable}
use Rattle.stock_steps.specs.declared.Step.{Step}
use Rattle.stock_steps.specs.Steps.{after_steps, expand_trail}
use Rattle.search_space.specs.Game.{plain_game}
use Rattle.search_space.specs.Narrow.{narrow_game}
use Rattle.line_printer.specs.declared.verdict.Verdict.{Verdict}
use Rattle.line_printer.specs.declared.verdict.Verdict.TheVariants as verdict
use Rattle.solve_job.specs.declared.limits.Limits.{Limits}

-- The boards that were expanded are the ends of a walk of so many trails, no more than the limit. The walk
-- comes to a board again, or to one that counts as the same, only if at least `cache` others were touched since.
pub record IsSearched (game : Game Board Step) (start : Board) (cache limit nodes : ℕ)
    (walk : List (List Step)) : Type 0 where
  pub is_walk : IsWalk game start walk
  pub fresh : IsFresh game cache start walk
  pub count : length walk ≡ nodes
  pub within : nodes ≤ limit

-- A trail of the game follows the walk. The line is its single moves, each of them legal, and its last board is won.
pub record FindsWin (game : Game Board Step) (rules : RuleParts) (start : Board) (cache limit : ℕ) (line : List Move)
    (nodes : ℕ) : Type 0 where
  pub trail : List Step
  pub expands : line ≡ expand_trail rules start trail
  pub legal : Line rules start line (after_steps rules start trail)
  pub won : Won rules (after_steps rules start trail)
  pub walk : List (List Step)
  pub searched : IsSearched game start cache limit nodes walk
  pub follows : Follows game start walk trail

-- All nodes were spent, and a further clean trail follows the walk: one more board was met that is not won.
pub record IsSpent (game : Game Board Step) (start : Board) (cache limit nodes : ℕ)
    (walk : List (List Step)) : Type 0 where
  pub spent : nodes ≡ limit
  pub further : List Step
  pub clean : IsClean game start further
  pub follows : Follows game start walk further
  pub fresh : IsFresh game cache start (walk ++ further ∷ [])

-- No win was found: the walk is closed, or all nodes were spent.
pub record FindsNoWin (game : Game Board Step) (start : Board) (cache limit nodes : ℕ) : Type 0 where
  pub walk : List (List Step)
  pub searched : IsSearched game start cache limit nodes walk
  pub ends : IsClosed game start walk ⊎ IsSpent game start cache limit nodes walk

-- No line of legal moves, of any length, leads to a won board. The walk is closed.
pub record IsUnwinnable (rules : RuleParts) (start : Board) (cache limit nodes : ℕ) : Type 0 where
  pub never : ¬ Winnable rules start
  pub walk : List (List Step)
  pub searched : IsSearched (plain_game rules) start cache limit nodes walk
  pub closed : IsClosed (plain_game rules) start walk
  pub some_node : 1 ≤ nodes

-- All nodes were spent. So every list of boards that covers the game is longer than the nodes or than the cache.
pub record IsUndecided (rules : RuleParts) (start : Board) (cache limit nodes : ℕ) : Type 0 where
  pub walk : List (List Step)
  pub searched : IsSearched (plain_game rules) start cache limit nodes walk
  pub ends : IsSpent (plain_game rules) start cache limit nodes walk
  pub covers : (boards : List Board) → IsCover (plain_game rules) start boards → min nodes cache < length boards

-- what came of the restricted search: none came first, or it found no win
abbrev pub IsPassed : RuleParts → Board → Limits → ℕ → Type 0
IsPassed rules start limits narrow_nodes =
    ((limits.narrow ≡ 0) × (narrow_nodes ≡ 0))
    ⊎ ((limits.narrow ≢ 0) × FindsNoWin (narrow_game rules limits.way) start limits.cache limits.narrow narrow_nodes)

-- The restricted search found the line, and the plain one was not begun.
pub record IsNarrowWin (rules : RuleParts) (start : Board) (limits : Limits) (line : List Move)
    (nodes narrow_nodes : ℕ) : Type 0 where
  pub restricted : limits.narrow ≢ 0
  pub no_node : nodes ≡ 0
  pub finds : FindsWin (narrow_game rules limits.way) rules start limits.cache limits.narrow line narrow_nodes

-- The plain search found the line, with a node at least where a restricted search came first.
pub record IsPlainWin (rules : RuleParts) (start : Board) (limits : Limits) (line : List Move)
    (nodes narrow_nodes : ℕ) : Type 0 where
  pub passed : IsPassed rules start limits narrow_nodes
  pub some_node : limits.narrow ≢ 0 → 1 ≤ nodes
  pub finds : FindsWin (plain_game rules) rules start limits.cache limits.nodes line nodes

-- what a verdict says of a start, where the searches may spend and remember so much
abbrev pub IsVerdict : RuleParts → Board → Limits → Verdict → Type 0
IsVerdict rules start limits (verdict.Winnable line nodes narrow_nodes) =
    IsPlainWin rules start limits line nodes narrow_nodes ⊎ IsNarrowWin rules start limits line nodes narrow_nodes
IsVerdict rules start limits (verdict.Unwinnable nodes narrow_nodes) =
    IsUnwinnable rules start limits.cache limits.nodes nodes × IsPassed rules start limits narrow_nodes
IsVerdict rules start limits (verdict.Undecided nodes narrow_nodes) =
    IsUndecided rules start limits.cache limits.nodes nodes × IsPassed rules start limits narrow_nodes

-- the verdict is winnable or unwinnable
abbrev pub IsDecided : Verdict → Type 0
IsDecided (verdict.Winnable line nodes narrow_nodes) = ⊤
IsDecided (verdict.Unwinnable nodes narrow_nodes) = ⊤
IsDecided (verdict.Undecided nodes narrow_nodes) = ⊥

-- some list of at most so many boards covers the game
pub record IsSmall (rules : RuleParts) (start : Board) (limit : ℕ) : Type 0 where
  pub boards : List Board
  pub covers : IsCover (plain_game rules) start boards
  pub few : length boards ≤ limit
