-- The state of a search, and what it is made of.
use Rattle.std.specs.Prelude.{◌≡◌, ℕ, ◌+◌, ◌<◌, Bool, true, List, length, map, slice_index_or}
use Rattle.trails.specs.Game.{Game}
use Rattle.trails.specs.Trails.{end, states, IsClean}
use Rattle.trails.specs.Walks.{IsSettled, Follows, IsWalk}
use Rattle.trails.specs.Fresh.{IsFresh}
use Rattle.dfs_core.specs.Play.{Play, game_of}

-- what a search is about: what is played, which keys are equal, and the start
pub record Problem (State Step Key : Type 0) : Type 0 where
  pub play : Play State Step Key
  pub eq : Key → Key → Bool
  pub start : State

-- a level as clauses see it: the steps of an expanded state, and how many of them were tried
pub record LevelView (T : Type 0) : Type 0 where
  pub items : List T
  pub tried : ℕ

-- a frame as clauses see it: a level below the current one, the step that leads on from it, and what takes it back
pub record FrameView (T U : Type 0) : Type 0 where
  pub level : LevelView T
  pub step : T
  pub undo : U

-- the line from the start to where the search stands: the frames, and the current level
pub record Line (T U : Type 0) : Type 0 where
  pub frames : List (FrameView T U)
  pub top : LevelView T

-- the memo's two lists, and its capacity
pub record Memory (Key : Type 0) : Type 0 where
  pub live : List Key
  pub finished : List Key
  pub capacity : ℕ

-- the state of a search: where it started, the walk so far, where the space stands, the line, and the memo
pub record Search (S Step Key Undo : Type 0) : Type 0 where
  pub first : S
  pub walk : List (List Step)
  pub space : S
  pub line : Line Step Undo
  pub memory : Memory Key

-- how far a search is: the walk, the path to where it stands, and how many of the steps there were tried
pub record Progress (T : Type 0) : Type 0 where
  pub walk : List (List T)
  pub path : List T
  pub tried : ℕ

-- the steps that the frames took
abbrev pub path_of : {T U : Type 0} → List (FrameView T U) → List T
path_of frames = map (λ f. f.step) frames

-- how far a search is: its walk, its path, and how many steps of the current level were tried
abbrev pub progress_of : {S Step Key Undo : Type 0} → Search S Step Key Undo → Progress Step
progress_of search = record { walk = search.walk; path = path_of search.line.frames; tried = search.line.top.tried }

-- the next step of a level
pub record IsNext {T : Type 0} (level : LevelView T) (step : T) : Type 0 where
  pub room : level.tried < length level.items
  pub here : slice_index_or level.items level.tried step ≡ step

-- a step of a level that was tried
pub record IsTried {T : Type 0} (level : LevelView T) (step : T) : Type 0 where
  pub place : ℕ
  pub early : place < level.tried
  pub here : slice_index_or level.items place step ≡ step

-- the level after one more step was tried
abbrev pub tried_more : {T : Type 0} → LevelView T → LevelView T
tried_more level = record level { tried = level.tried + 1 }

module _ {State Step Key : Type 0} (problem : Problem State Step Key) where
  -- the game that the problem plays, in which states with equal keys are the same
  abbrev pub game : Game State Step
  game = game_of problem.play problem.eq

  -- the end of a trail
  abbrev pub end_at : List Step → State
  end_at l = end game problem.start l

  -- the key of that end
  abbrev pub key_at : List Step → Key
  key_at l = problem.play.key (end_at l)

  -- the steps of that end
  abbrev pub steps_at : List Step → List Step
  steps_at l = problem.play.steps (end_at l)

  -- the state after a step of that end
  abbrev pub after : List Step → Step → State
  after l u = problem.play.after (end_at l) u

  -- the ends of the two trails count as the same
  abbrev pub SameEnd : List Step → List Step → Type 0
  SameEnd l m = problem.eq (key_at l) (key_at m) ≡ true

  -- the states of a path
  abbrev pub states_at : List Step → List State
  states_at l = states game problem.start l

  -- the keys of these states
  abbrev pub keys_at : List Step → List Key
  keys_at l = map problem.play.key (states_at l)

  -- the words for walks, of this problem: the state is not won, and the same as an end of the walk
  abbrev pub IsSettledIn : List (List Step) → State → Type 0
  IsSettledIn walk s = IsSettled game problem.start walk s

  -- the trail repeats no state and meets no won state
  abbrev pub IsCleanIn : List Step → Type 0
  IsCleanIn z = IsClean game problem.start z

  -- the trail may be expanded next
  abbrev pub FollowsIn : List (List Step) → List Step → Type 0
  FollowsIn walk z = Follows game problem.start walk z

  -- the trails are a walk
  abbrev pub IsWalkIn : List (List Step) → Type 0
  IsWalkIn walk = IsWalk game problem.start walk

  -- the walk is fresh up to the capacity
  abbrev pub IsFreshIn : ℕ → List (List Step) → Type 0
  IsFreshIn capacity walk = IsFresh game capacity problem.start walk
