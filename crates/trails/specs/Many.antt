-- How many trails a walk shows that there are.
use Rattle.std.specs.Prelude.{◌≢◌, ℕ, ◌<◌, ◌≤◌, List, length, All, AllPairs}
use Rattle.trails.specs.Game.{Game}
use Rattle.trails.specs.Trails.{IsClean}

module _ {State Step : Type 0} (game : Game State Step) where
  -- more than n clean trails of at most n steps, no two of them equal
  pub record HasMoreTrails (start : State) (n : ℕ) : Type 0 where
    pub trails : List (List Step)
    pub more : n < length trails
    pub differ : AllPairs (λ a b. a ≢ b) trails
    pub clean : All (IsClean game start) trails
    pub short : All (λ trail. length trail ≤ n) trails
