-- What a search answers when it ends.
use Rattle.std.proofs.Common.{◌≡◌, ℕ, ◌+◌, Bool, true, subst, List, length}
use Rattle.std.specs.Bool.{OnTrue}
use Rattle.dfs_core.specs.Search.{game, IsFreshIn}
use Rattle.dfs_core.specs.Standing.{problem_from, IsSearch, IsWin, IsOver, HasMet}
use Rattle.dfs_core.specs.Laid.{Values, Shows}
use Rattle.dfs_core.specs.Answer.{EndsWith, IsAnswer}
use Rattle.dfs_core.specs.declared.space.Space.{Ghosts}
use Rattle.dfs_core.specs.declared.advance.Met.{Met}
use Rattle.dfs_core.specs.declared.trail.Found.{Found}
use Rattle.dfs_core.specs.declared.trail.Found.TheVariants as found

-- what was told of the case that is
pub told : {A : Type 0} {b : Bool} → b ≡ true → OnTrue b A → A
told {A} e h = subst (λ b. OnTrue b A) e h

-- neither a win nor an end says that all nodes were spent
pub won_not_spent : {Step A : Type 0} {z : List Step} → (let f : Found Step = found.Won z in f) ≡ found.SpentAll → A
won_not_spent e = cc

pub end_not_spent : {Step A : Type 0} → (let f : Found Step = found.Exhausted in f) ≡ found.SpentAll → A
end_not_spent e = cc

module _ {S State Step Key Undo : Type 0} (space : Ghosts S Key Step Undo State) (eq : Key → Key → Bool)
    {first : S} {walk : List (List Step)} {now : Values S Step Key Undo} where
  -- what was met, by its name
  pub as_met : {m m' : Met Step Undo Key} → m ≡ m' → Shows (HasMet space eq m) first walk now
      → Shows (HasMet space eq m') first walk now
  as_met e h = subst (λ m. Shows (HasMet space eq m) first walk now) e h

module _ {S State Step Key Undo : Type 0} {space : Ghosts S Key Step Undo State} {eq : Key → Key → Bool}
    {first : S} {walk : List (List Step)} {now : Values S Step Key Undo} where
  -- the search that met it
  pub before_win : {step : Step} → Shows (IsWin space eq step) first walk now → Shows (IsSearch space eq) first walk now
  before_win h = record { line = h.line; laid = h.laid; is = h.is.before }

  pub before_end : Shows (IsOver space eq) first walk now → Shows (IsSearch space eq) first walk now
  before_end h = record { line = h.line; laid = h.laid; is = h.is.before }

  -- the walk ends with this answer
  pub answered : Shows (IsSearch space eq) first walk now → {capacity before spent limit : ℕ} {answer : Found Step}
      → now.memory.capacity ≡ capacity → before + length walk ≡ spent → (answer ≡ found.SpentAll → spent ≡ limit)
      → EndsWith (game (problem_from space eq first)) (space.state first) capacity walk answer
      → IsAnswer (game (problem_from space eq first)) (space.state first) capacity before spent limit answer
  answered h capacity_is count spent_all ends =
      let fresh = subst (λ k. IsFreshIn (problem_from space eq first) k walk) capacity_is h.is.kept.fresh in
      let is_walk = h.is.underway.is_walk in
      record { walk = walk; is_walk = is_walk; fresh = fresh; count = count; spent_all = spent_all; ends = ends }
