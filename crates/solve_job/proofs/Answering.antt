-- The verdict, from what the search answered: a walk by equal keys is a walk up to the same boards.
use Rattle.std.proofs.Common.{◌≡◌, ℕ, ◌+◌, ◌<◌, ◌≤◌, refl, sym, subst, ⊎_elim, inl, inr, List, [], ◌∷◌, ◌++◌, length}
use Rattle.std.proofs.Common.{length-append, min, arith, Contains}
use Rattle.std.proofs.lemmas.List.Elements.{All-head, Contains-push_cases}
use Rattle.trails.specs.Game.{Game}
use Rattle.trails.specs.Trails.{states, IsTrail, IsClean}
use Rattle.trails.specs.Walks.{Follows, IsWalk, IsClosed}
use Rattle.trails.specs.Fresh.{IsFresh, IsCover}
use Rattle.trails.specs.Complete.{IsComplete}
use Rattle.trails.proofs.Laws.{clean_in}
use Rattle.trails.proofs.FirstEnds.{each_follows, longer_cover}
use Rattle.dfs_core.specs.Answer.{IsAnswer}
use Rattle.dfs_core.specs.declared.trail.Found.{Found}
use Rattle.dfs_core.specs.declared.trail.Found.TheVariants as found
use Rattle.dfs_core.proofs.Agree.{Agree, walk_there, next_there, closed_there, clean_there, fresh_there}
use Rattle.game_rules.specs.declared.RuleParts.{RuleParts}
use Rattle.game_rules.specs.declared.Move.{Move}
use Rattle.game_rules.specs.Board.{Board}
use Rattle.game_rules.specs.Playable.{IsPlayable}
use Rattle.stock_steps.specs.declared.Step.{Step}
use Rattle.stock_steps.specs.Steps.{after_steps, expand_trail, steps}
use Rattle.stock_steps.specs.Making.{CanBeMade}
use Rattle.stock_steps.proofs.StockLaws.{trail_line}
use Rattle.game_rules.specs.Winning.{Won, Wins}
use Rattle.same_boards.specs.Same.{Same}
use Rattle.search_space.specs.Game.{plain_game}
use Rattle.search_space.proofs.Alike.{plain_game-is_alike}
use Rattle.search_space.proofs.Agreeing.{keyed_game}
use Rattle.solve_job.specs.Verdicts.{IsSearched, FindsWin, IsSpent, FindsNoWin, IsUnwinnable, IsUndecided, IsSmall}
use Rattle.solve_job.proofs.Lines.{any_game, trail_end, trail_made, plain_made, not_winnable}

-- A game as a search plays it, and as a verdict shows it. Both have these steps; they agree on what is the same.
module _ (rules : RuleParts) (list : Board → List Step) (Keyed Same' : Board → Board → Type 0) (start : Board)
    (cache limit spent : ℕ)
    (agree : Agree (any_game rules list (Won rules) Keyed) (Won rules) Same' start) (within : spent ≤ limit) where
  abbrev played : Game Board Step
  played = any_game rules list (Won rules) Keyed

  abbrev shown : Game Board Step
  shown = any_game rules list (Won rules) Same'

  module _ (walk : List (List Step)) (is_walk : IsWalk played start walk) where
    trail_in : (l : List Step) → Contains walk l → IsTrail played start l
    trail_in l c = (clean_in played start walk is_walk l c).steps

    pub shown_walk : IsWalk shown start walk
    shown_walk = walk_there agree walk is_walk

    pub searched : IsFresh played cache start walk → 0 + length walk ≡ spent
        → IsSearched shown start cache limit spent walk
    searched fresh count = record {
      is_walk = shown_walk;
      fresh = fresh_there agree cache walk trail_in fresh;
      count = omega (arith, count);
      within = within;
    }

    pub followed : (z : List Step) → Follows played start walk z → Follows shown start walk z
    followed z follows = next_there agree walk z is_walk follows

    pub closed : IsClosed played start walk → IsClosed shown start walk
    closed h = closed_there agree walk is_walk h

    -- a clean trail that follows the walk, and the two together fresh
    pub spent_all : spent ≡ limit → (z : List Step) → IsClean played start z → Follows played start walk z
        → IsFresh played cache start (walk ++ z ∷ [])
        → IsSpent shown start cache limit spent walk
    spent_all all z is_clean follows fresh = record {
      spent = all;
      further = z;
      clean = clean_there agree z is_clean;
      follows = followed z follows;
      fresh = fresh_there agree cache (walk ++ z ∷ [])
          (λ l listed. ⊎_elim (λ old. trail_in l old) (λ new. subst (IsTrail played start) new is_clean.steps)
          (Contains-push_cases walk z l listed)) fresh;
    }

  pub finds_win : ((at : Board) (step : Step) → Contains (list at) step → CanBeMade rules at step)
      → (trail : List Step) → IsAnswer played start cache 0 spent limit (found.Won trail)
      → FindsWin shown rules start cache limit (expand_trail rules start trail) spent
  finds_win made trail answer = record {
    trail = trail;
    expands = refl;
    legal = trail_line rules start trail (trail_made rules list (Won rules) Keyed start trail made answer.ends.1);
    won = subst (Won rules) (trail_end rules list (Won rules) Keyed start trail) answer.ends.2;
    walk = answer.walk;
    searched = searched answer.walk answer.is_walk answer.fresh answer.count;
    follows = followed answer.walk answer.is_walk trail answer.ends.0;
  }

  pub no_win-closed : IsAnswer played start cache 0 spent limit found.Exhausted
      → FindsNoWin shown start cache limit spent
  no_win-closed answer = record {
    walk = answer.walk;
    searched = searched answer.walk answer.is_walk answer.fresh answer.count;
    ends = inl (closed answer.walk answer.is_walk answer.ends);
  }

  pub no_win-spent : IsAnswer played start cache 0 spent limit found.SpentAll → FindsNoWin shown start cache limit spent
  no_win-spent answer = record {
    walk = answer.walk;
    searched = searched answer.walk answer.is_walk answer.fresh answer.count;
    ends = inr (spent_all answer.walk answer.is_walk (answer.spent_all refl) answer.ends.0 answer.ends.1
        answer.ends.2 answer.ends.3);
  }

-- a trail that repeats no board and meets no won one does not start on a won one
start_not_won : (game : Game Board Step) (start : Board) (trail : List Step) → IsClean game start trail
    → ¬ game.Won start
start_not_won game start [] clean = All-head (λ b. ¬ game.Won b) start [] clean.not_won
start_not_won game start (step ∷ rest) clean = All-head (λ b. ¬ game.Won b) start
    (states game (game.after start step) rest) clean.not_won

-- where a search finds no win, the start is not won
pub lost_start : (game : Game Board Step) (start : Board) (cache limit nodes : ℕ)
    → FindsNoWin game start cache limit nodes → ¬ game.Won start
lost_start game start cache limit nodes h = elim h.ends [
  | inl closed ↦ by_walk h.walk h.searched.is_walk closed
  | inr spent ↦ start_not_won game start spent.further spent.clean
]
  where
    by_walk : (walk : List (List Step)) → IsWalk game start walk → IsClosed game start walk → ¬ game.Won start
    by_walk [] is_walk closed = absurd (closed.not_empty refl)
    by_walk (l ∷ walk) is_walk closed = start_not_won game start l (is_walk [] walk l refl).0

-- a win that took no node is that of the start
pub won_start : (rules : RuleParts) (game : Game Board Step) (start : Board) (cache limit : ℕ)
    (line : List Move) (nodes : ℕ)
    → FindsWin game rules start cache limit line nodes → ¬ Won rules start → 1 ≤ nodes
won_start rules game start cache limit line nodes h lost = by_walk h.walk h.searched.count h.follows
  where
    by_walk : (walk : List (List Step)) → length walk ≡ nodes → Follows game start walk h.trail → 1 ≤ nodes
    by_walk [] count follows = absurd
        (lost (subst (λ trail. Won rules (after_steps rules start trail)) (follows.first refl) h.won))
    by_walk (l ∷ walk) count follows = omega (arith, count)

-- the plain game
module _ (rules : RuleParts) (start : Board) (cache limit spent : ℕ)
    (agree : Agree (keyed_game rules) (Won rules) (Same rules) start)
    (within : spent ≤ limit) where
  pub winnable : (trail : List Step) → IsPlayable rules
      → IsAnswer (keyed_game rules) start cache 0 spent limit (found.Won trail)
      → FindsWin (plain_game rules) rules start cache limit (expand_trail rules start trail) spent
  winnable trail playable answer =
      finds_win rules (steps rules) (keyed_game rules).Same (Same rules) start cache limit spent agree within
      (plain_made rules playable) trail answer

  pub unwinnable : IsAnswer (keyed_game rules) start cache 0 spent limit found.Exhausted
      → ((n : ℕ) → ¬ Wins rules n start)
      → IsUnwinnable rules start cache limit spent
  unwinnable answer never =
      let is_closed = closed rules (steps rules) (keyed_game rules).Same
      (Same rules) start cache limit spent agree within answer.walk answer.is_walk answer.ends in
      record {
        never = not_winnable rules start never;
        walk = answer.walk;
        searched = searched rules (steps rules) (keyed_game rules).Same
            (Same rules) start cache limit spent agree within answer.walk answer.is_walk answer.fresh answer.count;
        closed = is_closed;
        some_node = some_node answer.walk answer.count is_closed;
      }
    where
      some_node : (walk : List (List Step)) → 0 + length walk ≡ spent
          → IsClosed (plain_game rules) start walk → 1 ≤ spent
      some_node [] count closed = absurd (closed.not_empty refl)
      some_node (l ∷ walk) count closed = omega (arith, count)

  covers : (walk : List (List Step)) → IsWalk (plain_game rules) start walk
      → IsSpent (plain_game rules) start cache limit spent walk
      → (boards : List Board) → IsCover (plain_game rules) start boards → min (length walk) cache < length boards
  covers walk is_walk ends boards cover =
      let z : List Step = ends.further in
      let le = longer_cover (plain_game rules) start (plain_game-is_alike rules) cache (walk ++ z ∷ [])
      (each_follows (plain_game rules) start walk z is_walk ends.follows) ends.fresh boards
      (λ l listed. ⊎_elim (λ old. clean_in (plain_game rules) start walk is_walk l old)
      (λ new. subst (IsClean (plain_game rules) start) new ends.clean)
      (Contains-push_cases walk z l listed)) cover in
      omega (arith, le, length-append walk (z ∷ []))

  pub undecided : IsAnswer (keyed_game rules) start cache 0 spent limit found.SpentAll
      → IsUndecided rules start cache limit spent
  undecided answer =
      let is_searched = searched rules (steps rules) (keyed_game rules).Same
      (Same rules) start cache limit spent agree within answer.walk answer.is_walk answer.fresh answer.count in
      let ends = spent_all rules (steps rules) (keyed_game rules).Same (Same rules) start cache limit spent agree within
      answer.walk answer.is_walk
      (answer.spent_all refl) answer.ends.0 answer.ends.1 answer.ends.2 answer.ends.3 in
      record {
        walk = answer.walk;
        searched = is_searched;
        ends = ends;
        covers = λ boards cover.
            let longer = covers answer.walk is_searched.is_walk ends boards cover in
            let count = answer.count in
            omega (arith, longer, count);
      }

-- the search's answer about a space is one about the start
pub answer_of : (rules rules' : RuleParts) (start start' : Board) (cache limit spent : ℕ) (answer answer' : Found Step)
    → rules' ≡ rules → start' ≡ start → answer' ≡ answer
    → IsAnswer (keyed_game rules') start' cache 0 spent limit answer'
    → IsAnswer (keyed_game rules) start cache 0 spent limit answer
answer_of rules rules' start start' cache limit spent answer answer' e1 e2 e3 h =
    subst (λ r. IsAnswer (keyed_game r) start cache 0 spent limit answer) e1
    (subst (λ s. IsAnswer (keyed_game rules') s cache 0 spent limit answer) e2
    (subst (λ a. IsAnswer (keyed_game rules') start' cache 0 spent limit a) e3 h))

-- where so few boards cover the game, there is a verdict
pub not_small : (rules : RuleParts) (start : Board) (cache limit nodes : ℕ) → IsUndecided rules start cache limit nodes
    → ¬ IsSmall rules start (min limit cache)
not_small rules start cache limit nodes h small =
    let longer = h.covers small.boards small.covers in
    let few = small.few in
    let spent = h.ends.spent in
    omega (arith, longer, few, spent)

-- where the search leaves no win in a complete space, the start does not win
pub never_wins : (rules rules' : RuleParts) (start start' : Board) → rules' ≡ rules → start' ≡ start
    → IsComplete (keyed_game rules) (Wins rules) start
    → (IsComplete (keyed_game rules') (Wins rules') start' → (n : ℕ) → ¬ Wins rules' n start') → (n : ℕ)
    → ¬ Wins rules n start
never_wins rules rules' start start' e1 e2 complete no_win n wins =
    no_win
    (subst (λ r. IsComplete (keyed_game r) (Wins r) start') (sym e1)
    (subst (λ s. IsComplete (keyed_game rules) (Wins rules) s) (sym e2) complete))
    n
    (subst (λ r. Wins r n start') (sym e1) (subst (λ s. Wins rules n s) (sym e2) wins))
