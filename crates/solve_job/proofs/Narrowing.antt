-- What the restricted search found, from what its search answered.
use Rattle.std.proofs.Common.{◌≡◌, ℕ, ◌≤◌, List, Contains, subst}
use Rattle.dfs_core.specs.Answer.{IsAnswer}
use Rattle.dfs_core.specs.declared.trail.Found.{Found}
use Rattle.dfs_core.specs.declared.trail.Found.TheVariants as found
use Rattle.game_rules.specs.declared.RuleParts.{RuleParts}
use Rattle.game_rules.specs.Belonging.{Belongs}
use Rattle.game_rules.specs.Board.{Board}
use Rattle.game_rules.specs.Playable.{IsPlayable}
use Rattle.game_rules.specs.Winning.{Won}
use Rattle.stock_steps.specs.declared.Step.{Step}
use Rattle.stock_steps.specs.Steps.{expand_trail}
use Rattle.stock_steps.specs.Making.{CanAllBeMade, CanBeMade}
use Rattle.streamliner.specs.declared.Streamliner.{Streamliner}
use Rattle.search_space.specs.Narrow.{narrow_game, narrow_steps, NarrowSame}
use Rattle.search_space.proofs.NarrowAlike.{narrow_keyed_game, narrow-agrees}
use Rattle.search_space.proofs.NarrowSteps.{narrow_steps-made}
use Rattle.solve_job.specs.Verdicts.{FindsWin, FindsNoWin}
use Rattle.solve_job.proofs.Lines.{trail_made}
use Rattle.solve_job.proofs.Answering.{finds_win, no_win-closed, no_win-spent}

-- the search's answer about a space is one about the start
pub narrow_answer_of : (rules rules' : RuleParts) (way way' : Streamliner) (start start' : Board)
    (cache limit spent : ℕ) (answer answer' : Found Step)
    → rules' ≡ rules → way' ≡ way → start' ≡ start → answer' ≡ answer
    → IsAnswer (narrow_keyed_game rules' way') start' cache 0 spent limit answer'
    → IsAnswer (narrow_keyed_game rules way) start cache 0 spent limit answer
narrow_answer_of rules rules' way way' start start' cache limit spent answer answer' e1 e2 e3 e4 h =
    subst (λ r. IsAnswer (narrow_keyed_game r way) start cache 0 spent limit answer) e1
    (subst (λ w. IsAnswer (narrow_keyed_game rules' w) start cache 0 spent limit answer) e2
    (subst (λ s. IsAnswer (narrow_keyed_game rules' way') s cache 0 spent limit answer) e3
    (subst (λ a. IsAnswer (narrow_keyed_game rules' way') start' cache 0 spent limit a) e4 h)))

module _ (rules : RuleParts) (way : Streamliner) (start : Board) (playable : IsPlayable rules)
    (belongs : Belongs rules start)
    (cache limit spent : ℕ) where
  made : (at : Board) (step : Step) → Contains (narrow_steps rules way at) step → CanBeMade rules at step
  made at step listed = narrow_steps-made rules way at step playable listed

  pub narrow_made : (trail : List Step)
      → IsAnswer (narrow_keyed_game rules way) start cache 0 spent limit (found.Won trail)
      → CanAllBeMade rules start trail
  narrow_made trail answer =
      trail_made rules (narrow_steps rules way) (Won rules)
      (narrow_keyed_game rules way).Same start trail made answer.ends.1

  pub narrow_win : spent ≤ limit → (trail : List Step)
      → IsAnswer (narrow_keyed_game rules way) start cache 0 spent limit (found.Won trail)
      → FindsWin (narrow_game rules way) rules start cache limit (expand_trail rules start trail) spent
  narrow_win within trail answer =
      finds_win rules (narrow_steps rules way) (narrow_keyed_game rules way).Same
      (NarrowSame rules way) start cache limit spent
      (narrow-agrees rules way start playable belongs) within made trail answer

  pub narrow_closed : spent ≤ limit → IsAnswer (narrow_keyed_game rules way) start cache 0 spent limit found.Exhausted
      → FindsNoWin (narrow_game rules way) start cache limit spent
  narrow_closed within answer =
      no_win-closed rules (narrow_steps rules way) (narrow_keyed_game rules way).Same
      (NarrowSame rules way) start cache limit spent
      (narrow-agrees rules way start playable belongs) within answer

  pub narrow_spent : spent ≤ limit → IsAnswer (narrow_keyed_game rules way) start cache 0 spent limit found.SpentAll
      → FindsNoWin (narrow_game rules way) start cache limit spent
  narrow_spent within answer =
      no_win-spent rules (narrow_steps rules way) (narrow_keyed_game rules way).Same
      (NarrowSame rules way) start cache limit spent
      (narrow-agrees rules way start playable belongs) within answer
