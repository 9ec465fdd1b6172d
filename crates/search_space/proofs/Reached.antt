-- Each board that steps reach belongs to the rules.
use Rattle.std.proofs.Common.{List, [], ◌∷◌, subst}
use Rattle.trails.specs.Game.{Game}
use Rattle.trails.specs.Trails.{end, IsTrail}
use Rattle.trails.specs.Complete.{IsReached}
use Rattle.game_rules.specs.declared.RuleParts.{RuleParts}
use Rattle.game_rules.specs.Playable.{IsPlayable}
use Rattle.game_rules.specs.Board.{Board}
use Rattle.game_rules.specs.Belonging.{Belongs}
use Rattle.stock_steps.specs.declared.Step.{Step}
use Rattle.stock_steps.specs.Steps.{after_step, steps}
use Rattle.stock_steps.proofs.StepLines.{playable_draw, steps-made}
use Rattle.stock_steps.proofs.StockLaws.{belongs-after_step}

-- the steps are those that a search tries, whichever boards are won and whichever are the same
abbrev pub by_steps : RuleParts → (Board → Type 0) → (Board → Board → Type 0) → Game Board Step
by_steps rules Won Same = record { steps = steps rules; after = after_step rules; Won = Won; Same = Same }

module _ (rules : RuleParts) (Won : Board → Type 0) (Same : Board → Board → Type 0) (playable : IsPlayable rules) where
  pub end-belongs : (board : Board) (trail : List Step) → Belongs rules board
      → IsTrail (by_steps rules Won Same) board trail
      → Belongs rules (end (by_steps rules Won Same) board trail)
  end-belongs board [] belongs is = belongs
  end-belongs board (step ∷ rest) belongs is =
      end-belongs (after_step rules board step) rest
      (belongs-after_step rules board step playable belongs
      (steps-made rules board step (playable_draw rules playable) is.0)) is.1

  pub reached-belongs : (start board : Board) → Belongs rules start → IsReached (by_steps rules Won Same) start board
      → Belongs rules board
  reached-belongs start board belongs reached =
      subst (Belongs rules) reached.2 (end-belongs start reached.0 belongs reached.1)
