-- Each board that the steps of a restricted search reach belongs to the rules.
use Rattle.std.proofs.Common.{List, [], ◌∷◌, subst}
use Rattle.trails.specs.Game.{Game}
use Rattle.trails.specs.Trails.{end, IsTrail}
use Rattle.trails.specs.Complete.{IsReached}
use Rattle.game_rules.specs.declared.RuleParts.{RuleParts}
use Rattle.game_rules.specs.Playable.{IsPlayable}
use Rattle.game_rules.specs.Board.{Board}
use Rattle.game_rules.specs.Belonging.{Belongs}
use Rattle.stock_steps.specs.declared.Step.{Step}
use Rattle.stock_steps.specs.Steps.{after_step}
use Rattle.stock_steps.proofs.StockLaws.{belongs-after_step}
use Rattle.streamliner.specs.declared.Streamliner.{Streamliner}
use Rattle.search_space.specs.Narrow.{narrow_steps}
use Rattle.search_space.proofs.NarrowSteps.{narrow_steps-made}

-- the steps are those of a restricted search, whichever boards are won and whichever are the same
abbrev pub by_narrow_steps : RuleParts → Streamliner → (Board → Type 0) → (Board → Board → Type 0) → Game Board Step
by_narrow_steps rules way Won Same =
    record { steps = narrow_steps rules way; after = after_step rules; Won = Won; Same = Same }

module _ (rules : RuleParts) (way : Streamliner) (Won : Board → Type 0) (Same : Board → Board → Type 0)
    (playable : IsPlayable rules) where
  narrow_end-belongs : (board : Board) (trail : List Step) → Belongs rules board
      → IsTrail (by_narrow_steps rules way Won Same) board trail
      → Belongs rules (end (by_narrow_steps rules way Won Same) board trail)
  narrow_end-belongs board [] belongs is = belongs
  narrow_end-belongs board (step ∷ rest) belongs is =
      narrow_end-belongs (after_step rules board step) rest
      (belongs-after_step rules board step playable belongs (narrow_steps-made rules way board step playable is.0)) is.1

  pub narrow_reached-belongs : (start board : Board) → Belongs rules start
      → IsReached (by_narrow_steps rules way Won Same) start board → Belongs rules board
  narrow_reached-belongs start board belongs reached =
      subst (Belongs rules) reached.2 (narrow_end-belongs start reached.0 belongs reached.1)
