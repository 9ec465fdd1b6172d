-- Trails of steps are lines of legal moves.
use Rattle.std.proofs.Common.{◌≡◌, ℕ, zero, suc, ◌+◌, ◌<◌, List, [], ◌∷◌, ◌++◌, length, drop, get_or, refl, ap, sym}
use Rattle.std.proofs.Common.{◌∙◌, arith, append_assoc, Contains}
use Rattle.trails.specs.Game.{Game}
use Rattle.trails.specs.Trails.{end, IsTrail}
use Rattle.game_rules.specs.declared.RuleParts.{RuleParts}
use Rattle.game_rules.specs.declared.Move.{Move}
use Rattle.game_rules.specs.Playable.{IsPlayable}
use Rattle.game_rules.specs.Board.{Board}
use Rattle.game_rules.specs.Winning.{Won, Winnable, Wins}
use Rattle.stock_steps.specs.declared.Step.{Step}
use Rattle.stock_steps.specs.Steps.{after_step, after_steps, expand, expand_trail, steps}
use Rattle.stock_steps.specs.Making.{CanAllBeMade, CanBeMade}
use Rattle.stock_steps.proofs.StepLines.{playable_draw, steps-made}

-- a game of these steps, whatever counts as won and as the same
abbrev pub any_game : RuleParts → (Board → List Step) → (Board → Type 0) → (Board → Board → Type 0) → Game Board Step
any_game rules list Won Same = record { steps = list; after = after_step rules; Won = Won; Same = Same }

module _ (rules : RuleParts) (list : Board → List Step) (Won : Board → Type 0) (Same : Board → Board → Type 0) where
  -- each step of a trail can be made
  pub trail_made : (board : Board) (trail : List Step)
      → ((at : Board) (step : Step) → Contains (list at) step → CanBeMade rules at step)
      → IsTrail (any_game rules list Won Same) board trail → CanAllBeMade rules board trail
  trail_made board [] made is = tt
  trail_made board (step ∷ rest) made is =
      (made board step is.0, trail_made (after_step rules board step) rest made is.1)

  -- the end of a trail is the board after its steps
  pub trail_end : (board : Board) (trail : List Step)
      → end (any_game rules list Won Same) board trail ≡ after_steps rules board trail
  trail_end board [] = refl
  trail_end board (step ∷ rest) = trail_end (after_step rules board step) rest

-- each step of a board can be made
pub plain_made : (rules : RuleParts) → IsPlayable rules → (at : Board) (step : Step) → Contains (steps rules at) step
    → CanBeMade rules at step
plain_made rules playable at step listed = steps-made rules at step (playable_draw rules playable) listed

-- where no number of moves wins, the board is not winnable
pub not_winnable : (rules : RuleParts) (board : Board) → ((n : ℕ) → ¬ Wins rules n board) → ¬ Winnable rules board
not_winnable rules board never wins = never wins.0 wins.1

-- a trail from one of its steps on
pub drop-step : (steps : List Step) (i : ℕ) (d : Step) → i < length steps
    → drop i steps ≡ get_or steps i d ∷ drop (i + 1) steps
drop-step [] i d less = absurd (omega (arith, less))
drop-step (step ∷ rest) zero d less = refl
drop-step (step ∷ rest) (suc i) d less =
    let more : suc i + 1 ≡ suc (i + 1) = omega arith in
    drop-step rest i d (omega (arith, less)) ∙ ap (λ (k : ℕ). get_or rest i d ∷ drop k (step ∷ rest)) (sym more)

-- the moves of one step more
pub moves-more : (rules : RuleParts) (here there : Board) (step : Step) (rest left : List Step)
    (old new whole : List Move)
    → left ≡ step ∷ rest → there ≡ after_step rules here step → new ≡ old ++ expand rules here step
    → old ++ expand_trail rules here left ≡ whole → new ++ expand_trail rules there rest ≡ whole
moves-more rules here there step rest left old new whole e_left e_there e_new e =
    ap (λ (b : Board). new ++ expand_trail rules b rest) e_there
    ∙ ap (λ (moves : List Move). moves ++ expand_trail rules (after_step rules here step) rest) e_new
    ∙ append_assoc old (expand rules here step) (expand_trail rules (after_step rules here step) rest)
    ∙ ap (λ (steps : List Step). old ++ expand_trail rules here steps) (sym e_left)
    ∙ e
