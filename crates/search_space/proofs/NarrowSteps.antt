-- The steps of a restricted search can be made, and none stands twice.
use Rattle.std.proofs.Common.{inl, inr, ◌≡◌, ◌≢◌, ℕ, ◌≤◌, List, [], ◌∷◌, refl, sym, subst, arith, Contains, AllPairs}
use Rattle.std.specs.Prelude.{Option, Some, None}
use Rattle.game_rules.specs.declared.RuleParts.{RuleParts}
use Rattle.game_rules.specs.declared.Move.{Move}
use Rattle.game_rules.specs.Playable.{IsPlayable}
use Rattle.game_rules.specs.Board.{Board}
use Rattle.game_rules.specs.Play.{Legal}
use Rattle.game_rules.specs.Winning.{Line}
use Rattle.game_rules.specs.Order.{legal_moves}
use Rattle.game_rules.specs.StockMoves.{after_stock_moves}
use Rattle.game_rules.proofs.MovesListed.{legal_moves-exact, Contains-cases}
use Rattle.safe_moves.proofs.FirstSafe.{find-listed}
use Rattle.stock_steps.specs.declared.Step.{Step}
use Rattle.stock_steps.specs.Steps.{forced_or, steps}
use Rattle.stock_steps.specs.Making.{CanBeMade}
use Rattle.stock_steps.proofs.StepLines.{playable_draw, steps-made}
use Rattle.stock_steps.proofs.StepsOnce.{steps-apart}
use Rattle.streamliner.specs.declared.Streamliner.{Streamliner}
use Rattle.streamliner.specs.declared.Streamliner.TheVariants.{AutoFoundations, SuitSymmetry, Both}
use Rattle.streamliner.specs.Narrow.{narrow, is_carry_home}
use Rattle.search_space.specs.Narrow.{narrow_steps}

narrow-listed : (way : Streamliner) (moves : List Move) (move : Move) → narrow way moves ≡ Some move
    → Contains moves move
narrow-listed AutoFoundations moves move e = find-listed is_carry_home moves move e
narrow-listed SuitSymmetry moves move e = cc
narrow-listed Both moves move e = find-listed is_carry_home moves move e

-- a legal move is a step of its own
made-at_once : (rules : RuleParts) (board : Board) (step : Step) → step.deals ≡ 0 → Legal rules board step.last
    → CanBeMade rules board step
made-at_once rules board step none legal = record {
  stock =
      record { to_waste = λ some. absurd (omega (arith, some, none)); each = λ i h. absurd (omega (arith, h, none)) };
  last = subst (λ (k : ℕ). Legal rules (after_stock_moves rules k board) step.last) (sym none) legal;
}

forced-made : (rules : RuleParts) (board : Board) (forced : Option Move) (others : List Step)
    → ((move : Move) → forced ≡ Some move → Legal rules board move)
    → ((step : Step) → Contains others step → CanBeMade rules board step)
    → (step : Step) → Contains (forced_or forced others) step → CanBeMade rules board step
forced-made rules board None others legal made step here = made step here
forced-made rules board (Some move) others legal made step here =
    let single : Step = record { deals = 0; last = move } in
    elim (Contains-cases step single [] here) [
      | inl same ↦ subst (CanBeMade rules board) same (made-at_once rules board single refl (legal move refl))
      | inr none ↦ absurd (omega (arith, none.1))
    ]

pub narrow_steps-made : (rules : RuleParts) (way : Streamliner) (board : Board) (step : Step) → IsPlayable rules
    → Contains (narrow_steps rules way board) step → CanBeMade rules board step
narrow_steps-made rules way board step playable here =
    forced-made rules board (narrow way (legal_moves rules board)) (steps rules board)
    (λ move e. (legal_moves-exact rules board move).0 (narrow-listed way (legal_moves rules board) move e))
    (λ other listed. steps-made rules board other (playable_draw rules playable) listed)
    step here

forced-once : (forced : Option Move) (others : List Step) → AllPairs (λ a b. a ≢ b) others
    → AllPairs (λ a b. a ≢ b) (forced_or forced others)
forced-once None others once = once
forced-once (Some move) others once = λ i j d l m. absurd (omega (arith, l, m))

pub narrow_steps-once : (rules : RuleParts) (way : Streamliner) (board : Board)
    → AllPairs (λ a b. a ≢ b) (narrow_steps rules way board)
narrow_steps-once rules way board = forced-once (narrow way (legal_moves rules board)) (steps rules board)
    (steps-apart rules board)
