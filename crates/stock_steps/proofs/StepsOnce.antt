-- No step stands twice in the list of steps.
use Rattle.std.proofs.Common.{◌≡◌, inl, inr, ℕ, zero, suc, ◌+◌, ◌≤◌, Bool, true, false, not, List, [], ◌∷◌, refl, ap}
use Rattle.std.proofs.Common.{arith, Option, Some, None, IsTrue}
use Rattle.game_rules.specs.declared.RuleParts.{RuleParts}
use Rattle.game_rules.specs.declared.Move.{Move}
use Rattle.game_rules.specs.Rules.{deals_to_waste}
use Rattle.game_rules.specs.Board.{Board}
use Rattle.game_rules.specs.Order.{legal_moves}
use Rattle.game_rules.specs.StockMoves.{is_carry, stock_move}
use Rattle.safe_moves.specs.Safe.{first_safe}
use Rattle.stock_steps.specs.Steps.{is_from_waste, is_from_elsewhere, waste_carries, other_carries, forced_or}
use Rattle.stock_steps.specs.Steps.{next_stock_board, stock_steps, stock_steps_after, most_stock_moves, steps_from}
use Rattle.stock_steps.specs.Steps.{free_steps, steps}
use Rattle.stock_steps.specs.declared.Step.{Step}
use Rattle.game_rules.proofs.Limits.{both}
use Rattle.stock_steps.proofs.Members.{Mem, Mem-append, Mem-from_filter, Distinct, Distinct-append, Distinct-filter}
use Rattle.stock_steps.proofs.Members.{Distinct-map, AreApart, AreApart-from_Distinct}
use Rattle.stock_steps.proofs.LegalListed.{legal_once}
use Rattle.stock_steps.proofs.StockList.{Mem-from_steps}

-- the stock steps after so many stock moves

pub record IsLater (deals : ℕ) (step : Step) : Type 0 where
  pub later : deals ≤ step.deals
  pub from_waste : IsTrue (is_from_waste step.last)

abbrev further : RuleParts → ℕ → ℕ → List Board → Board → Option Board → List Step
further rules most deals seen board found = elim found [
  | None ↦ []
  | Some next ↦ stock_steps_after rules most (deals + 1) (board ∷ seen) next
]

first_later : (rules : RuleParts) (deals : ℕ) (board : Board) (step : Step)
    → Mem step (steps_from deals (waste_carries rules board)) → IsLater deals step
first_later rules deals board step here =
    let at : (step.deals ≡ deals) × Mem step.last (waste_carries rules board) = Mem-from_steps deals step
    (waste_carries rules board) here in
    record {
      later = omega (arith, at.0);
      from_waste = (Mem-from_filter is_from_waste step.last (legal_moves rules board) at.1).0;
    }

further_later : (rules : RuleParts) (most deals : ℕ) (seen : List Board) (board : Board) (found : Option Board)
    → ((next : Board) (step : Step) → Mem step (stock_steps_after rules most (deals + 1) (board ∷ seen) next)
    → IsLater (deals + 1) step)
    → (step : Step) → Mem step (further rules most deals seen board found) → IsLater (deals + 1) step
further_later rules most deals seen board None rest step here = absurd here
further_later rules most deals seen board (Some next) rest step here = rest next step here

after_later : (rules : RuleParts) (most deals : ℕ) (seen : List Board) (board : Board) (step : Step)
    → Mem step (stock_steps_after rules most deals seen board) → IsLater deals step
after_later rules zero deals seen board step here = first_later rules deals board step here
after_later rules (suc most) deals seen board step here =
    let found : Option Board = next_stock_board rules seen board (stock_move rules board) in
    let rest : (s : Step) → Mem s (further rules most deals seen board found) → IsLater (deals + 1) s =
    further_later rules most deals seen board found (after_later rules most (deals + 1) (board ∷ seen)) in
    elim (Mem-append step (steps_from deals (waste_carries rules board))
    (further rules most deals seen board found) here) [
      | inl first ↦ first_later rules deals board step first
      | inr there ↦
          let more : IsLater (deals + 1) step = rest step there in
          record { later = omega (arith, more.later); from_waste = more.from_waste }
    ]

steps_apart : (deals : ℕ) (moves : List Move) → Distinct moves → Distinct (steps_from deals moves)
steps_apart deals moves h = Distinct-map (λ (m : Move). record { deals = deals; last = m }) moves
    (λ a b e. ap (λ (s : Step). s.last) e) h

first_apart : (rules : RuleParts) (deals : ℕ) (board : Board) → Distinct (steps_from deals (waste_carries rules board))
first_apart rules deals board =
    steps_apart deals (waste_carries rules board)
    (Distinct-filter is_from_waste (legal_moves rules board) (legal_once rules board))

further_apart : (rules : RuleParts) (most deals : ℕ) (seen : List Board) (board : Board) (found : Option Board)
    → ((next : Board) → Distinct (stock_steps_after rules most (deals + 1) (board ∷ seen) next))
    → Distinct (further rules most deals seen board found)
further_apart rules most deals seen board None rest = tt
further_apart rules most deals seen board (Some next) rest = rest next

after_apart : (rules : RuleParts) (most deals : ℕ) (seen : List Board) (board : Board)
    → Distinct (stock_steps_after rules most deals seen board)
after_apart rules zero deals seen board = first_apart rules deals board
after_apart rules (suc most) deals seen board =
    let found : Option Board = next_stock_board rules seen board (stock_move rules board) in
    Distinct-append (steps_from deals (waste_carries rules board)) (further rules most deals seen board found)
    (first_apart rules deals board)
    (further_apart rules most deals seen board found (after_apart rules most (deals + 1) (board ∷ seen)))
    (λ step left right.
    let first : (step.deals ≡ deals) × Mem step.last (waste_carries rules board) = Mem-from_steps deals step
    (waste_carries rules board) left in
    let more : IsLater (deals + 1) step = further_later rules most deals seen board found
    (after_later rules most (deals + 1) (board ∷ seen)) step right in
    omega (arith, first.0, more.later))

apart_by_target : (rules : RuleParts) (board : Board) (t : Bool) → deals_to_waste rules.target ≡ t
    → AreApart (stock_steps rules board)
apart_by_target rules board true e =
    rw e (AreApart-from_Distinct (stock_steps_after rules (most_stock_moves board) 0 [] board)
    (after_apart rules (most_stock_moves board) 0 [] board))
apart_by_target rules board false e = rw e (AreApart-from_Distinct [] tt)

pub stock_steps-apart : (rules : RuleParts) (board : Board) → AreApart (stock_steps rules board)
stock_steps-apart rules board = apart_by_target rules board (deals_to_waste rules.target) refl

-- all steps

not_both : (b : Bool) → IsTrue b → IsTrue (not b) → ⊥
not_both true h k = cc
not_both false h k = cc

free_once : (rules : RuleParts) (board : Board) (t : Bool) → deals_to_waste rules.target ≡ t
    → Distinct (free_steps rules board)
free_once rules board true e =
    rw e
    (Distinct-append (steps_from 0 (other_carries rules board))
    (stock_steps_after rules (most_stock_moves board) 0 [] board)
    (steps_apart 0 (other_carries rules board)
    (Distinct-filter is_from_elsewhere (legal_moves rules board) (legal_once rules board)))
    (after_apart rules (most_stock_moves board) 0 [] board)
    (λ step left right.
    let first : (step.deals ≡ 0) × Mem step.last (other_carries rules board) = Mem-from_steps 0 step
    (other_carries rules board) left in
    let test : IsTrue (is_from_elsewhere step.last) =
    (Mem-from_filter is_from_elsewhere step.last (legal_moves rules board) first.1).0 in
    let later : IsLater 0 step = after_later rules (most_stock_moves board) 0 [] board step right in
    not_both (is_from_waste step.last) later.from_waste
    (both (is_carry step.last) (not (is_from_waste step.last)) test).1))
free_once rules board false e = rw e (steps_apart 0 (legal_moves rules board) (legal_once rules board))

forced_once : (forced : Option Move) (others : List Step) → Distinct others → Distinct (forced_or forced others)
forced_once None others once = once
forced_once (Some move) others once = (λ y none e. absurd none, tt)

pub steps-apart : (rules : RuleParts) (board : Board) → AreApart (steps rules board)
steps-apart rules board =
    AreApart-from_Distinct (steps rules board)
    (forced_once (first_safe rules board) (free_steps rules board)
    (free_once rules board (deals_to_waste rules.target) refl))
