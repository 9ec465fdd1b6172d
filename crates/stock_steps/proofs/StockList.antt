-- The list of stock steps holds each stock step, by its number of stock moves and then in the order of moves.
use Rattle.std.proofs.Common.{◌≡◌, ◌⊎◌, ◌↔◌, inl, inr, ℕ, zero, suc, ◌+◌, ◌<◌, ◌≤◌, Bool, true, false, List, [], ◌++◌}
use Rattle.std.proofs.Common.{refl, ap, sym, ◌∙◌, subst, arith, IsTrue, add-zero, append-nil}
use Rattle.std.specs.List.{Contains, flat_map, range_with_len}
use Rattle.game_rules.specs.declared.RuleParts.{RuleParts}
use Rattle.game_rules.specs.declared.Move.{Move}
use Rattle.game_rules.specs.Rules.{deals_to_waste}
use Rattle.game_rules.specs.Board.{Board}
use Rattle.game_rules.specs.Play.{Legal}
use Rattle.game_rules.specs.Order.{legal_moves}
use Rattle.game_rules.specs.StockMoves.{after_stock_move, after_stock_moves}
use Rattle.game_rules.specs.NextByStock.{IsNextByStock}
use Rattle.stock_steps.specs.Steps.{is_from_waste, stock_steps, stock_steps_after, steps_from}
use Rattle.stock_steps.specs.Steps.{most_stock_moves, waste_carries}
use Rattle.stock_steps.specs.StockSteps.{IsStockRun, IsWholeRun, IsAlongRun, StockStep}
use Rattle.stock_steps.specs.declared.Step.{Step}
use Rattle.stock_steps.proofs.Members.{Mem, Contains-from_Mem, Mem-from_Contains, Mem-left, Mem-right, Mem-append}
use Rattle.stock_steps.proofs.Members.{Mem-map, Mem-from_map, Mem-filter, Mem-from_filter}
use Rattle.stock_steps.proofs.LegalListed.{legal_listed, listed_legal}
use Rattle.game_rules.proofs.StockMoves.{after_stock_moves-suc}
use Rattle.stock_steps.proofs.StockKin.{next_is}
use Rattle.stock_steps.proofs.StockRuns.{Along, along, steps_along, stock_moves-end}

-- the boards of a run are those that the functions compute

pub run_boards : (rules : RuleParts) (board : Board) (k : ℕ) (boards : ℕ → Board) → IsTrue (deals_to_waste rules.target)
    → IsStockRun rules board k boards → (i : ℕ) → i ≤ k → boards i ≡ after_stock_moves rules i board
run_boards rules board k boards to_waste run zero h = run.first
run_boards rules board k boards to_waste run (suc i) h =
    next_is rules (boards i) (boards (suc i)) to_waste (run.next i (omega arith))
    ∙ ap (after_stock_move rules) (run_boards rules board k boards to_waste run i (omega arith))
    ∙ sym (after_stock_moves-suc rules i board)

-- the list, board by board

along_flat : (rules : RuleParts) (last deals : ℕ) (board : Board) (boards : ℕ → Board)
    → ((i : ℕ) → boards (deals + i) ≡ after_stock_moves rules i board)
    → steps_along rules last deals board ≡ flat_map (λ k. steps_from k (waste_carries rules (boards k)))
    (range_with_len deals (suc last))
along_flat rules zero deals board boards same =
    let here : boards deals ≡ board = ap boards (sym (add-zero deals)) ∙ same 0 in
    sym (append-nil (steps_from deals (waste_carries rules (boards deals)))
    ∙ ap (λ (x : Board). steps_from deals (waste_carries rules x)) here)
along_flat rules (suc last) deals board boards same =
    let here : boards deals ≡ board = ap boards (sym (add-zero deals)) ∙ same 0 in
    let rest : steps_along rules last (deals + 1) (after_stock_move rules board)
    ≡ flat_map (λ k. steps_from k (waste_carries rules (boards k))) (range_with_len (deals + 1) (suc last)) =
    along_flat rules last (deals + 1) (after_stock_move rules board) boards
    (λ i. let e : deals + 1 + i ≡ deals + suc i = omega arith in ap boards e ∙ same (suc i)) in
    ap (λ (x : Board). steps_from deals (waste_carries rules x) ++ steps_along rules last (deals + 1)
    (after_stock_move rules board)) (sym here)
    ∙ ap (λ (xs : List Step). steps_from deals (waste_carries rules (boards deals)) ++ xs) rest

whole_run : (rules : RuleParts) (board : Board) (found : Along rules (most_stock_moves board) 0 [] board)
    → IsWholeRun rules board found.last (λ i. after_stock_moves rules i board)
whole_run rules board found = record {
  run = record { first = refl; next = found.next; apart = found.apart };
  closed = λ next is_next. elim (found.closed next is_next) [
    | inl none ↦ absurd none
    | inr at ↦ at
  ];
}

-- the run of a board
pub stock_along : (rules : RuleParts) (board : Board) → 1 ≤ rules.draw → IsTrue (deals_to_waste rules.target)
    → Along rules (most_stock_moves board) 0 [] board
stock_along rules board draws to_waste =
    along rules (most_stock_moves board) 0 [] board to_waste (λ b none. absurd none) (λ b none. absurd none)
    (stock_moves-end rules board draws to_waste)

-- the list goes along the run
pub stock_steps-listed : (rules : RuleParts) (board : Board) → IsTrue (deals_to_waste rules.target)
    → (found : Along rules (most_stock_moves board) 0 [] board)
    → stock_steps rules board ≡ flat_map (λ k. steps_from k (waste_carries rules (after_stock_moves rules k board)))
    (range_with_len 0 (suc found.last))
stock_steps-listed rules board to_waste found =
    rw to_waste found.is_list
    ∙ along_flat rules found.last 0 board (λ i. after_stock_moves rules i board)
    (λ i. let e : 0 + i ≡ i = omega arith in ap (λ (n : ℕ). after_stock_moves rules n board) e)

pub stock_steps-along : (rules : RuleParts) (board : Board) → 1 ≤ rules.draw → IsTrue (deals_to_waste rules.target)
    → IsAlongRun rules board (stock_steps rules board)
stock_steps-along rules board draws to_waste =
    let found : Along rules (most_stock_moves board) 0 [] board = stock_along rules board draws to_waste in
    record {
      last = found.last;
      boards = λ i. after_stock_moves rules i board;
      whole = whole_run rules board found;
      is_list = stock_steps-listed rules board to_waste found;
    }

-- the list's elements

pub Mem-steps_from : (deals : ℕ) (move : Move) (moves : List Move) → Mem move moves
    → Mem (record { deals = deals; last = move }) (steps_from deals moves)
Mem-steps_from deals move moves h = Mem-map (λ (m : Move). record { deals = deals; last = m }) move moves h

pub Mem-from_steps : (deals : ℕ) (step : Step) (moves : List Move) → Mem step (steps_from deals moves)
    → (step.deals ≡ deals) × Mem step.last moves
Mem-from_steps deals step moves h =
    let at : (move : Move) × Mem move moves × (step ≡ record { deals = deals; last = move }) =
    Mem-from_map (λ (m : Move). record { deals = deals; last = m }) step moves h in
    (ap (λ (s : Step). s.deals) at.2, subst (λ (m : Move). Mem m moves) (sym (ap (λ (s : Step). s.last) at.2)) at.1)

pub Mem-along : (rules : RuleParts) (last deals : ℕ) (board : Board) (i : ℕ) (move : Move) → i ≤ last
    → Mem move (waste_carries rules (after_stock_moves rules i board))
    → Mem (record { deals = deals + i; last = move }) (steps_along rules last deals board)
Mem-along rules zero deals board zero move h here =
    let e : deals + 0 ≡ deals = omega arith in
    rw e (Mem-steps_from deals move (waste_carries rules board) here)
Mem-along rules zero deals board (suc i) move h here = absurd (omega arith)
Mem-along rules (suc last) deals board zero move h here =
    let e : deals + 0 ≡ deals = omega arith in
    rw e (Mem-left (record { deals = deals; last = move }) (steps_from deals (waste_carries rules board))
    (steps_along rules last (deals + 1) (after_stock_move rules board))
    (Mem-steps_from deals move (waste_carries rules board) here))
Mem-along rules (suc last) deals board (suc i) move h here =
    let e : deals + suc i ≡ deals + 1 + i = omega arith in
    rw e (Mem-right (record { deals = deals + 1 + i; last = move }) (steps_from deals (waste_carries rules board))
    (steps_along rules last (deals + 1) (after_stock_move rules board))
    (Mem-along rules last (deals + 1) (after_stock_move rules board) i move (omega arith) here))

pub record IsStepAt (rules : RuleParts) (last deals : ℕ) (board : Board) (step : Step) : Type 0 where
  pub place : ℕ
  pub within : place ≤ last
  pub is_deals : step.deals ≡ deals + place
  pub here : Mem step.last (waste_carries rules (after_stock_moves rules place board))

pub Mem-from_along : (rules : RuleParts) (last deals : ℕ) (board : Board) (step : Step)
    → Mem step (steps_along rules last deals board) → IsStepAt rules last deals board step
Mem-from_along rules zero deals board step h =
    let at : (step.deals ≡ deals) × Mem step.last (waste_carries rules board) = Mem-from_steps deals step
    (waste_carries rules board) h in
    record { place = 0; within = omega arith; is_deals = omega (arith, at.0); here = at.1 }
Mem-from_along rules (suc last) deals board step h =
    let rest : Mem step (steps_along rules last (deals + 1) (after_stock_move rules board))
    → IsStepAt rules last (deals + 1) (after_stock_move rules board) step =
    Mem-from_along rules last (deals + 1) (after_stock_move rules board) step in
    elim (Mem-append step (steps_from deals (waste_carries rules board))
    (steps_along rules last (deals + 1) (after_stock_move rules board)) h) [
      | inl first ↦
          let at : (step.deals ≡ deals) × Mem step.last (waste_carries rules board) = Mem-from_steps deals step
          (waste_carries rules board) first in
          record { place = 0; within = omega arith; is_deals = omega (arith, at.0); here = at.1 }
      | inr there ↦
          let at : IsStepAt rules last (deals + 1) (after_stock_move rules board) step = rest there in
          record {
            place = suc at.place;
            within = omega (arith, at.within);
            is_deals = omega
                (arith, at.is_deals);
            here = at.here;
          }
    ]

-- the list holds exactly the stock steps

listed_is_step : (rules : RuleParts) (board : Board) (step : Step) → IsTrue (deals_to_waste rules.target)
    → (found : Along rules (most_stock_moves board) 0 [] board) → IsStepAt rules found.last 0 board step
    → StockStep rules board step
listed_is_step rules board step to_waste found at =
    let place : step.deals ≡ at.place = omega (arith, at.is_deals) in
    let here : Mem step.last (waste_carries rules (after_stock_moves rules step.deals board)) =
    subst (λ (k : ℕ). Mem step.last (waste_carries rules (after_stock_moves rules k board))) (sym place) at.here in
    let kept : IsTrue (is_from_waste step.last)
    × Mem step.last (legal_moves rules (after_stock_moves rules step.deals board)) =
    Mem-from_filter is_from_waste step.last (legal_moves rules (after_stock_moves rules step.deals board)) here in
    let within : step.deals ≤ found.last = omega (arith, at.within) in
    record {
      to_waste = to_waste;
      boards = λ i. after_stock_moves rules i board;
      run = record {
        first = refl;
        next = λ i h. found.next i (omega arith);
        apart = λ i j h k. found.apart i j h (omega arith);
      };
      from_waste = kept.0;
      legal = listed_legal rules (after_stock_moves rules step.deals board) step.last kept.1;
    }

-- a run without a board twice is no longer than the whole run
pub run_within : (rules : RuleParts) (board : Board) (k : ℕ) (boards : ℕ → Board) → IsTrue (deals_to_waste rules.target)
    → (found : Along rules (most_stock_moves board) 0 [] board) → IsStockRun rules board k boards → k ≤ found.last
run_within rules board k boards to_waste found run =
    let last : ℕ = found.last in
    let cases : (k ≤ last) ⊎ (last < k) = grind arith in
    elim cases [
      | inl within ↦ within
      | inr longer ↦
          let here : boards last ≡ after_stock_moves rules last board = run_boards rules board k boards to_waste run
          last (omega arith) in
          let next : IsNextByStock rules (after_stock_moves rules last board) (boards (suc last)) =
          subst (λ (b : Board). IsNextByStock rules b (boards (suc last))) here (run.next last longer) in
          elim (found.closed (boards (suc last)) next) [
            | inl none ↦ absurd none
            | inr at ↦
                let before : boards at.0 ≡ after_stock_moves rules at.0 board = run_boards rules board k boards to_waste
                run at.0 (omega (arith, at.1)) in
                absurd (run.apart at.0 (suc last) (omega (arith, at.1)) longer (before ∙ at.2))
          ]
    ]

-- and a whole run is as long as it
pub stock_steps-by_run : (rules : RuleParts) (board : Board) (k : ℕ) → 1 ≤ rules.draw
    → IsTrue (deals_to_waste rules.target)
    → IsWholeRun rules board k (λ i. after_stock_moves rules i board)
    → stock_steps rules board ≡ flat_map (λ i. steps_from i (waste_carries rules (after_stock_moves rules i board)))
    (range_with_len 0 (suc k))
stock_steps-by_run rules board k draws to_waste whole =
    let found : Along rules (most_stock_moves board) 0 [] board = stock_along rules board draws to_waste in
    let within : k ≤ found.last = run_within rules board k
    (λ i. after_stock_moves rules i board) to_waste found whole.run in
    let cases : (found.last ≡ k) ⊎ (k < found.last) = grind (arith, within) in
    elim cases [
      | inl e ↦
          stock_steps-listed rules board to_waste found
          ∙ ap (λ (n : ℕ). flat_map (λ i. steps_from i (waste_carries rules (after_stock_moves rules i board)))
          (range_with_len 0 (suc n))) e
      | inr less ↦
          let at : (i : ℕ) × (i ≤ k) × (after_stock_moves rules i board ≡ after_stock_moves rules (suc k) board) =
          whole.closed (after_stock_moves rules (suc k) board) (found.next k less) in
          absurd (found.apart at.0 (suc k) (omega (arith, at.1)) less at.2)
    ]

step_is_listed : (rules : RuleParts) (board : Board) (step : Step) → StockStep rules board step
    → (found : Along rules (most_stock_moves board) 0 [] board) → Mem step (steps_along rules found.last 0 board)
step_is_listed rules board step is_step found =
    let within : step.deals ≤ found.last = run_within rules board step.deals is_step.boards is_step.to_waste
    found is_step.run in
    let here : is_step.boards step.deals ≡ after_stock_moves rules step.deals board =
    run_boards rules board step.deals is_step.boards is_step.to_waste is_step.run step.deals (omega arith) in
    let legal : Legal rules (after_stock_moves rules step.deals board) step.last =
    subst (λ (b : Board). Legal rules b step.last) here is_step.legal in
    let listed : Mem step.last (waste_carries rules (after_stock_moves rules step.deals board)) =
    Mem-filter is_from_waste step.last (legal_moves rules (after_stock_moves rules step.deals board)) is_step.from_waste
    (legal_listed rules (after_stock_moves rules step.deals board) step.last legal) in
    let at : Mem (record { deals = 0 + step.deals; last = step.last }) (steps_along rules found.last 0 board) =
    Mem-along rules found.last 0 board step.deals step.last within listed in
    let e : 0 + step.deals ≡ step.deals = omega arith in
    subst (λ (k : ℕ). Mem (record { deals = k; last = step.last }) (steps_along rules found.last 0 board)) e at

stock_steps_after-are : (rules : RuleParts) (board : Board) (step : Step) → 1 ≤ rules.draw
    → IsTrue (deals_to_waste rules.target)
    → Contains (stock_steps_after rules (most_stock_moves board) 0 [] board) step ↔ StockStep rules board step
stock_steps_after-are rules board step draws to_waste =
    let found : Along rules (most_stock_moves board) 0 [] board = stock_along rules board draws to_waste in (
      λ here.
          let listed : Mem step (steps_along rules found.last 0 board) =
          subst (λ (xs : List Step). Mem step xs) found.is_list
          (Mem-from_Contains step (stock_steps_after rules (most_stock_moves board) 0 [] board) here) in
          listed_is_step rules board step to_waste found (Mem-from_along rules found.last 0 board step listed),
      λ is_step.
          Contains-from_Mem step (stock_steps_after rules (most_stock_moves board) 0 [] board)
          (subst (λ (xs : List Step). Mem step xs) (sym found.is_list) (step_is_listed rules board step is_step found)),
    )

is_by_target : (rules : RuleParts) (board : Board) (step : Step) (t : Bool)
    → deals_to_waste rules.target ≡ t → 1 ≤ rules.draw
    → Contains (stock_steps rules board) step ↔ StockStep rules board step
is_by_target rules board step true e draws = rw e (stock_steps_after-are rules board step draws e)
is_by_target rules board step false e draws = (
  λ here. let none : Contains [] step = rw e at here in absurd (omega (arith, none.1)),
  λ is_step. absurd (let to_waste : IsTrue (deals_to_waste rules.target) = is_step.to_waste in cc),
)

pub stock_steps-are : (rules : RuleParts) (board : Board) (step : Step) → 1 ≤ rules.draw
    → Contains (stock_steps rules board) step ↔ StockStep rules board step
stock_steps-are rules board step draws = is_by_target rules board step (deals_to_waste rules.target) refl draws
