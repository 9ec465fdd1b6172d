-- Each step of the list is a line of its single moves, and how many stock moves a step has.
use Rattle.std.proofs.Common.{◌≡◌, inl, inr, ℕ, zero, suc, ◌+◌, ◌*◌, ◌<◌, ◌≤◌, Bool, true, false, List, [], ◌∷◌, ◌++◌}
use Rattle.std.proofs.Common.{length, refl, sym, subst, arith, IsTrue, Option, Some, None, mul-le-mul}
use Rattle.std.proofs.lemmas.Bool.Decides.{nat_tests}
use Rattle.std.specs.List.{Contains, filter}
use Rattle.std.specs.Option.{option_to_list}
use Rattle.game_rules.specs.declared.RuleParts.{RuleParts}
use Rattle.game_rules.specs.declared.Move.{Move}
use Rattle.game_rules.specs.declared.Redeals.{Redeals}
use Rattle.game_rules.specs.declared.Redeals.TheVariants.{Times, Unlimited}
use Rattle.game_rules.specs.Rules.{deals_to_waste, is_unlimited}
use Rattle.game_rules.specs.Conflicts.{are_redeals_within, is_within}
use Rattle.game_rules.specs.Playable.{IsPlayable, HasLimits}
use Rattle.game_rules.specs.Belonging.{Belongs, most_redeals}
use Rattle.game_rules.specs.Board.{Board}
use Rattle.game_rules.specs.Play.{Legal, after}
use Rattle.game_rules.specs.Winning.{Line}
use Rattle.game_rules.specs.Order.{legal_moves}
use Rattle.game_rules.specs.StockMoves.{stock_move, after_stock_move, after_stock_moves}
use Rattle.game_rules.specs.NextByStock.{IsNextByStock}
use Rattle.safe_moves.specs.Safe.{first_safe, is_safe}
use Rattle.stock_steps.specs.Steps.{stock_steps, is_from_waste, is_from_elsewhere, other_carries, forced_or}
use Rattle.stock_steps.specs.Steps.{stock_steps_after, steps_from, most_stock_moves, free_steps, steps}
use Rattle.stock_steps.specs.Making.{CanBeMade}
use Rattle.stock_steps.specs.Steps.{stock_moves, expand, after_step}
use Rattle.stock_steps.specs.StockSteps.{IsStockRun, StockStep}
use Rattle.stock_steps.specs.declared.Step.{Step}
use Rattle.game_rules.proofs.Limits.{both, limits_of, numbers_within}
use Rattle.safe_moves.proofs.FirstSafe.{find-passes}
use Rattle.safe_moves.proofs.SafeListed.{legal-from_safe}
use Rattle.stock_steps.proofs.Members.{Mem, Mem-from_Contains, Mem-append, Mem-from_filter}
use Rattle.stock_steps.proofs.LegalListed.{listed_legal}
use Rattle.stock_steps.proofs.StockKin.{size, next_kin, next_cases, one_stock_move}
use Rattle.stock_steps.proofs.StockRuns.{Along, weight, next_is_lighter}
use Rattle.stock_steps.proofs.StockList.{IsStepAt, Mem-from_steps, Mem-from_along, stock_along, run_within}

one_more : (rules : RuleParts) (a : Board) (moves : List Move) (last : Move) (end : Board)
    → (next : IsNextByStock rules a (after_stock_move rules a))
    → Line rules (after_stock_move rules a) (moves ++ last ∷ []) end
    → (found : Option Move) → found ≡ Some next.move → Line rules a (option_to_list found ++ moves ++ last ∷ []) end
one_more rules a moves last end next line None e = cc
one_more rules a moves last end next line (Some move) e =
    let same : move ≡ next.move = cc in
    let legal : Legal rules a next.move = next.legal in
    rw same (legal, subst (λ (x : Board). Line rules x (moves ++ last ∷ []) end) next.is_after line)

stock_line : (rules : RuleParts) (k : ℕ) (board : Board) (last : Move) → (0 < k → IsTrue (deals_to_waste rules.target))
    → ((i : ℕ) → i < k → IsNextByStock rules (after_stock_moves rules i board) (after_stock_moves rules (suc i) board))
    → Legal rules (after_stock_moves rules k board) last
    → Line rules board (stock_moves rules k board ++ last ∷ []) (after rules (after_stock_moves rules k board) last)
stock_line rules zero board last to_waste next legal = (legal, refl)
stock_line rules (suc k) board last to_waste next legal =
    let first : IsNextByStock rules board (after_stock_move rules board) = next 0 (omega arith) in
    one_more rules board (stock_moves rules k (after_stock_move rules board)) last
    (after rules (after_stock_moves rules k (after_stock_move rules board)) last) first
    (stock_line rules k (after_stock_move rules board) last (λ some. to_waste (omega arith))
    (λ i h. next (suc i) (omega arith)) legal)
    (stock_move rules board)
    (one_stock_move rules board first.move (to_waste (omega arith)) first.is_stock_move first.legal)

-- a step that can be made is a line
pub step_line : (rules : RuleParts) (board : Board) (step : Step) → CanBeMade rules board step
    → Line rules board (expand rules board step) (after_step rules board step)
step_line rules board step can = stock_line rules step.deals board step.last can.stock.to_waste can.stock.each can.last

some_draw : (n : ℕ) → IsTrue (is_within 1 10 n) → 1 ≤ n
some_draw n h = grind (arith, nat_tests)

pub playable_draw : (rules : RuleParts) → IsPlayable rules → 1 ≤ rules.draw
playable_draw rules h =
    let to_draw = both _ _ (numbers_within rules h) in
    let to_number = both _ _ to_draw.0 in
    some_draw rules.draw to_number.1

-- the steps of the list can be made

no_stock : (rules : RuleParts) (board : Board) (step : Step) (moves : List Move)
    → ((move : Move) → Mem move moves → Legal rules board move)
    → Mem step (steps_from 0 moves) → CanBeMade rules board step
no_stock rules board step moves legal here =
    let at : (step.deals ≡ 0) × Mem step.last moves = Mem-from_steps 0 step moves here in
    record {
      stock = record { to_waste = λ some. absurd (omega (arith, at.0)); each = λ i h. absurd (omega (arith, at.0)) };
      last = subst (λ (k : ℕ). Legal rules (after_stock_moves rules k board) step.last) (sym at.0)
          (legal step.last at.1);
    }

after_stock : (rules : RuleParts) (board : Board) (step : Step) → IsTrue (deals_to_waste rules.target) → 1 ≤ rules.draw
    → Mem step (stock_steps_after rules (most_stock_moves board) 0 [] board) → CanBeMade rules board step
after_stock rules board step to_waste draws here =
    let found : Along rules (most_stock_moves board) 0 [] board = stock_along rules board draws to_waste in
    let at : IsStepAt rules found.last 0 board step =
    Mem-from_along rules found.last 0 board step (subst (λ (xs : List Step). Mem step xs) found.is_list here) in
    let place : step.deals ≡ at.place = omega (arith, at.is_deals) in
    let kept : IsTrue (is_from_waste step.last)
    × Mem step.last (legal_moves rules (after_stock_moves rules at.place board)) =
    Mem-from_filter is_from_waste step.last (legal_moves rules (after_stock_moves rules at.place board)) at.here in
    record {
      stock = record { to_waste = λ some. to_waste; each = λ i h. found.next i (omega (arith, place, at.within)) };
      last = subst (λ (k : ℕ). Legal rules (after_stock_moves rules k board) step.last) (sym place)
          (listed_legal rules (after_stock_moves rules at.place board) step.last kept.1);
    }

made_by : (rules : RuleParts) (board : Board) (step : Step) (t : Bool)
    → deals_to_waste rules.target ≡ t → 1 ≤ rules.draw
    → Mem step (stock_steps rules board) → CanBeMade rules board step
made_by rules board step true e draws here = after_stock rules board step e draws (rw e at here)
made_by rules board step false e draws here = absurd (let none : Mem step [] = rw e at here in none)

-- each stock step can be made
pub stock_steps-made : (rules : RuleParts) (board : Board) (step : Step) → IsPlayable rules
    → Contains (stock_steps rules board) step
    → CanBeMade rules board step
stock_steps-made rules board step playable here =
    made_by rules board step (deals_to_waste rules.target) refl (playable_draw rules playable)
    (Mem-from_Contains step (stock_steps rules board) here)

filtered_legal : (rules : RuleParts) (board : Board) (test : Move → Bool) (move : Move)
    → Mem move (filter test (legal_moves rules board)) → Legal rules board move
filtered_legal rules board test move here = listed_legal rules board move
    (Mem-from_filter test move (legal_moves rules board) here).1

free_can : (rules : RuleParts) (board : Board) (step : Step) (t : Bool)
    → deals_to_waste rules.target ≡ t → 1 ≤ rules.draw
    → Mem step (free_steps rules board) → CanBeMade rules board step
free_can rules board step true e draws here =
    let listed : Mem step (steps_from 0 (other_carries rules board)
    ++ stock_steps_after rules (most_stock_moves board) 0 [] board) = rw e at here in
    elim (Mem-append step (steps_from 0 (other_carries rules board))
    (stock_steps_after rules (most_stock_moves board) 0 [] board) listed) [
      | inl left ↦ no_stock rules board step (other_carries rules board)
          (filtered_legal rules board is_from_elsewhere) left
      | inr right ↦ after_stock rules board step e draws right
    ]
free_can rules board step false e draws here =
    let listed : Mem step (steps_from 0 (legal_moves rules board)) = rw e at here in
    no_stock rules board step (legal_moves rules board) (listed_legal rules board) listed

one_legal : (rules : RuleParts) (board : Board) (move : Move) → Legal rules board move → (other : Move)
    → Mem other (move ∷ []) → Legal rules board other
one_legal rules board move legal other here = elim here [
  | inl same ↦ subst (λ (m : Move). Legal rules board m) (sym same) legal
  | inr none ↦ absurd none
]

forced_can : (rules : RuleParts) (board : Board) (step : Step) (forced : Option Move)
    → forced ≡ first_safe rules board → 1 ≤ rules.draw
    → Mem step (forced_or forced (free_steps rules board)) → CanBeMade rules board step
forced_can rules board step None e draws here = free_can rules board step (deals_to_waste rules.target) refl draws here
forced_can rules board step (Some move) e draws here =
    let safe : IsTrue (is_safe rules board move) = find-passes (is_safe rules board)
    (legal_moves rules board) move (sym e) in
    no_stock rules board step (move ∷ []) (one_legal rules board move (legal-from_safe rules board move safe)) here

pub steps-made : (rules : RuleParts) (board : Board) (step : Step) → 1 ≤ rules.draw → Contains (steps rules board) step
    → CanBeMade rules board step
steps-made rules board step draws here =
    forced_can rules board step (first_safe rules board) refl draws (Mem-from_Contains step (steps rules board) here)

-- how many stock moves a stock step has

along_weight : (rules : RuleParts) (board : Board) → is_unlimited rules.redeals ≡ false → 1 ≤ rules.draw
    → IsTrue (deals_to_waste rules.target)
    → (k : ℕ) → ((i : ℕ) → i < k → IsNextByStock rules (after_stock_moves rules i board)
    (after_stock_moves rules (suc i) board))
    → (i : ℕ) → i ≤ k → weight (after_stock_moves rules i board) + i ≤ weight board
along_weight rules board counted draws to_waste k next zero h = omega arith
along_weight rules board counted draws to_waste k next (suc i) h =
    let a : Board = after_stock_moves rules i board in
    let b : Board = after_stock_moves rules (suc i) board in
    let step : IsNextByStock rules a b = next i h in
    let lighter : weight b < weight a =
    next_is_lighter rules a b counted draws (next_kin rules a b to_waste step) (next_cases rules a b to_waste step) in
    let before : weight a + i ≤ weight board = along_weight rules board counted draws to_waste k next i (omega arith) in
    omega arith

redeals_most : (redeals : Redeals) → IsTrue (are_redeals_within redeals) → most_redeals redeals ≤ 99
redeals_most (Times n) h = grind (arith, nat_tests)
redeals_most Unlimited h = omega arith

unlimited_none : (redeals : Redeals) → IsTrue (is_unlimited redeals) → most_redeals redeals ≡ 0
unlimited_none (Times n) h = cc
unlimited_none Unlimited h = refl

playable_redeals : (rules : RuleParts) → IsPlayable rules → most_redeals rules.redeals ≤ 99
playable_redeals rules h = redeals_most rules.redeals (both _ _ (numbers_within rules h)).1

weight_most : (r n s : ℕ) → r ≤ 99 → n ≤ 84 → s ≤ n → r * (n + 1) + s ≤ 8499
weight_most r n s hr hn hs =
    let more : n + 1 ≤ 85 = omega arith in
    let product : r * (n + 1) ≤ 99 * 85 = mul-le-mul hr more in
    omega (arith, product)

run_by : (rules : RuleParts) (board : Board) (k : ℕ) (boards : ℕ → Board) (t : Bool) → is_unlimited rules.redeals ≡ t
    → IsPlayable rules
    → Belongs rules board → IsTrue (deals_to_waste rules.target) → IsStockRun rules board k boards → k < 8500
run_by rules board k boards true e playable belongs to_waste run =
    let draws : 1 ≤ rules.draw = playable_draw rules playable in
    let found : Along rules (most_stock_moves board) 0 [] board = stock_along rules board draws to_waste in
    let within : k ≤ found.last = run_within rules board k boards to_waste found run in
    let limits : HasLimits rules = limits_of rules playable in
    let none : board.redeals_left ≡ 0 = omega (arith, belongs.redeals_left, unlimited_none rules.redeals e) in
    let fuel : most_stock_moves board ≡ (length board.stock + length board.waste + 1) * 2 = rw none in
    omega (arith, found.short, belongs.stock, limits.stock)
run_by rules board k boards false e playable belongs to_waste run =
    let draws : 1 ≤ rules.draw = playable_draw rules playable in
    let found : Along rules (most_stock_moves board) 0 [] board = stock_along rules board draws to_waste in
    let within : k ≤ found.last = run_within rules board k boards to_waste found run in
    let limits : HasLimits rules = limits_of rules playable in
    let falls : weight (after_stock_moves rules k board) + k ≤ weight board =
    along_weight rules board e draws to_waste found.last found.next k within in
    let most : weight board ≤ 8499 =
    weight_most board.redeals_left (size board) (length board.stock)
    (omega (arith, belongs.redeals_left, playable_redeals rules playable))
    (omega (arith, belongs.stock, limits.stock)) (omega arith) in
    omega arith

-- a run has fewer than 8,500 stock moves
pub run_short : (rules : RuleParts) (board : Board) (k : ℕ) (boards : ℕ → Board) → IsPlayable rules
    → Belongs rules board
    → IsTrue (deals_to_waste rules.target) → IsStockRun rules board k boards → k < 8500
run_short rules board k boards = run_by rules board k boards (is_unlimited rules.redeals) refl

pub stock_step-deals : (rules : RuleParts) (board : Board) (step : Step) → IsPlayable rules → Belongs rules board
    → StockStep rules board step → step.deals < 8500
stock_step-deals rules board step playable belongs is_step =
    run_short rules board step.deals is_step.boards playable belongs is_step.to_waste is_step.run
