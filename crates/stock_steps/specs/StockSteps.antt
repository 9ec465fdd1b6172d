-- Stock steps as a relation in the words of the game, and what the laws say of them.
use Rattle.std.specs.Prelude.{◌≡◌, ◌≢◌, ◌⊎◌, ℕ, suc, ◌<◌, ◌≤◌, List, [], length, IsTrue}
use Rattle.std.specs.List.{Contains, flat_map, range_with_len}
use Rattle.game_rules.specs.declared.RuleParts.{RuleParts}
use Rattle.game_rules.specs.declared.Move.{Move}
use Rattle.game_rules.specs.Rules.{deals_to_waste}
use Rattle.game_rules.specs.Board.{Board}
use Rattle.game_rules.specs.Play.{Legal, after}
use Rattle.game_rules.specs.Winning.{Wins}
use Rattle.game_rules.specs.NextByStock.{IsNextByStock}
use Rattle.stock_steps.specs.declared.Step.{Step}
use Rattle.stock_steps.specs.Steps.{after_step, is_from_waste, steps, steps_from, waste_carries}

-- the boards 0 to k, from the given board on, each after a legal stock move on the one before it, and no two alike
pub record IsStockRun (rules : RuleParts) (board : Board) (k : ℕ) (boards : ℕ → Board) : Type 0 where
  pub first : boards 0 ≡ board
  pub next : (i : ℕ) → i < k → IsNextByStock rules (boards i) (boards (suc i))
  pub apart : (i j : ℕ) → i < j → j ≤ k → boards i ≢ boards j

-- stock moves with no board twice, and then a legal carry from the waste
pub record StockStep (rules : RuleParts) (board : Board) (step : Step) : Type 0 where
  pub to_waste : IsTrue (deals_to_waste rules.target)
  pub boards : ℕ → Board
  pub run : IsStockRun rules board step.deals boards
  pub from_waste : IsTrue (is_from_waste step.last)
  pub legal : Legal rules (boards step.deals) step.last

-- the run cannot go on: each stock move of its last board leads to a board of the run
pub record IsWholeRun (rules : RuleParts) (board : Board) (k : ℕ) (boards : ℕ → Board) : Type 0 where
  pub run : IsStockRun rules board k boards
  pub closed : (next : Board) → IsNextByStock rules (boards k) next → (i : ℕ) × (i ≤ k) × (boards i ≡ next)

-- the list goes along a whole run, and has for each of its boards the legal carries from the waste in their order
pub record IsAlongRun (rules : RuleParts) (board : Board) (found : List Step) : Type 0 where
  pub last : ℕ
  pub boards : ℕ → Board
  pub whole : IsWholeRun rules board last boards
  pub is_list : found ≡ flat_map (λ k. steps_from k (waste_carries rules (boards k))) (range_with_len 0 (suc last))

-- the board is one of the boards 0 to k
abbrev pub StandsBefore : (ℕ → Board) → ℕ → Board → Type 0
StandsBefore boards k next = (j : ℕ) × (j ≤ k) × (boards j ≡ next)

-- the stock is as long as at first, or it is empty as it was at one of the boards 0 to k
abbrev pub ComesAgain : Board → (ℕ → Board) → ℕ → Board → Type 0
ComesAgain board boards k next =
    (length next.stock ≡ length board.stock) ⊎ (next.stock ≡ []) × ((j : ℕ) × (j ≤ k) × ((boards j).stock ≡ []))

-- some run with no board twice leads to the board
pub record IsReached (rules : RuleParts) (board reached : Board) : Type 0 where
  pub moves : ℕ
  pub boards : ℕ → Board
  pub run : IsStockRun rules board moves boards
  pub last : boards moves ≡ reached

-- a stock move and a carry may change their order: the carry is legal before the stock move, the stock move is legal
-- after the carry, and both orders lead to one board
pub record Commute (rules : RuleParts) (board : Board) (stock carry : Move) : Type 0 where
  pub carry_legal : Legal rules board carry
  pub stock_legal : Legal rules (after rules board carry) stock
  pub same : after rules (after rules board carry) stock ≡ after rules (after rules board stock) carry

-- some step of the board leads to a board that wins within n
pub record HasWinningStep (rules : RuleParts) (n : ℕ) (board : Board) : Type 0 where
  pub step : Step
  pub listed : Contains (steps rules board) step
  pub wins : Wins rules n (after_step rules board step)
