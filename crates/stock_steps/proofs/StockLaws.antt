-- The laws on stock moves and on the steps of a search, from playable rules and boards that belong to them.
use Rattle.std.proofs.Common.{◌≡◌, ℕ, ◌+◌, Bool, true, false, not, refl, IsTrue, List, [], ◌∷◌, length, arith}
use Rattle.std.proofs.Common.{Some, None}
use Rattle.std.specs.Prelude.{Option}
use Rattle.game_rules.specs.declared.RuleParts.{RuleParts}
use Rattle.game_rules.specs.declared.Move.{Move}
use Rattle.game_rules.specs.declared.Move.TheVariants.{Carry, Deal, Redeal}
use Rattle.game_rules.specs.Rules.{deals_to_waste}
use Rattle.game_rules.specs.Playable.{IsPlayable}
use Rattle.game_rules.specs.Belonging.{Belongs}
use Rattle.game_rules.specs.Board.{Board}
use Rattle.game_rules.specs.Play.{Legal, after}
use Rattle.game_rules.specs.Order.{legal_moves}
use Rattle.game_rules.specs.Winning.{Line, Won, Wins}
use Rattle.game_rules.specs.StockMoves.{is_carry, after_stock_moves}
use Rattle.game_rules.proofs.KeepsBelonging.{belongs-after}
use Rattle.game_rules.proofs.StockMoves.{belongs-after_stock_moves}
use Rattle.game_rules.proofs.MovesListed.{Contains-here}
use Rattle.safe_moves.specs.Safe.{first_safe, is_safe}
use Rattle.safe_moves.proofs.FirstSafe.{find-passes}
use Rattle.safe_moves.proofs.SafeExchange.{exchange}
use Rattle.stock_steps.specs.declared.Step.{Step}
use Rattle.stock_steps.specs.Steps.{after_step, after_steps, expand, expand_trail}
use Rattle.stock_steps.specs.Making.{CanAllBeMade, CanBeMade}
use Rattle.stock_steps.specs.Steps.{is_from_elsewhere, is_from_waste}
use Rattle.stock_steps.specs.StockSteps.{Commute, HasWinningStep}
use Rattle.stock_steps.proofs.StockCommutes.{carry_first}
use Rattle.stock_steps.proofs.StepLines.{playable_draw, step_line}
use Rattle.stock_steps.proofs.Lines.{line-append, wins-after}
use Rattle.stock_steps.proofs.Descent.{descent}

not_true : (b : Bool) → IsTrue (not b) → b ≡ false
not_true true h = cc
not_true false h = refl

pub may_change : (rules : RuleParts) (board : Board) (stock carry : Move) → IsTrue (deals_to_waste rules.target)
    → IsTrue (not (is_carry stock)) → IsTrue (is_from_elsewhere carry)
    → Legal rules board stock → Legal rules (after rules board stock) carry → Commute rules board stock carry
may_change rules board stock (Carry from to count) to_waste is_stock is_other stock_legal legal =
    carry_first rules board stock from to count to_waste is_stock stock_legal
    (not_true (is_from_waste (Carry from to count)) is_other) legal
may_change rules board stock Deal to_waste is_stock is_other stock_legal legal = cc
may_change rules board stock Redeal to_waste is_stock is_other stock_legal legal = cc

pub wins_by_step : (rules : RuleParts) (n : ℕ) (board : Board) (step : Step) → CanBeMade rules board step
    → Wins rules n (after_step rules board step) → Wins rules (length (expand rules board step) + n) board
wins_by_step rules n board step can wins =
    wins-after rules n board (after_step rules board step) (expand rules board step)
    (step_line rules board step can) wins

-- a board with a safe move wins by it, and one without by its free steps
descent_by : (rules : RuleParts) (n : ℕ) (board : Board) (forced : Option Move) → first_safe rules board ≡ forced
    → IsPlayable rules
    → Belongs rules board → (Won rules board → ⊥) → Wins rules (n + 1) board → HasWinningStep rules n board
descent_by rules n board None e playable belongs open_board wins =
    descent rules n board (playable_draw rules playable) open_board e wins
descent_by rules n board (Some move) e playable belongs open_board wins =
    let safe : IsTrue (is_safe rules board move) = find-passes (is_safe rules board) (legal_moves rules board) move e in
    record {
      step = record { deals = 0; last = move };
      listed = rw e (Contains-here (record { deals = 0; last = move }) []);
      wins = exchange rules board move n playable belongs safe wins;
    }

pub lose_no_win : (rules : RuleParts) (n : ℕ) (board : Board) → IsPlayable rules → Belongs rules board
    → (Won rules board → ⊥) → Wins rules (n + 1) board → HasWinningStep rules n board
lose_no_win rules n board = descent_by rules n board (first_safe rules board) refl

-- the board after a step belongs to the rules
pub belongs-after_step : (rules : RuleParts) (board : Board) (step : Step) → IsPlayable rules → Belongs rules board
    → CanBeMade rules board step → Belongs rules (after_step rules board step)
belongs-after_step rules board step playable belongs can =
    belongs-after rules (after_stock_moves rules step.deals board) step.last playable
    (belongs-after_stock_moves rules step.deals board playable belongs can.stock step.deals (omega arith)) can.last

-- steps one after the other are a line
pub trail_line : (rules : RuleParts) (board : Board) (trail : List Step) → CanAllBeMade rules board trail
    → Line rules board (expand_trail rules board trail) (after_steps rules board trail)
trail_line rules board [] made = refl
trail_line rules board (step ∷ steps) made =
    line-append rules board (after_step rules board step) (after_steps rules (after_step rules board step) steps)
    (expand rules board step) (expand_trail rules (after_step rules board step) steps)
    (step_line rules board step made.0) (trail_line rules (after_step rules board step) steps made.1)
