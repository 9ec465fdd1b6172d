-- Every win has a step that comes nearer to it, and boards that count as the same win alike.
use Rattle.std.proofs.Common.{ℕ, suc, ◌≤◌, List, [], ◌∷◌, length, refl, subst, arith, Contains}
use Rattle.std.specs.Prelude.{nat_eq}
use Rattle.std.specs.Cmp.Lexicographic.{pointwise}
use Rattle.trails.specs.Complete.{IsComplete, IsReached}
use Rattle.game_rules.specs.declared.RuleParts.{RuleParts}
use Rattle.game_rules.specs.declared.Move.{Move}
use Rattle.game_rules.specs.Playable.{IsPlayable}
use Rattle.game_rules.specs.Board.{Board}
use Rattle.game_rules.specs.Winning.{Won, Line, Wins}
use Rattle.game_rules.specs.Belonging.{Belongs}
use Rattle.stock_steps.specs.declared.Step.{Step}
use Rattle.stock_steps.specs.Steps.{after_step, steps}
use Rattle.stock_steps.specs.StockSteps.{HasWinningStep}
use Rattle.stock_steps.proofs.StockLaws.{lose_no_win}
use Rattle.same_boards.specs.Same.{Same}
use Rattle.same_boards.proofs.SameWins.{same-wins}
use Rattle.dfs_core.specs.Play.{game_of}
use Rattle.search_space.specs.Game.{plain_game}
use Rattle.search_space.specs.Plain.{play_of}
use Rattle.search_space.proofs.Alike.{keys-compared}
use Rattle.search_space.proofs.Reached.{by_steps, reached-belongs}

won-at_once : (rules : RuleParts) (board last : Board) (moves : List Move) → length moves ≤ 0
    → Line rules board moves last → Won rules last → Won rules board
won-at_once rules board last [] short line won = subst (Won rules) line won
won-at_once rules board last (move ∷ moves) short line won = absurd (omega (arith, short))

nearer-by_steps : (rules : RuleParts) (n : ℕ) (board : Board) → IsPlayable rules → Belongs rules board
    → (¬ Won rules board)
    → Wins rules (suc n) board → (t : Step) × Contains (steps rules board) t × Wins rules n (after_step rules board t)
nearer-by_steps rules n board playable belongs not_won wins =
    let found : HasWinningStep rules n board =
    lose_no_win rules n board playable belongs not_won (subst (λ (k : ℕ). Wins rules k board) (omega arith) wins) in
    (found.step, found.listed, found.wins)

-- a game of these steps is complete where no boards count as the same but those that are
complete-up_to_same : (rules : RuleParts) (Counts : Board → Board → Type 0) (start : Board) → IsPlayable rules
    → Belongs rules start
    → ((a b : Board) → Belongs rules a → Belongs rules b → Counts a b → Same rules a b)
    → IsComplete (by_steps rules (Won rules) Counts) (Wins rules) start
complete-up_to_same rules Counts start playable belongs are =
    let is : (board : Board) → IsReached (by_steps rules (Won rules) Counts) start board → Belongs rules board =
    λ board reached. reached-belongs rules (Won rules) Counts playable start board belongs reached in
    record {
      none = λ s reached wins. won-at_once rules s wins.end wins.moves wins.short wins.line wins.won;
      won = λ s reached is_won. record { moves = []; end = s; short = omega arith; line = refl; won = is_won };
      alike = λ n s t reached reached' counts wins.
          same-wins rules s t n playable (is s reached) (is t reached')
          (are s t (is s reached) (is t reached') counts) wins;
      nearer = λ n s reached not_won wins. nearer-by_steps rules n s playable (is s reached) not_won wins;
    }

-- up to the same boards
pub plain_game-is_complete : (rules : RuleParts) (start : Board) → IsPlayable rules → Belongs rules start
    → IsComplete (plain_game rules) (Wins rules) start
plain_game-is_complete rules start playable belongs =
    complete-up_to_same rules (Same rules) start playable belongs (λ a b belongs_a belongs_b same. same)

-- and up to equal keys
pub play_of-is_complete : (rules : RuleParts) (start : Board) → IsPlayable rules → Belongs rules start
    → IsComplete (game_of (play_of rules) (pointwise nat_eq)) (Wins rules) start
play_of-is_complete rules start playable belongs =
    let game = game_of (play_of rules) (pointwise nat_eq) in
    complete-up_to_same rules game.Same start playable belongs
    (λ a b belongs_a belongs_b. (keys-compared rules a b playable belongs_a belongs_b).0)
