-- Moves that are steps of their own, one more at a time.
use Rattle.std.proofs.Common.{◌≡◌, ℕ, ◌+◌, ◌<◌, Bool, true, false, ◌||◌, List, [], ◌∷◌, ◌++◌, length, map, take, get_or}
use Rattle.std.proofs.Common.{refl, ap, sym, ◌∙◌, append_assoc, append-nil}
use Rattle.std.specs.List.{filter}
use Rattle.std.proofs.lemmas.List.{take_more, map-append}
use Rattle.std.proofs.lemmas.List.Elements.{filter-append}
use Rattle.game_rules.specs.declared.Move.{Move}
use Rattle.stock_steps.specs.declared.Step.{Step}
use Rattle.game_rules.specs.declared.RuleParts.{RuleParts}
use Rattle.game_rules.specs.Rules.{deals_to_waste}
use Rattle.game_rules.specs.Board.{Board}
use Rattle.game_rules.specs.Order.{legal_moves}
use Rattle.stock_steps.specs.Steps.{free_steps, is_from_elsewhere, steps_from}

filter_one : (test : Move → Bool) (move : Move) (t : Bool) → test move ≡ t
    → filter test (move ∷ []) ≡ (elim t [ true ↦ move ∷ [] | false ↦ [] ])
filter_one test move true e = rw e refl
filter_one test move false e = rw e refl

more : (test : Move → Bool) (moves : List Move) (i : ℕ) (d : Move) → i < length moves
    → steps_from 0 (filter test (take (i + 1) moves)) ≡ steps_from 0 (filter test (take i moves))
    ++ steps_from 0 (filter test (get_or moves i d ∷ []))
more test moves i d within =
    ap (λ (ms : List Move). steps_from 0 (filter test ms)) (take_more moves i d within)
    ∙ ap (steps_from 0) (filter-append test (take i moves) (get_or moves i d ∷ []))
    ∙ map-append (λ (move : Move). record { deals = 0; last = move }) (filter test (take i moves))
    (filter test (get_or moves i d ∷ []))

-- a move that passes is one step more
pub singles-more : (test : Move → Bool) (moves : List Move) (i : ℕ) (d : Move) → i < length moves
    → test (get_or moves i d) ≡ true
    → steps_from 0 (filter test (take (i + 1) moves)) ≡ steps_from 0 (filter test (take i moves))
    ++ steps_from 0 (get_or moves i d ∷ [])
singles-more test moves i d within passes =
    more test moves i d within
    ∙ ap (λ (ms : List Move). steps_from 0 (filter test (take i moves)) ++ steps_from 0 ms)
    (filter_one test (get_or moves i d) true passes)

-- and one that fails is none
pub singles-none : (test : Move → Bool) (moves : List Move) (i : ℕ) (d : Move) → i < length moves
    → test (get_or moves i d) ≡ false
    → steps_from 0 (filter test (take (i + 1) moves)) ≡ steps_from 0 (filter test (take i moves))
singles-none test moves i d within fails =
    more test moves i d within
    ∙ ap (λ (ms : List Move). steps_from 0 (filter test (take i moves)) ++ steps_from 0 ms)
    (filter_one test (get_or moves i d) false fails)
    ∙ append-nil (steps_from 0 (filter test (take i moves)))

-- a test that all moves pass keeps them
pub filter-all : (test : Move → Bool) (moves : List Move) → ((move : Move) → test move ≡ true)
    → filter test moves ≡ moves
filter-all test [] passes = refl
filter-all test (move ∷ moves) passes = rw (passes move)
    (ap (λ (ms : List Move). move ∷ ms) (filter-all test moves passes))

-- the free steps of a stock that does not deal to the waste
pub all-free : (rules : RuleParts) (board : Board) → deals_to_waste rules.target ≡ false
    → steps_from 0 (filter (λ m. true || is_from_elsewhere m) (legal_moves rules board)) ≡ free_steps rules board
all-free rules board other =
    rw other (ap (steps_from 0) (filter-all (λ m. true || is_from_elsewhere m) (legal_moves rules board) (λ m. refl)))
