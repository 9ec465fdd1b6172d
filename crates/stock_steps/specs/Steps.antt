-- The steps of a board in their order, and the single moves of a step.
use Rattle.std.specs.Prelude.{ℕ, zero, suc, ◌+◌, ◌*◌, Bool, true, false, ◌==◌, ◌&&◌, not, List, [], ◌∷◌, ◌++◌, map}
use Rattle.std.specs.Prelude.{length, Option, Some, None, if◌then◌else◌}
use Rattle.std.specs.List.{filter, list_any}
use Rattle.std.specs.Option.{option_to_list}
use Rattle.card_piles.specs.declared.Card.{Card}
use Rattle.card_piles.specs.Cards.{number_of}
use Rattle.game_rules.specs.declared.RuleParts.{RuleParts}
use Rattle.game_rules.specs.declared.Move.{Move}
use Rattle.game_rules.specs.declared.Move.TheVariants.{Carry, Deal, Redeal}
use Rattle.game_rules.specs.declared.Place.TheVariants.{Tableau, Cell, Reserve, Waste, Foundation, Hole, Slot}
use Rattle.game_rules.specs.Rules.{deals_to_waste}
use Rattle.game_rules.specs.Board.{Board}
use Rattle.game_rules.specs.Play.{after}
use Rattle.game_rules.specs.Order.{legal_moves}
use Rattle.game_rules.specs.StockMoves.{is_carry, stock_move, after_stock_move, after_stock_moves}
use Rattle.safe_moves.specs.Safe.{first_safe}
use Rattle.stock_steps.specs.declared.Step.{Step}

-- The single moves of a step.

-- so many stock moves, each the next one of the board where it is made
abbrev pub stock_moves : RuleParts → ℕ → Board → List Move
stock_moves rules zero board = []
stock_moves rules (suc k) board = option_to_list (stock_move rules board)
    ++ stock_moves rules k (after_stock_move rules board)

-- the single moves of a step: its stock moves, and then its last move
abbrev pub expand : RuleParts → Board → Step → List Move
expand rules board step = stock_moves rules step.deals board ++ step.last ∷ []

-- the board after a step
abbrev pub after_step : RuleParts → Board → Step → Board
after_step rules board step = after rules (after_stock_moves rules step.deals board) step.last

-- the single moves of a list of steps, each step's on the board where it is made, one after the other
abbrev pub expand_trail : RuleParts → Board → List Step → List Move
expand_trail rules board [] = []
expand_trail rules board (step ∷ steps) = expand rules board step
    ++ expand_trail rules (after_step rules board step) steps

-- the board after a list of steps
abbrev pub after_steps : RuleParts → Board → List Step → Board
after_steps rules board [] = board
after_steps rules board (step ∷ steps) = after_steps rules (after_step rules board step) steps

-- The steps of a board.

-- whether the move is a carry from the waste
abbrev pub is_from_waste : Move → Bool
is_from_waste (Carry (Tableau i) to count) = false
is_from_waste (Carry (Cell i) to count) = false
is_from_waste (Carry (Reserve i) to count) = false
is_from_waste (Carry Waste to count) = true
is_from_waste (Carry (Foundation f) to count) = false
is_from_waste (Carry Hole to count) = false
is_from_waste (Carry (Slot i) to count) = false
is_from_waste Deal = false
is_from_waste Redeal = false

-- whether the move is a carry from another place than the waste
abbrev pub is_from_elsewhere : Move → Bool
is_from_elsewhere move = is_carry move && not (is_from_waste move)

-- the legal carries from the waste, in the order of moves
abbrev pub waste_carries : RuleParts → Board → List Move
waste_carries rules board = filter is_from_waste (legal_moves rules board)

-- the legal carries from other places, in the order of moves
abbrev pub other_carries : RuleParts → Board → List Move
other_carries rules board = filter is_from_elsewhere (legal_moves rules board)

-- the moves, each as the last one after so many stock moves
abbrev pub steps_from : ℕ → List Move → List Step
steps_from deals moves = map (λ move. record { deals = deals; last = move }) moves

-- whether two lists hold the same cards in the same order
abbrev pub same_cards : List Card → List Card → Bool
same_cards [] [] = true
same_cards [] (y ∷ ys) = false
same_cards (x ∷ xs) [] = false
same_cards (x ∷ xs) (y ∷ ys) = (number_of x == number_of y) && same_cards xs ys

-- whether stock, waste and redeals agree; stock moves change nothing else
abbrev pub same_stock : Board → Board → Bool
same_stock a b =
    same_cards a.stock b.stock && same_cards a.waste b.waste && (a.redeals_left == b.redeals_left)

-- the board after its next stock move, if it has one that leads to none of the boards seen
abbrev pub next_stock_board : RuleParts → List Board → Board → Option Move → Option Board
next_stock_board rules seen board None = None
next_stock_board rules seen board (Some move) =
    if list_any (same_stock (after rules board move)) (board ∷ seen) then None else Some (after rules board move)

-- the stock steps by their number of stock moves, from the board after `deals` of them.
-- `most` bounds the stock moves: no board has so many with no board twice
abbrev pub stock_steps_after : RuleParts → ℕ → ℕ → List Board → Board → List Step
stock_steps_after rules zero deals seen board = steps_from deals (waste_carries rules board)
stock_steps_after rules (suc most) deals seen board =
    steps_from deals (waste_carries rules board)
    ++ elim (next_stock_board rules seen board (stock_move rules board)) [
      | None ↦ []
      | Some next ↦ stock_steps_after rules most (deals + 1) (board ∷ seen) next
    ]

-- a bound on the stock moves with no board twice
abbrev pub most_stock_moves : Board → ℕ
most_stock_moves board = (length board.stock + length board.waste + 1) * (board.redeals_left + 2)

-- all stock steps of a board, by their number of stock moves and then in the order of moves; none
-- where the stock does not deal to the waste
abbrev pub stock_steps : RuleParts → Board → List Step
stock_steps rules board =
    if deals_to_waste rules.target then stock_steps_after rules (most_stock_moves board) 0 [] board else []

-- the steps of a board without a safe move: all legal moves, and where the stock deals to the waste
-- the legal carries from other places than the waste, and then the stock steps
abbrev pub free_steps : RuleParts → Board → List Step
free_steps rules board =
    if deals_to_waste rules.target
    then steps_from 0 (other_carries rules board) ++ stock_steps rules board
    else steps_from 0 (legal_moves rules board)

-- the forced move alone, if there is one, else these steps
abbrev pub forced_or : Option Move → List Step → List Step
forced_or None others = others
forced_or (Some move) others = record { deals = 0; last = move } ∷ []

-- the steps of a board in their order: its first safe move alone, if it has one, else its free steps
abbrev pub steps : RuleParts → Board → List Step
steps rules board = forced_or (first_safe rules board) (free_steps rules board)
