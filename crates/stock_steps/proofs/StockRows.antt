-- Stock steps of small games, worked out by the definitions alone.
use Rattle.std.proofs.Common.{◌≡◌, ℕ, false, List, [], ◌∷◌, refl}
use Rattle.card_piles.specs.declared.Card.{Card}
use Rattle.card_piles.specs.declared.Suit.TheVariants.{Clubs, Diamonds, Hearts, Spades}
use Rattle.game_rules.specs.declared.RuleParts.{RuleParts}
use Rattle.game_rules.specs.declared.Redeals.{Redeals}
use Rattle.game_rules.specs.declared.Redeals.TheVariants.{Times, Unlimited}
use Rattle.game_rules.specs.declared.Move.TheVariants.{Carry, Deal, Redeal}
use Rattle.game_rules.specs.declared.Place.TheVariants.{Foundation, Waste}
use Rattle.game_rules.specs.Board.{Board}
use Rattle.game_rules.proofs.SmallWords.{board_of, card, plain}
use Rattle.stock_steps.specs.declared.Step.{Step}
use Rattle.stock_steps.specs.Steps.{expand, steps}

-- rules with a stock of four cards
abbrev stock_rules : ℕ → ℕ → Redeals → RuleParts
stock_rules max_rank draw redeals = record (plain max_rank 0) { stock = 4; draw = draw; redeals = redeals }

-- a board of stock, waste and foundations
abbrev stocked : List Card → List Card → ℕ → List ℕ → Board
stocked stock waste redeals_left heights =
    record (board_of [] heights) { stock = stock; waste = waste; redeals_left = redeals_left }

-- a step whose last move brings the waste's top to a foundation
abbrev home : ℕ → ℕ → Step
home deals f = record { deals = deals; last = Carry Waste (Foundation f) 1 }

-- ace, three and two of clubs under one redeal: the ace is on top after three deals, and after the redeal and three
-- more
abbrev three_clubs : ℕ → Board
three_clubs redeals_left = stocked (card Clubs 1 ∷ card Clubs 3 ∷ card Clubs 2 ∷ []) [] redeals_left
    (0 ∷ 3 ∷ 3 ∷ 3 ∷ [])

pub one_redeal-steps : steps (stock_rules 3 1 (Times 1)) (three_clubs 1) ≡ home 3 0 ∷ home 7 0 ∷ []
one_redeal-steps = refl

pub one_redeal-moves : expand (stock_rules 3 1 (Times 1)) (three_clubs 1) (home 7 0)
    ≡ Deal ∷ Deal ∷ Deal ∷ Redeal ∷ Deal ∷ Deal ∷ Deal ∷ Carry Waste (Foundation 0) 1 ∷ []
one_redeal-moves = refl

-- with unlimited redeals the first redeal leads to the first board again
pub unlimited-steps : steps (stock_rules 3 1 Unlimited) (three_clubs 0) ≡ home 3 0 ∷ []
unlimited-steps = refl

-- two aces in the stock and two in the waste. By twos the second pass comes to the first board;
-- by threes it shows one ace more and ends where the stock is empty again
abbrev half_way : Board
half_way = stocked (card Hearts 1 ∷ card Spades 1 ∷ []) (card Diamonds 1 ∷ card Clubs 1 ∷ []) 0 (0 ∷ 0 ∷ 0 ∷ 0 ∷ [])

pub by_twos-steps : steps (stock_rules 1 2 Unlimited) half_way ≡ home 0 0 ∷ home 1 2 ∷ []
by_twos-steps = refl

pub by_threes-steps : steps (stock_rules 1 3 Unlimited) half_way ≡ home 0 0 ∷ home 1 2 ∷ home 3 3 ∷ []
by_threes-steps = refl
