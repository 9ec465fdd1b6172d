-- Boards that are the same up to the suits of a colour, and the keys that tell no more.
use Rattle.std.specs.Prelude.{◌≡◌, ℕ, List, ◌++◌, map, length, MatchBool, Option, Some, None, if◌then◌else◌}
use Rattle.std.specs.List.Sorted.{IsPermutation}
use Rattle.card_piles.specs.declared.Suit.TheVariants.{Clubs, Diamonds}
use Rattle.card_piles.specs.declared.Card.{Card}
use Rattle.card_piles.specs.Cards.{is_red}
use Rattle.game_rules.specs.declared.RuleParts.{RuleParts}
use Rattle.game_rules.specs.Board.{Board, Pile, top_of}
use Rattle.game_rules.specs.Winning.{rows_of}
use Rattle.same_boards.specs.Same.{keeps_pile_order, heights_of_suit}

-- two boards that differ in the order of like places, and maybe in the heights of their foundations
pub record SameCards (rules : RuleParts) (a b : Board) : Type 0 where
  pub stock : a.stock ≡ b.stock
  pub waste : a.waste ≡ b.waste
  pub redeals_left : a.redeals_left ≡ b.redeals_left
  pub hole_size : length a.hole ≡ length b.hole
  pub hole_top : top_of a.hole ≡ top_of b.hole
  pub cells : IsPermutation a.cells b.cells
  pub reserve : MatchBool rules.stacked (a.reserve ≡ b.reserve) (IsPermutation a.reserve b.reserve)
  pub rows : IsPermutation (rows_of rules a) (rows_of rules b)
  pub piles : MatchBool (keeps_pile_order rules a) (a.piles ≡ b.piles) (IsPermutation a.piles b.piles)

-- the card as its colour and rank: the card of clubs or of diamonds that has both
abbrev pub coloured : Card → Card
coloured card = record { suit = if is_red card.suit then Diamonds else Clubs; rank = card.rank }

-- the entry with its card, if it has one, as its colour and rank
abbrev pub coloured_entry : Option Card → Option Card
coloured_entry None = None
coloured_entry (Some card) = Some (coloured card)

-- the pile with each card as its colour and rank
abbrev pub coloured_pile : Pile → Pile
coloured_pile pile = record { cards = map coloured pile.cards; face_down = pile.face_down }

-- the board with each card as its colour and rank
abbrev pub coloured_board : Board → Board
coloured_board board = record board {
  piles = map coloured_pile board.piles;
  cells = map coloured_entry board.cells;
  reserve = map coloured_entry board.reserve;
  stock = map coloured board.stock;
  waste = map coloured board.waste;
  hole = map coloured board.hole;
  slots = map coloured_entry board.slots;
}

-- the heights of the black foundations
abbrev pub black_heights : RuleParts → Board → List ℕ
black_heights rules board = heights_of_suit rules board 0 ++ heights_of_suit rules board 3

-- the heights of the red foundations
abbrev pub red_heights : RuleParts → Board → List ℕ
red_heights rules board = heights_of_suit rules board 1 ++ heights_of_suit rules board 2

-- two boards that are the same where cards of one colour and rank count as equal
pub record SameColours (rules : RuleParts) (a b : Board) : Type 0 where
  pub cards : SameCards rules (coloured_board a) (coloured_board b)
  pub black : IsPermutation (black_heights rules a) (black_heights rules b)
  pub red : IsPermutation (red_heights rules a) (red_heights rules b)
