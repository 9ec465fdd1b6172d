-- How many cards a board has. What the program promises does not rest on this page.
use Rattle.std.specs.Prelude.{ℕ, ◌+◌, ◌≤◌, length, is_some}
use Rattle.std.specs.List.{count_by, sum_by, sum}
use Rattle.game_rules.specs.Board.{Board, pile_at}

-- how many cards there are in all places of a board together
abbrev pub card_count : Board → ℕ
card_count board =
    sum_by (λ pile. length pile.cards) board.piles
    + count_by (λ e. is_some e) board.cells
    + count_by (λ e. is_some e) board.reserve
    + length board.stock
    + length board.waste
    + sum board.heights
    + length board.hole
    + count_by (λ e. is_some e) board.slots

-- what the number of cards says of each place: a number of cards is a byte, and more
pub record HasFewCards (board : Board) : Type 0 where
  pub all : card_count board ≤ 104
  pub piles : (i : ℕ) → length (pile_at board i).cards ≤ 104
  pub reserve : length board.reserve ≤ 52
  pub stock : length board.stock ≤ 104
  pub waste : length board.waste ≤ 104
  pub hole : length board.hole ≤ 104
