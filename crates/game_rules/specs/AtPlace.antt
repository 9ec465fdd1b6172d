-- What a board has at a place. What the program promises does not rest on this page.
use Rattle.std.specs.Prelude.{ℕ, Bool, true, length, nat_lt, nat_le}
use Rattle.game_rules.specs.declared.Place.{Place}
use Rattle.game_rules.specs.declared.Place.TheVariants.{Tableau, Cell, Reserve, Waste, Foundation, Hole, Slot}
use Rattle.game_rules.specs.Board.{Board, pile_at, height_at}

-- whether the board has an entry for the place
abbrev pub has_entry : Board → Place → Bool
has_entry board (Tableau i) = nat_lt i (length board.piles)
has_entry board (Cell i) = nat_lt i (length board.cells)
has_entry board (Reserve i) = true
has_entry board Waste = true
has_entry board (Foundation f) = nat_lt f (length board.heights)
has_entry board Hole = true
has_entry board (Slot i) = nat_lt i (length board.slots)

-- the height of a foundation, and 0 of another place
abbrev pub number_at : Board → Place → ℕ
number_at board (Tableau i) = 0
number_at board (Cell i) = 0
number_at board (Reserve i) = 0
number_at board Waste = 0
number_at board (Foundation f) = height_at board f
number_at board Hole = 0
number_at board (Slot i) = 0

-- whether a pile has so many cards; other places have no condition
abbrev pub has_cards : Board → Place → ℕ → Bool
has_cards board (Tableau i) count = nat_le count (length (pile_at board i).cards)
has_cards board from count = true
