-- The order of moves as a relation. What the program promises does not rest on this page.
use Rattle.std.specs.Prelude.{ℕ, Bool, true, false, ◌==◌, ◌&&◌, ◌||◌, nat_lt, IsTrue}
use Rattle.game_rules.specs.declared.Move.{Move}
use Rattle.game_rules.specs.declared.Move.TheVariants.{Carry, Deal, Redeal}
use Rattle.game_rules.specs.declared.Place.{Place}
use Rattle.game_rules.specs.declared.Place.TheVariants.{Tableau, Cell, Reserve, Waste, Foundation, Hole, Slot}
use Rattle.game_rules.specs.Play.{number_of_place, same_place}

-- the kinds of places that cards are put on, by their order
abbrev pub target_rank : Place → ℕ
target_rank (Foundation f) = 0
target_rank Hole = 1
target_rank (Slot i) = 2
target_rank (Tableau i) = 3
target_rank (Cell i) = 4
target_rank (Reserve i) = 5
target_rank Waste = 6

-- the kinds of places that cards are taken from, by their order
abbrev pub source_rank : Place → ℕ
source_rank (Tableau i) = 0
source_rank (Cell i) = 1
source_rank (Reserve i) = 2
source_rank Waste = 3
source_rank (Foundation f) = 4
source_rank (Slot i) = 5
source_rank Hole = 6

-- whether a place stands before another: by the kind, then by the number
abbrev pub is_place_before : (Place → ℕ) → Place → Place → Bool
is_place_before rank a b =
    nat_lt (rank a) (rank b) || ((rank a == rank b) && nat_lt (number_of_place a) (number_of_place b))

-- whether a move stands before another in the order of moves: carries by `to`, then by `from`, then
-- by count; then Deal; then Redeal
abbrev pub is_before : Move → Move → Bool
is_before (Carry from to count) (Carry from' to' count') =
    is_place_before target_rank to to'
    || (same_place to to'
    && (is_place_before source_rank from from' || (same_place from from' && nat_lt count count')))
is_before (Carry from to count) Deal = true
is_before (Carry from to count) Redeal = true
is_before Deal Redeal = true
is_before Deal (Carry from to count) = false
is_before Deal Deal = false
is_before Redeal move = false

-- the one move stands before the other
abbrev pub Before : Move → Move → Type 0
Before a b = IsTrue (is_before a b)
