-- What each place of a packed board should have.
use Rattle.std.specs.Prelude.{ℕ, ◌-◌, ◌==◌, nat_lt, List, length, if◌then◌else◌}
use Rattle.std.specs.Option.{option_to_list}
use Rattle.card_piles.specs.declared.Card.{Card}
use Rattle.game_rules.specs.declared.RuleParts.{RuleParts}
use Rattle.game_rules.specs.Board.{Board, pile_at, entry_at, height_at}
use Rattle.packed_state.specs.declared.Shape.{Shape}
use Rattle.packed_state.specs.Packed.{Linked, home_cards}

-- how many places of each kind the board has
abbrev pub shape_of : Board → Shape
shape_of board = record {
  piles = length board.piles;
  cells = length board.cells;
  entries = length board.reserve;
  foundations = length board.heights;
  slots = length board.slots;
}

-- the cards of the board that belong on the place of a number, from the bottom up
abbrev pub cards_due : RuleParts → Board → ℕ → List Card
cards_due rules board p =
    if nat_lt p 20 then (pile_at board p).cards else
    if nat_lt p 36 then option_to_list (entry_at board.cells (p - 20)) else
    if nat_lt p 88 then option_to_list (entry_at board.reserve (p - 36)) else
    if p == 88 then board.waste else
    if p == 89 then board.stock else
    if nat_lt p 106 then home_cards rules (p - 90) (height_at board (p - 90)) else
    if p == 106 then board.hole else option_to_list (entry_at board.slots (p - 107))

-- the packed board with other face-down counts
abbrev pub with_faces : Linked → List ℕ → Linked
with_faces l faces = record l { face_down = faces }
