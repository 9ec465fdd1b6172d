-- The parts of a board that are lists of cards.
use Rattle.std.specs.Prelude.{◌<◌, List, length}
use Rattle.card_piles.specs.declared.Card.{Card}
use Rattle.game_rules.specs.Board.{Board, pile_at}
use Rattle.packed_state.specs.declared.Spot.{Spot}
use Rattle.packed_state.specs.declared.Spot.TheVariants as spot
use Rattle.pile_symmetry.specs.declared.Part.{Part}
use Rattle.pile_symmetry.specs.declared.Part.TheVariants.{Pile, Stock, Waste, Hole}

-- the cards of a part, from the bottom up
abbrev pub cards_of : Board → Part → List Card
cards_of board (Pile i) = (pile_at board i).cards
cards_of board Stock = board.stock
cards_of board Waste = board.waste
cards_of board Hole = board.hole

-- the board has the part
abbrev pub HasPart : Board → Part → Type 0
HasPart board (Pile i) = i < length board.piles
HasPart board Stock = Unit
HasPart board Waste = Unit
HasPart board Hole = Unit

-- the part by the name that a packed board has for it
abbrev pub spot_of : Part → Spot
spot_of (Pile i) = spot.Pile i
spot_of Stock = spot.Stock
spot_of Waste = spot.Waste
spot_of Hole = spot.Hole
