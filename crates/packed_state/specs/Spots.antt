-- The parts of a packed board, as they are read.
use Rattle.std.specs.Prelude.{ℕ, ◌-◌, Bool, ◌==◌, nat_lt, List, [], length, reverse}
use Rattle.std.specs.Prelude.{Option, None, is_some, slice_get, if◌then◌else◌}
use Rattle.std.specs.List.{filter_map}
use Rattle.std.specs.Option.{unwrap_or, option_to_list}
use Rattle.card_piles.specs.declared.Card.{Card}
use Rattle.game_rules.specs.Board.{Board, pile_at, entry_at}
use Rattle.packed_state.specs.declared.Spot.{Spot}
use Rattle.packed_state.specs.declared.Spot.TheVariants.{Pile, Cell, Reserve, Stock, Waste, Hole, Slot}

-- the element that has exactly so many above it
abbrev pub under_top : {A : Type 0} → List A → ℕ → Option A
under_top xs depth = if nat_lt depth (length xs) then slice_get xs (length xs - 1 - depth) else None

-- the one card of an entry has none above it
abbrev pub in_entry : Option Card → ℕ → Option Card
in_entry entry depth = if depth == 0 then entry else None

-- the card of a reserve: a stacked one is a list, which is its entry 0 and holds a card in each place
abbrev pub in_reserve : Bool → List (Option Card) → ℕ → ℕ → Option Card
in_reserve stacked reserve i depth =
    if stacked
    then (if (i == 0) then unwrap_or (under_top reserve depth) None else None)
    else in_entry (entry_at reserve i) depth

-- the card of a part of the board with exactly so many cards above it
abbrev pub card_at : Bool → Board → Spot → ℕ → Option Card
card_at stacked board (Pile i) depth = under_top (pile_at board i).cards depth
card_at stacked board (Cell i) depth = in_entry (entry_at board.cells i) depth
card_at stacked board (Reserve i) depth = in_reserve stacked board.reserve i depth
card_at stacked board Stock depth = under_top board.stock depth
card_at stacked board Waste depth = under_top board.waste depth
card_at stacked board Hole depth = under_top board.hole depth
card_at stacked board (Slot i) depth = in_entry (entry_at board.slots i) depth

-- the number of cards of an entry
abbrev pub entry_size : Option Card → ℕ
entry_size entry = if is_some entry then 1 else 0

-- the number of cards of a part of the board, and 0 where the board does not have it
abbrev pub size_at : Bool → Board → Spot → ℕ
size_at stacked board (Pile i) = length (pile_at board i).cards
size_at stacked board (Cell i) = entry_size (entry_at board.cells i)
size_at stacked board (Reserve i) =
    if stacked then (if (i == 0) then length board.reserve else 0) else entry_size (entry_at board.reserve i)
size_at stacked board Stock = length board.stock
size_at stacked board Waste = length board.waste
size_at stacked board Hole = length board.hole
size_at stacked board (Slot i) = entry_size (entry_at board.slots i)

-- the cards of a part of the board from the top down, and none where the board does not have it
abbrev pub cards_of : Bool → Board → Spot → List Card
cards_of stacked board (Pile i) = reverse (pile_at board i).cards
cards_of stacked board (Cell i) = option_to_list (entry_at board.cells i)
cards_of stacked board (Reserve i) =
    if stacked
    then (if (i == 0) then reverse (filter_map (λ entry. entry) board.reserve) else [])
    else option_to_list (entry_at board.reserve i)
cards_of stacked board Stock = reverse board.stock
cards_of stacked board Waste = reverse board.waste
cards_of stacked board Hole = reverse board.hole
cards_of stacked board (Slot i) = option_to_list (entry_at board.slots i)
