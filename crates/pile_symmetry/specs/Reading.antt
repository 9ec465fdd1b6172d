-- The parts that bytes say as a key. Any bytes say some parts: whether they are a key is told by the board's own key.
use Rattle.std.specs.Prelude.{ℕ, zero, suc, ◌+◌, ◌-◌, ◌*◌, ◌/◌, ◌%◌, List, [], ◌∷◌, ◌++◌, map, take, drop, replicate}
use Rattle.std.specs.Prelude.{slice_index_or, Option, Some, None, if◌then◌else◌}
use Rattle.std.specs.Option.{option_to_list}
use Rattle.std.specs.List.{range_with_len, flat_map, sum_by}
use Rattle.card_piles.specs.declared.Card.{Card}
use Rattle.game_rules.specs.declared.RuleParts.{RuleParts}
use Rattle.game_rules.specs.Rules.{is_hole_goal}
use Rattle.game_rules.specs.declared.BoardParts.{BoardParts}
use Rattle.game_rules.specs.Board.{Pile, empty_pile}
use Rattle.game_rules.specs.Belonging.{foundation_count, copies_of, copies_in, copies_due}
use Rattle.game_rules.specs.Position.{filled, row_count, card_numbered, deck_size}
use Rattle.pile_symmetry.specs.Said.{Said}
use Rattle.same_boards.specs.Bytes.{card_of_byte, entry_of_byte}

-- the bytes of a part that begins with their number
abbrev pub counted_part : List ℕ → List ℕ
counted_part [] = []
counted_part (n ∷ bytes) = take n bytes

-- the bytes after such a part
abbrev pub after_counted : List ℕ → List ℕ
after_counted [] = []
after_counted (n ∷ bytes) = drop n bytes

-- the pile at the front
abbrev pub pile_in : List ℕ → Pile
pile_in [] = empty_pile
pile_in (n ∷ []) = empty_pile
pile_in (n ∷ face_down ∷ bytes) = record { cards = map card_of_byte (take n bytes); face_down = face_down }

-- the bytes after the pile at the front
abbrev pub after_pile : List ℕ → List ℕ
after_pile [] = []
after_pile (n ∷ []) = []
after_pile (n ∷ face_down ∷ bytes) = drop n bytes

-- the bytes after the first piles
abbrev pub after_piles : ℕ → List ℕ → List ℕ
after_piles zero bytes = bytes
after_piles (suc n) bytes = after_pile (after_piles n bytes)

-- so many piles, one after the other
abbrev pub piles_in : ℕ → List ℕ → List Pile
piles_in n bytes = map (λ i. pile_in (after_piles i bytes)) (range_with_len 0 n)

-- the entry with the card of a byte
abbrev pub card_entry : ℕ → Option Card
card_entry byte = Some (card_of_byte byte)

-- the reserve of its cards' bytes
abbrev pub reserve_in : RuleParts → List ℕ → List (Option Card)
reserve_in rules bytes = if rules.stacked then map card_entry bytes
    else filled rules.reserve None (map card_entry bytes)

-- the height of a foundation: the bytes go suit by suit
abbrev pub height_in : RuleParts → List ℕ → ℕ → ℕ
height_in rules bytes f = slice_index_or bytes (f % 4 * rules.decks + f / 4) 0

-- the heights of all foundations
abbrev pub heights_in : RuleParts → List ℕ → List ℕ
heights_in rules bytes = map (height_in rules bytes) (range_with_len 0 (foundation_count rules))

-- how many bytes tell of the hole
abbrev pub hole_size : RuleParts → ℕ
hole_size rules = if is_hole_goal rules.goal then 2 else 0

-- the bytes from the waste on
abbrev pub from_waste : List ℕ → List ℕ
from_waste bytes = after_counted (drop 1 bytes)

-- the bytes from the heights on
abbrev pub from_heights : List ℕ → List ℕ
from_heights bytes = after_counted (from_waste bytes)

-- the bytes from the hole on
abbrev pub from_hole : RuleParts → List ℕ → List ℕ
from_hole rules bytes = drop (foundation_count rules) (from_heights bytes)

-- the bytes from the cells on
abbrev pub from_cells : RuleParts → List ℕ → List ℕ
from_cells rules bytes = drop (hole_size rules) (from_hole rules bytes)

-- the bytes from the reserve on
abbrev pub from_reserve : RuleParts → List ℕ → List ℕ
from_reserve rules bytes = after_counted (from_cells rules bytes)

-- the parts, each with its bytes
abbrev pub said : RuleParts → List ℕ → Said
said rules bytes = record {
  redeals_left = slice_index_or bytes 0 0;
  stock = counted_part (drop 1 bytes);
  waste = counted_part (from_waste bytes);
  heights = take (foundation_count rules) (from_heights bytes);
  hole = take (hole_size rules) (from_hole rules bytes);
  cells = counted_part (from_cells rules bytes);
  reserve = counted_part (from_reserve rules bytes);
  rest = after_counted (from_reserve rules bytes);
}

-- a row of slots
abbrev pub row_in : RuleParts → List ℕ → ℕ → List (Option Card)
row_in rules bytes r = map entry_of_byte (take rules.max_rank (drop (r * rules.max_rank) bytes))

-- all rows, one after the other
abbrev pub rows_in : RuleParts → List ℕ → List (List (Option Card))
rows_in rules bytes = map (row_in rules bytes) (range_with_len 0 (row_count rules))

-- the top of the hole
abbrev pub top_in : List ℕ → List Card
top_in bytes = option_to_list (entry_of_byte (slice_index_or bytes 1 0))

-- the parts of a board, of whose hole the top alone is said
abbrev pub parts_said : RuleParts → Said → BoardParts
parts_said rules s = record {
  tableau = map (λ pile. pile.cards) (piles_in rules.piles s.rest);
  face_down = map (λ pile. pile.face_down) (piles_in rules.piles s.rest);
  cells = filled rules.cells None (map card_entry s.cells);
  reserve = reserve_in rules s.reserve;
  stock = map card_of_byte s.stock;
  waste = map card_of_byte s.waste;
  redeals_left = s.redeals_left;
  foundations = heights_in rules s.heights;
  hole = top_in s.hole;
  rows = rows_in rules s.rest;
}

-- how often a card stands in lists
abbrev pub copies_in_lists : Card → List (List Card) → ℕ
copies_in_lists card lists = sum_by (λ cards. copies_of card cards) lists

-- how many copies of a card are due that stand nowhere, in a game with a hole
abbrev pub lacking : RuleParts → BoardParts → Card → ℕ
lacking rules parts card =
    copies_due rules card
    - copies_in_lists card parts.tableau
    - copies_in card parts.cells
    - copies_in card parts.reserve
    - copies_of card parts.stock
    - copies_of card parts.waste
    - copies_of card parts.hole

-- the cards that stand nowhere, in ascending order
abbrev pub lacking_cards : RuleParts → BoardParts → List Card
lacking_cards rules parts =
    flat_map (λ n. replicate (lacking rules parts (card_numbered n)) (card_numbered n)) (range_with_len 0 deck_size)

-- the hole: the cards that stand nowhere lie under its top
abbrev pub hole_in : RuleParts → BoardParts → List Card
hole_in rules parts = if is_hole_goal rules.goal then lacking_cards rules parts ++ parts.hole else parts.hole

-- the parts that bytes say, with the hole filled
abbrev pub whole_parts : RuleParts → List ℕ → BoardParts
whole_parts rules bytes =
    record (parts_said rules (said rules bytes)) { hole = hole_in rules (parts_said rules (said rules bytes)) }
