-- A board that belongs to its rules is readable, and so it is with each card as its colour and rank.
use Rattle.std.proofs.Common.{◌≡◌, ◌≤◌, length, map, ◌∙◌, arith}
use Rattle.std.proofs.lemmas.List.{length-map}
use Rattle.game_rules.specs.declared.RuleParts.{RuleParts}
use Rattle.game_rules.specs.Playable.{IsPlayable, HasLimits}
use Rattle.game_rules.specs.Board.{Board}
use Rattle.game_rules.specs.Belonging.{Belongs, foundation_count, slot_count}
use Rattle.same_boards.specs.Colours.{coloured_entry, coloured_pile, coloured_board}
use Rattle.pile_symmetry.specs.Readable.{IsReadable}
use Rattle.game_rules.proofs.Limits.{limits_of}
use Rattle.same_boards.proofs.KeyBytes.{HasSmallNumbers, small_numbers}
use Rattle.same_boards.proofs.ColourKeys.{numbers-coloured}

readable : (rules : RuleParts) (board : Board) → length board.piles ≡ rules.piles → length board.cells ≡ rules.cells
    → length board.heights ≡ foundation_count rules → length board.slots ≡ slot_count rules → length board.reserve ≤ 52
    → HasSmallNumbers rules board → IsReadable rules board
readable rules board piles cells heights slots reserve small = record {
  piles = piles;
  cells = cells;
  heights = heights;
  slots = slots;
  few_in_reserve = reserve;
  few_in_stock = let cards = small.cards in omega (arith, cards);
  few_in_hole = small.hole;
}

reserve-few : (rules : RuleParts) (board : Board) → IsPlayable rules → Belongs rules board → length board.reserve ≤ 52
reserve-few rules board playable belongs =
    let limits : HasLimits rules = limits_of rules playable in
    let most = limits.reserve in
    let few = belongs.reserve_size in
    omega (arith, most, few)

pub readable-belongs : (rules : RuleParts) (board : Board) → IsPlayable rules → Belongs rules board
    → IsReadable rules board
readable-belongs rules board playable belongs =
    readable rules board belongs.piles belongs.cells belongs.foundations belongs.slots
    (reserve-few rules board playable belongs)
    (small_numbers rules board playable belongs)

pub readable-coloured : (rules : RuleParts) (board : Board) → IsPlayable rules → Belongs rules board
    → IsReadable rules (coloured_board board)
readable-coloured rules board playable belongs =
    let reserve : length (map coloured_entry board.reserve) ≡ length board.reserve =
    length-map board.reserve coloured_entry in
    let few = reserve-few rules board playable belongs in
    readable rules (coloured_board board) (length-map board.piles coloured_pile ∙ belongs.piles)
    (length-map board.cells coloured_entry ∙ belongs.cells)
    belongs.foundations (length-map board.slots coloured_entry ∙ belongs.slots) (omega (arith, reserve, few))
    (numbers-coloured rules board (small_numbers rules board playable belongs))
