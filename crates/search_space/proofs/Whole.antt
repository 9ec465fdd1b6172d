-- A board that has the places of its rules is the board of its own parts.
use Rattle.std.proofs.Common.{◌≡◌, length}
use Rattle.std.specs.Prelude.{None, IsTrue, ◌==◌, is_some, if◌then◌else◌}
use Rattle.std.specs.List.{list_all}
use Rattle.std.proofs.lemmas.Bool.{eqb-true}
use Rattle.game_rules.specs.declared.RuleParts.{RuleParts}
use Rattle.game_rules.specs.Board.{Board}
use Rattle.game_rules.specs.Belonging.{foundation_count, slot_count}
use Rattle.game_rules.specs.Position.{board_of_parts, parts_of}
use Rattle.game_rules.proofs.Limits.{both}
use Rattle.game_rules.proofs.BelongingExactly.{filled-whole, reserve-whole, piles-whole, slots-whole, six}
use Rattle.search_space.specs.Well.{has_places}

-- what the test of the places tells
pub record HasPlaces (rules : RuleParts) (board : Board) : Type 0 where
  pub piles : length board.piles ≡ rules.piles
  pub cells : length board.cells ≡ rules.cells
  pub reserve : IsTrue
      (if rules.stacked then list_all (λ e. is_some e) board.reserve else length board.reserve == rules.reserve)
  pub foundations : length board.heights ≡ foundation_count rules
  pub slots : length board.slots ≡ slot_count rules

pub places-told : (rules : RuleParts) (board : Board) → IsTrue (has_places rules board) → HasPlaces rules board
places-told rules board h =
    let to_heights = both _ _ h in
    let to_reserve = both _ _ to_heights.0 in
    let to_cells = both _ _ to_reserve.0 in
    let to_piles = both (length board.piles == rules.piles) (length board.cells == rules.cells) to_cells.0 in
    record {
      piles = eqb-true (length board.piles) rules.piles to_piles.0;
      cells = eqb-true (length board.cells) rules.cells to_piles.1;
      reserve = to_cells.1;
      foundations = eqb-true (length board.heights) (foundation_count rules) to_reserve.1;
      slots = eqb-true (length board.slots) (slot_count rules) to_heights.1;
    }

pub board-of_its_places : (rules : RuleParts) (board : Board) → HasPlaces rules board
    → board_of_parts rules (parts_of rules board) ≡ board
board-of_its_places rules board places =
    six board _ _ _ _ _ (piles-whole rules board places.piles) (filled-whole rules.cells None board.cells places.cells)
    (reserve-whole rules.stacked rules.reserve board.reserve places.reserve)
    (filled-whole (foundation_count rules) 0 board.heights places.foundations) (slots-whole rules board places.slots)
