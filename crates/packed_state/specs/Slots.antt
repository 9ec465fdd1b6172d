-- The slots of a part, from its uppermost card down.
use Rattle.std.specs.Prelude.{◌≡◌, ◌≢◌, ℕ, zero, suc, ◌+◌, ◌-◌, ◌<◌, ◌≤◌, ◌==◌, nat_lt, Option, Some, None, true}
use Rattle.std.specs.Prelude.{if◌then◌else◌}
use Rattle.card_piles.specs.declared.Card.{Card}
use Rattle.card_links.specs.Chains.{Chains, link, top_at, size_at}
use Rattle.packed_state.specs.declared.Spot.{Spot}
use Rattle.packed_state.specs.declared.Spot.TheVariants.{Pile, Cell, Reserve, Stock, Waste, Hole, Slot}
use Rattle.game_rules.specs.declared.Place.{Place}
use Rattle.packed_state.specs.Packed.{Linked, card_of, board_of, is_stacked}
use Rattle.packed_state.specs.Spots.{card_at, size_at as spot_size}

-- the slot of the uppermost card of the place of a number
abbrev pub slot_on : Chains → ℕ → Option ℕ
slot_on c place = if size_at c place == 0 then None else Some (top_at c place)

-- the slot of a part's uppermost card; a stacked reserve has that of its last entry
abbrev pub top_slot : Linked → Spot → Option ℕ
top_slot l (Pile i) = if nat_lt i l.shape.piles then slot_on l.links i else None
top_slot l (Cell i) = if nat_lt i l.shape.cells then slot_on l.links (20 + i) else None
top_slot l (Reserve i) =
    if l.stacked
    then (if i == 0 then slot_on l.links (36 + (l.shape.entries - 1)) else None)
    else (if nat_lt i l.shape.entries then slot_on l.links (36 + i) else None)
top_slot l Stock = slot_on l.links 89
top_slot l Waste = slot_on l.links 88
top_slot l Hole = slot_on l.links 106
top_slot l (Slot i) = if nat_lt i l.shape.slots then slot_on l.links (107 + i) else None

-- the card of a slot that is in play
abbrev pub card_in : Linked → ℕ → Option Card
card_in l slot = if nat_lt slot l.links.used then Some (card_of l.cards slot) else None

-- the slot of the entry before the one that has this slot, among the entries up to a number
abbrev pub before_entry : Chains → ℕ → ℕ → Option ℕ
before_entry c zero slot = None
before_entry c (suc n) slot = if top_at c (36 + suc n) == slot then slot_on c (36 + n) else before_entry c n slot

-- the slot under the lowest one of a place: a stacked reserve goes on with the entry before
abbrev pub under_last : Linked → ℕ → Option ℕ
under_last l slot = if l.stacked then before_entry l.links (l.shape.entries - 1) slot else None

-- the slot of the card directly under that of a slot
abbrev pub under_slot : Linked → ℕ → Option ℕ
under_slot l slot =
    if nat_lt slot l.links.used
    then (if link l.links.under slot == 255 then under_last l slot else Some (link l.links.under slot)) else None

-- the same where there may be no slot
abbrev pub under_of : Linked → Option ℕ → Option ℕ
under_of l None = None
under_of l (Some slot) = under_slot l slot

-- the slot so many cards under that of a part's uppermost card
abbrev pub slot_under : Linked → Spot → ℕ → Option ℕ
slot_under l spot zero = top_slot l spot
slot_under l spot (suc n) = under_of l (slot_under l spot n)

-- the card of a slot, where there may be none
abbrev pub card_for : Linked → Option ℕ → Option Card
card_for l None = None
card_for l (Some slot) = card_in l slot

-- each entry of a stacked reserve has a card
abbrev pub HasEntries : Linked → Type 0
HasEntries l = l.stacked ≡ true → (i : ℕ) → i < l.shape.entries → size_at l.links (36 + i) ≡ 1

-- the slots under a part's uppermost card are as many different ones as it has cards, and have these in turn
pub record IsFollowed (l : Linked) (spot : Spot) : Type 0 where
  pub cards : (k : ℕ) → card_for l (slot_under l spot k) ≡ card_at (is_stacked l) (board_of l) spot k
  pub ends : (k : ℕ) → spot_size (is_stacked l) (board_of l) spot ≤ k → slot_under l spot k ≡ None
  pub apart : (j k : ℕ) → j < spot_size (is_stacked l) (board_of l) spot
      → k < spot_size (is_stacked l) (board_of l) spot
      → slot_under l spot j ≡ slot_under l spot k → j ≡ k

-- the part that a place is; a foundation is none
abbrev pub part_of : Place → Option Spot
part_of (Place.Tableau i) = Some (Pile i)
part_of (Place.Cell i) = Some (Cell i)
part_of (Place.Reserve i) = Some (Reserve i)
part_of Place.Waste = Some Waste
part_of (Place.Foundation f) = None
part_of Place.Hole = Some Hole
part_of (Place.Slot i) = Some (Slot i)

-- a carry changes what lies under one slot at most, and the tops of its two parts at most
pub record ChangesCarried (l m : Linked) (from to : Place) (slot : ℕ) : Type 0 where
  pub under : (s : ℕ) → s ≢ slot → under_slot m s ≡ under_slot l s
  pub tops : (spot : Spot) → part_of from ≢ Some spot → part_of to ≢ Some spot → top_slot m spot ≡ top_slot l spot
