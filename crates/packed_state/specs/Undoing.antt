-- What a carry makes of a packed board, slot by slot and link by link, and what takes it back.
use Rattle.std.specs.Prelude.{◌≡◌, ◌≢◌, ℕ, ◌+◌, ◌-◌, ◌<◌, ◌≤◌, min, Bool, ◌==◌, ◌&&◌, ◌||◌, not, true, nat_lt, nat_le}
use Rattle.std.specs.Prelude.{IsTrue, List, Option, Some, None, slice_set, if◌then◌else◌}
use Rattle.card_piles.specs.declared.Card.{Card}
use Rattle.card_links.specs.Chains.{Chains, link, top_at, size_at, slot_at, shifted}
use Rattle.game_rules.specs.declared.RuleParts.{RuleParts}
use Rattle.game_rules.specs.Board.{foundation_top}
use Rattle.game_rules.specs.declared.Place.{Place}
use Rattle.game_rules.specs.declared.Place.TheVariants.{Tableau, Foundation}
use Rattle.packed_state.specs.Packed.{Linked, index_of, source_of, is_place, is_single, shape_after, shape_before}
use Rattle.packed_state.specs.Packed.{card_of, face_at}
use Rattle.packed_state.specs.Turning.{turned, with_redeals, undealt, have_tops}
use Rattle.game_rules.specs.declared.Target.TheVariants.{ToWaste, ToTableau, ToHole}
use Rattle.packed_state.specs.declared.Undo.{Undo}
use Rattle.packed_state.specs.declared.Undo.TheVariants.{Carried, Dealt, Redealt}

-- how many cards of a place lie face down
abbrev pub face_of : Linked → Place → ℕ
face_of l (Tableau i) = face_at l i
face_of l place = 0

-- the face-down counts with that of a pile written
abbrev pub with_face : List ℕ → Place → ℕ → List ℕ
with_face faces (Tableau i) face = slice_set faces i face
with_face faces place face = faces

-- the cards with that of a slot written, if there is one to write
abbrev pub with_card : List Card → ℕ → Option Card → List Card
with_card cards slot None = cards
with_card cards slot (Some card) = slice_set cards slot card

-- the card that a foundation gives under these rules
abbrev pub written : RuleParts → ℕ → Place → Option Card
written rules size (Foundation f) = foundation_top rules f size
written rules size place = None

-- the slot of the first of so many cards at the top of a place
abbrev pub first_slot : Linked → ℕ → ℕ → ℕ
first_slot l place count = slot_at l.links place (count - 1)

-- the number of the place that rules take a card from
abbrev pub origin_of : Bool → Linked → Place → ℕ
origin_of stacked l from = source_of stacked l.shape from

-- cards can be carried: both places are there, and have the cards and the room
pub record CanCarry (stacked : Bool) (l : Linked) (from to : Place) (count : ℕ) : Type 0 where
  pub from_place : IsTrue (is_place l.shape from)
  pub to_place : IsTrue (is_place l.shape to)
  pub apart : origin_of stacked l from ≢ index_of to
  pub some : 0 < count
  pub enough : count ≤ size_at l.links (origin_of stacked l from)
  pub room : is_single (index_of to) ≡ true → size_at l.links (index_of to) + count ≤ 1

-- the packed board after a carry
abbrev pub gone : RuleParts → Linked → Place → Place → ℕ → Linked
gone rules l from to count = record l {
  links = shifted l.links (origin_of rules.stacked l from) (index_of to) count;
  cards = with_card l.cards (first_slot l (origin_of rules.stacked l from) count)
      (written rules (size_at l.links (origin_of rules.stacked l from)) from);
  face_down = with_face l.face_down from
      (min (face_of l from) (size_at l.links (origin_of rules.stacked l from) - count - 1));
  shape = shape_after rules.stacked l.shape from;
}

-- what a carry notes
abbrev pub carry_note : Bool → Linked → Place → Place → ℕ → Undo
carry_note stacked l from to count =
    Carried from to count (face_of l from) stacked (card_of l.cards (first_slot l (origin_of stacked l from) count))

-- the number of the place that a card goes back to: a stacked reserve gets one entry more
abbrev pub return_of : Bool → Linked → Place → ℕ
return_of stacked l from = source_of stacked (shape_before stacked l.shape from) from

-- whether a carry can be taken back: the cards lie there, and there is room where they came from
abbrev pub fits_carried : Linked → Place → Place → ℕ → ℕ → Bool → Bool
fits_carried l from to count face stacked =
    nat_le (shape_before stacked l.shape from).entries 52
    && is_place (shape_before stacked l.shape from) from
    && is_place l.shape to
    && not (return_of stacked l from == index_of to)
    && nat_lt 0 count
    && nat_le (face_of l to + count) (size_at l.links (index_of to))
    && nat_le face (size_at l.links (return_of stacked l from) + count)
    && (not (is_single (return_of stacked l from)) || nat_le (size_at l.links (return_of stacked l from) + count) 1)

-- the packed board before a carry
abbrev pub before_carry : Linked → Place → Place → ℕ → ℕ → Bool → Card → Linked
before_carry l from to count face stacked card = record l {
  links = shifted l.links (index_of to) (return_of stacked l from) count;
  cards = slice_set l.cards (first_slot l (index_of to) count) card;
  face_down = with_face l.face_down from face;
  shape = shape_before stacked l.shape from;
}

-- the earlier packed board that an undo and a packed board determine
abbrev pub before : Undo → Linked → Option Linked
before (Carried from to count face_down stacked card) l =
    if fits_carried l from to count face_down stacked
    then Some (before_carry l from to count face_down stacked card) else None
before (Dealt ToWaste count) l = if nat_le count (size_at l.links 88) then Some (turned l 88 89 count) else None
before (Dealt ToHole count) l = if nat_le count (size_at l.links 106) then Some (turned l 106 89 count) else None
before (Dealt ToTableau count) l = if have_tops l count then Some (undealt l count) else None
before (Redealt redeals_left) l =
    if size_at l.links 88 == 0 then Some (with_redeals (turned l 89 88 (size_at l.links 89)) redeals_left) else None

-- the tops of all places but two are as they were, and at most one link is another: that of the slot
pub record ChangesOne (c d : Chains) (slot from to : ℕ) : Type 0 where
  pub tops : (p : ℕ) → p ≢ from → p ≢ to → top_at d p ≡ top_at c p
  pub links : (s : ℕ) → s ≢ slot → link d.under s ≡ link c.under s
