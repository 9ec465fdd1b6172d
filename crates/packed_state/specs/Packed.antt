-- Cards linked by index, and the board that they stand for.
use Rattle.std.specs.Prelude.{◌≡◌, ℕ, ◌+◌, ◌-◌, ◌<◌, ◌≤◌, Bool, ◌==◌, ◌&&◌, ◌||◌, true, false, nat_lt, nat_le}
use Rattle.std.specs.Prelude.{List, map, reverse, length, slice_index_or, slice_set, if◌then◌else◌, ◌++◌, ◌≢◌}
use Rattle.std.specs.List.{range_with_len}
use Rattle.card_piles.specs.declared.Card.{Card}
use Rattle.card_piles.specs.declared.Suit.TheVariants.{Clubs}
use Rattle.card_links.specs.Chains.{Chains, IsChained, size_at, slots_of, grown}
use Rattle.game_rules.specs.declared.RuleParts.{RuleParts}
use Rattle.game_rules.specs.Rules.{takes_complete_runs}
use Rattle.game_rules.specs.Board.{Board, top_of, foundation_cards}
use Rattle.game_rules.specs.declared.Place.{Place}
use Rattle.game_rules.specs.declared.Place.TheVariants.{Tableau, Cell, Reserve, Waste, Foundation, Hole, Slot}
use Rattle.packed_state.specs.declared.Shape.{Shape}

-- what a packed board keeps: each slot and each link
pub record Linked : Type 0 where
  pub links : Chains
  pub cards : List Card
  pub face_down : List ℕ
  pub shape : Shape
  pub redeals_left : ℕ
  pub stacked : Bool

-- the number of a place in the table of links; the stock has 89, and each entry of the reserve a number of its own
abbrev pub index_of : Place → ℕ
index_of (Tableau i) = i
index_of (Cell i) = 20 + i
index_of (Reserve i) = 36 + i
index_of Waste = 88
index_of (Foundation f) = 90 + f
index_of Hole = 106
index_of (Slot i) = 107 + i

-- the number of the place that a card is taken from: a stacked reserve gives that of its last entry
abbrev pub source_of : Bool → Shape → Place → ℕ
source_of stacked shape (Reserve i) = if stacked then 36 + (shape.entries - 1) else 36 + i
source_of stacked shape place = index_of place

-- the shape when so many entries are in the reserve
abbrev pub with_entries : Shape → ℕ → Shape
with_entries shape entries = record shape { entries = entries }

-- the shape after a card was taken from a place: a stacked reserve loses its last entry
abbrev pub shape_after : Bool → Shape → Place → Shape
shape_after stacked shape (Reserve i) = if stacked then with_entries shape (shape.entries - 1) else shape
shape_after stacked shape place = shape

-- the shape before it
abbrev pub shape_before : Bool → Shape → Place → Shape
shape_before stacked shape (Reserve i) = if stacked then with_entries shape (shape.entries + 1) else shape
shape_before stacked shape place = shape

-- whether a packed board has the place of this number
abbrev pub is_inside : Shape → ℕ → Bool
is_inside shape p =
    nat_lt p shape.piles
    || (nat_le 20 p && nat_lt p (20 + shape.cells))
    || (nat_le 36 p && nat_lt p (36 + shape.entries))
    || (p == 88) || (p == 89)
    || (nat_le 90 p && nat_lt p (90 + shape.foundations))
    || (p == 106)
    || (nat_le 107 p && nat_lt p (107 + shape.slots))

-- whether the place of this number has room for one card alone
abbrev pub is_single : ℕ → Bool
is_single p = (nat_le 20 p && nat_lt p 88) || nat_le 107 p

-- whether a packed board has the place
abbrev pub is_place : Shape → Place → Bool
is_place shape (Tableau i) = nat_lt i shape.piles
is_place shape (Cell i) = nat_lt i shape.cells
is_place shape (Reserve i) = nat_lt i shape.entries
is_place shape Waste = true
is_place shape (Foundation f) = nat_lt f shape.foundations
is_place shape Hole = true
is_place shape (Slot i) = nat_lt i shape.slots

-- the card of a slot that is none
abbrev pub no_card : Card
no_card = record { suit = Clubs; rank = 1 }

-- the card of a slot
abbrev pub card_of : List Card → ℕ → Card
card_of cards slot = slice_index_or cards slot no_card

-- the cards of a place, from the bottom up
abbrev pub cards_at : Linked → ℕ → List Card
cards_at l p = map (card_of l.cards) (reverse (slots_of l.links p))

-- the cards of a foundation, from the bottom up: a complete run lies from its greatest rank to the ace
abbrev pub home_cards : RuleParts → ℕ → ℕ → List Card
home_cards rules f height =
    if takes_complete_runs rules.goal
    then reverse (foundation_cards rules f height) else foundation_cards rules f height

-- each foundation holds the cards that the rules say
abbrev pub HoldsFoundations : RuleParts → Linked → Type 0
HoldsFoundations rules l =
    (f : ℕ) → f < l.shape.foundations → cards_at l (90 + f) ≡ home_cards rules f (size_at l.links (90 + f))

-- how many cards of a pile, at its bottom, lie face down
abbrev pub face_at : Linked → ℕ → ℕ
face_at l i = slice_index_or l.face_down i 0

-- the board with these cards in each place
abbrev pub board_by : Shape → ℕ → (ℕ → List Card) → (ℕ → ℕ) → Board
board_by shape redeals_left cards faces = record {
  piles = map (λ i. record { cards = cards i; face_down = faces i }) (range_with_len 0 shape.piles);
  cells = map (λ i. top_of (cards (20 + i))) (range_with_len 0 shape.cells);
  reserve = map (λ i. top_of (cards (36 + i))) (range_with_len 0 shape.entries);
  stock = cards 89;
  waste = cards 88;
  redeals_left = redeals_left;
  heights = map (λ f. length (cards (90 + f))) (range_with_len 0 shape.foundations);
  hole = cards 106;
  slots = map (λ i. top_of (cards (107 + i))) (range_with_len 0 shape.slots);
}

-- the board that a packed board stands for
abbrev pub board_of : Linked → Board
board_of l = board_by l.shape l.redeals_left (cards_at l) (face_at l)

-- whether its reserve is one list, of which the top alone is free
abbrev pub is_stacked : Linked → Bool
is_stacked l = l.stacked

-- as many places as the tables have room for
pub record IsSmall (shape : Shape) : Type 0 where
  pub piles : shape.piles ≤ 20
  pub cells : shape.cells ≤ 16
  pub entries : shape.entries ≤ 52
  pub foundations : shape.foundations ≤ 16
  pub slots : shape.slots ≤ 208

-- the tables have their lengths, and room for the places
pub record IsSized (cards : List Card) (face_down : List ℕ) (shape : Shape) : Type 0 where
  pub cards_length : length cards ≡ 208
  pub faces_length : length face_down ≡ 20
  pub small : IsSmall shape

-- the slots are linked, the tables fit, and so do the face-down counts and the places
pub record IsLinked (l : Linked) : Type 0 where
  pub chained : IsChained l.links
  pub sized : IsSized l.cards l.face_down l.shape
  pub faces : (i : ℕ) → i < 20 → face_at l i ≤ size_at l.links i
  pub outside : (p : ℕ) → p < 315 → is_inside l.shape p ≡ false → size_at l.links p ≡ 0
  pub singles : (p : ℕ) → p < 315 → is_single p ≡ true → size_at l.links p ≤ 1

-- the packed board with a card in a new slot on a place
abbrev pub with_put : Linked → ℕ → Card → Linked
with_put l place card = record l { links = grown l.links place; cards = slice_set l.cards l.links.used card }

-- what cards that were put on a place change
pub record Added (l m : Linked) (place : ℕ) (cards : List Card) : Type 0 where
  pub there : cards_at m place ≡ cards_at l place ++ cards
  pub other : (p : ℕ) → p < 315 → p ≢ place → cards_at m p ≡ cards_at l p
  pub used : m.links.used ≡ l.links.used + length cards
  pub face_down : m.face_down ≡ l.face_down
  pub shape : m.shape ≡ l.shape
  pub redeals_left : m.redeals_left ≡ l.redeals_left
  pub stacked : m.stacked ≡ l.stacked
