-- Parts of piles, as they are read from the top down.
use Rattle.std.specs.Prelude.{ℕ, ◌<◌, List, map, reverse}
use Rattle.card_piles.specs.declared.Card.{Card}
use Rattle.card_links.specs.Chains.{follow, chain}
use Rattle.packed_state.specs.declared.table.Chain.{Chain}
use Rattle.packed_state.specs.Packed.{Linked, card_of}

-- the links lead to a slot of the table as often as the part has a card
abbrev pub IsPart : Linked → Chain → Type 0
IsPart l part = (k : ℕ) → k < part.left → follow l.links.under k part.slot < 208

-- the cards of a part, from the bottom up
abbrev pub part_cards : Linked → Chain → List Card
part_cards l part = map (card_of l.cards) (reverse (chain l.links.under part.left part.slot))
