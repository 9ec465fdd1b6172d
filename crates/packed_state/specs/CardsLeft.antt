-- The cards that an iterator of a part has left.
use Rattle.std.specs.Prelude.{ℕ, zero, suc, ◌+◌, ◌<◌, ◌≤◌, List, [], ◌++◌, map}
use Rattle.std.specs.Option.{option_to_list}
use Rattle.card_piles.specs.declared.Card.{Card}
use Rattle.card_links.specs.Chains.{chain, follow}
use Rattle.game_rules.specs.Board.{top_of}
use Rattle.packed_state.specs.Packed.{Linked, cards_at, card_of}

-- the cards of so many entries of the reserve, from the last of them down
abbrev pub entry_cards : Linked → ℕ → List Card
entry_cards l zero = []
entry_cards l (suc n) = option_to_list (top_of (cards_at l (36 + n))) ++ entry_cards l n

-- the cards of so many slots from this one down, and then those of so many entries
abbrev pub cards_left : Linked → ℕ → ℕ → ℕ → List Card
cards_left l slot left entries = map (card_of l.cards) (chain l.links.under left slot) ++ entry_cards l entries

-- there are so many slots and entries
pub record IsLeft (l : Linked) (slot left entries : ℕ) : Type 0 where
  pub slots : (k : ℕ) → k < left → follow l.links.under k slot < 208
  pub few : entries ≤ 52
