-- Which cards a set has.
use Rattle.std.specs.Prelude.{ℕ, ◌+◌, ◌*◌, Bool, ◌==◌, ◌&&◌}
use Rattle.std.specs.Int.{bit_at}
use Rattle.card_piles.specs.declared.Card.{Card}
use Rattle.card_piles.specs.declared.Suit.{Suit}
use Rattle.card_piles.specs.Cards.{place_of}
use Rattle.card_piles.specs.Builds.{same_suit}
use Rattle.card_sets.specs.declared.CardSet.{CardSet}
use Rattle.card_sets.specs.declared.CardBit.{CardBit}

-- the place of a card's bit
abbrev pub bit_of : Suit → ℕ → ℕ
bit_of suit rank = 16 * place_of suit + rank

-- whether the set has the card
abbrev pub has : CardSet → Card → Bool
has set card = bit_at set.bits (bit_of card.suit card.rank) == 1

-- whether the set has the card of this bit
abbrev pub has_bit : CardSet → CardBit → Bool
has_bit set bit = bit_at set.bits bit.place == 1

-- whether the card is the one of this suit and rank
abbrev pub is_card : Suit → ℕ → Card → Bool
is_card suit rank card = same_suit suit card.suit && (rank == card.rank)
