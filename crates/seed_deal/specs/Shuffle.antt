-- The deck in order, and how the words of a generator shuffle it.
use Rattle.std.specs.Prelude.{ℕ, zero, suc, ◌+◌, ◌*◌, ◌-◌, ◌/◌, ◌^◌, List, length, map}
use Rattle.std.specs.List.{flat_map, range_with_len, swap}
use Rattle.rand_core.specs.Steps.{stream_of, steps_u32}
use Rattle.rand_core.specs.Stream.{Stream, next_u32}
use Rattle.rand_pcg.specs.Lcg.{started, increment_of}
use Rattle.rand_pcg.specs.Pcg.{multiplier_64, pcg32}
use Rattle.card_piles.specs.declared.Card.{Card}
use Rattle.card_piles.specs.declared.Suit.{Suit}
use Rattle.game_rules.specs.declared.RuleParts.{RuleParts}
use Rattle.game_rules.specs.Board.{suit_at}

-- the cards of a suit in order, from the ace on
abbrev pub suit_in_order : ℕ → Suit → List Card
suit_in_order max_rank suit = map (λ place. record { suit = suit; rank = place + 1 }) (range_with_len 0 max_rank)

-- one deck: the suits in order
abbrev pub one_deck : ℕ → List Card
one_deck max_rank = flat_map (λ place. suit_in_order max_rank (suit_at place)) (range_with_len 0 4)

-- the decks of the game, one after the other
abbrev pub deck_in_order : RuleParts → List Card
deck_in_order rules = flat_map (λ copy. one_deck rules.max_rank) (range_with_len 0 rules.decks)

-- the place from 0 to i that a word of 32 bits chooses
abbrev pub chosen_place : ℕ → ℕ → ℕ
chosen_place word i = word * (i + 1) / 2 ^ 32

-- for each place from i down to 1, the next word chooses a place up to it, and the two cards change places
abbrev pub shuffled : {A : Type 0} → Stream → ℕ → List A → List A
shuffled words zero cards = cards
shuffled words (suc i) cards =
    shuffled (next_u32 words).1 i (swap cards (suc i) (chosen_place (next_u32 words).0 (suc i)))

-- the words of the generator that begins at the seed, on the stream of number 54
abbrev pub words_of : ℕ → Stream
words_of seed = stream_of (steps_u32 pcg32) (started 64 multiplier_64 seed (increment_of 64 54))

-- the deck that the seed shuffles, from the last place down
unfoldable pub shuffled_deck : RuleParts → ℕ → List Card
shuffled_deck rules seed = shuffled (words_of seed) (length (deck_in_order rules) - 1) (deck_in_order rules)
