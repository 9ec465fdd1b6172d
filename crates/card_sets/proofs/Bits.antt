-- The bits of a set of cards.
use Rattle.std.proofs.Common.{◌≡◌, ℕ, ◌+◌, ◌*◌, ◌^◌, ◌%◌, ◌<◌, true, false, refl, ap, sym, ◌∙◌, arith, bit_and, bit_or}
use Rattle.std.proofs.Common.{inl, inr}
use Rattle.std.specs.Prelude.{◌||◌, ◌&&◌, ◌==◌}
use Rattle.std.specs.Int.{bit_at, w64}
use Rattle.std.proofs.lemmas.Bool.{eqb-true, eq-eqb, ne_eqb}
use Rattle.std.proofs.lemmas.Bool.Decides.{eqb_tells}
use Rattle.std.proofs.lemmas.Nat.Bits.{bit_at_and, bit_at_ones, bit_at_set_same, bit_at_set_other, bit_at-zero}
use Rattle.card_piles.specs.declared.Card.{Card}
use Rattle.card_piles.specs.declared.Suit.{Suit}
use Rattle.card_piles.specs.declared.Suit.TheVariants.{Clubs, Diamonds, Hearts, Spades}
use Rattle.card_piles.specs.Cards.{place_of}
use Rattle.card_piles.specs.Ranks.{IsRank}
use Rattle.card_sets.specs.Sets.{bit_of, is_card}

place-lt : (suit : Suit) → place_of suit < 4
place-lt Clubs = omega arith
place-lt Diamonds = omega arith
place-lt Hearts = omega arith
place-lt Spades = omega arith

pub bit_of-lt : (suit : Suit) (rank : ℕ) → rank < 16 → bit_of suit rank < 64
bit_of-lt suit rank low = omega (arith, place-lt suit, low)

-- one bit stands for one suit and rank
bit-is : (a b r q : ℕ) → r < 16 → q < 16 → (16 * a + r == 16 * b + q) ≡ (a == b) && (r == q)
bit-is a b r q low low' =
    elim (eqb_tells a b) [
      | inl same ↦ elim (eqb_tells r q) [
        | inl equal ↦ rw (same.0, equal.0) (eq-eqb _ _ (omega (arith, same.1, equal.1)))
        | inr other ↦ rw (same.0, other.0) (ne_eqb _ _ (λ e. other.1 (omega (arith, same.1, e))))
      ]
      | inr other ↦ rw other.0 (ne_eqb _ _ (λ e. other.1 (omega (arith, e, low, low'))))
    ]

-- a bit that is set, and all others as they were
pub set_bit : (bits k i : ℕ) → k < 64 → (bit_at (bit_or bits (1 * 2 ^ k % 18446744073709551616)) i == 1) ≡ (k == i)
    || (bit_at bits i == 1)
set_bit bits k i low =
    elim (eqb_tells k i) [
      | inl same ↦ rw same.0 (eq-eqb _ _ (ap (λ j. bit_at (bit_or bits (1 * 2 ^ k % 18446744073709551616)) j)
          (sym same.1) ∙ bit_at_set_same w64 bits k low))
      | inr other ↦ rw (other.0, bit_at_set_other w64 bits k low i (λ e. other.1 (sym e))) refl
    ]

pub has-with : (bits : ℕ) (suit : Suit) (rank : ℕ) (card : Card) → rank < 16 → IsRank card.rank
    → (bit_at (bit_or bits (1 * 2 ^ bit_of suit rank % 18446744073709551616)) (bit_of card.suit card.rank) == 1)
    ≡ is_card suit rank card || (bit_at bits (bit_of card.suit card.rank) == 1)
has-with bits suit rank card low ranked =
    set_bit bits (bit_of suit rank) (bit_of card.suit card.rank) (bit_of-lt suit rank low)
    ∙ ap (λ b. b || (bit_at bits (bit_of card.suit card.rank) == 1))
    (bit-is (place_of suit) (place_of card.suit) rank card.rank low (omega (arith, ranked.1)))

pub has-all : (card : Card) → IsRank card.rank → (bit_at 18446744073709551615 (bit_of card.suit card.rank) == 1) ≡ true
has-all card ranked =
    eq-eqb _ _ (bit_at_ones 64 (bit_of card.suit card.rank) (bit_of-lt card.suit card.rank (omega (arith, ranked.1))))

-- sets whose numbers have no bit together
pub has-apart : (a b i : ℕ) → bit_and a b ≡ 0 → (bit_at a i == 1) ≡ true → (bit_at b i == 1) ≡ false
has-apart a b i apart one =
    let none : bit_at (bit_and a b) i ≡ 0 = ap (λ n. bit_at n i) apart ∙ bit_at-zero i in
    ne_eqb _ _ (λ e. omega (arith, none, bit_at_and a b i, eqb-true _ _ one, e))
