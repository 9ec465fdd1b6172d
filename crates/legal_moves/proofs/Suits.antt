-- Suits, one by one.
use Rattle.std.proofs.Common.{◌≡◌, Bool, true, false, refl}
use Rattle.std.specs.Prelude.{◌||◌, ◌&&◌}
use Rattle.card_piles.specs.declared.Suit.{Suit}
use Rattle.card_piles.specs.declared.Suit.TheVariants.{Clubs, Diamonds, Hearts, Spades}
use Rattle.card_piles.specs.Builds.{same_suit}

-- what holds of the card's suit holds of its own suit
pub same_suit-swap : (p : Suit → Bool) (a b : Suit) → (same_suit a b && p b) ≡ (same_suit a b && p a)
same_suit-swap p Clubs Clubs = refl
same_suit-swap p Clubs Diamonds = refl
same_suit-swap p Clubs Hearts = refl
same_suit-swap p Clubs Spades = refl
same_suit-swap p Diamonds Clubs = refl
same_suit-swap p Diamonds Diamonds = refl
same_suit-swap p Diamonds Hearts = refl
same_suit-swap p Diamonds Spades = refl
same_suit-swap p Hearts Clubs = refl
same_suit-swap p Hearts Diamonds = refl
same_suit-swap p Hearts Hearts = refl
same_suit-swap p Hearts Spades = refl
same_suit-swap p Spades Clubs = refl
same_suit-swap p Spades Diamonds = refl
same_suit-swap p Spades Hearts = refl
same_suit-swap p Spades Spades = refl

-- what holds in each suit holds
pub in_each_suit : (suit : Suit) (b : Bool)
    → (same_suit Spades suit && b) ||
    ((same_suit Hearts suit && b) || ((same_suit Diamonds suit && b) || ((same_suit Clubs suit && b) || false))) ≡ b
in_each_suit Clubs true = refl
in_each_suit Clubs false = refl
in_each_suit Diamonds true = refl
in_each_suit Diamonds false = refl
in_each_suit Hearts true = refl
in_each_suit Hearts false = refl
in_each_suit Spades true = refl
in_each_suit Spades false = refl
