-- Keys of small boards, worked out by the definition alone.
use Rattle.std.proofs.Common.{arith, ◌≡◌, ℕ, zero, suc, true, false, [], ◌∷◌, refl}
use Rattle.std.specs.Prelude.{◌==◌, nat_le}
use Rattle.std.proofs.lemmas.Bool.{ne_eqb, le-leb, lt-leb}
use Rattle.card_piles.specs.declared.Card.{Card}
use Rattle.card_piles.specs.declared.Suit.{Suit}
use Rattle.card_piles.specs.declared.Suit.TheVariants.{Clubs, Diamonds, Hearts, Spades}
use Rattle.game_rules.specs.declared.RuleParts.{RuleParts}
use Rattle.game_rules.specs.declared.Target.TheVariants.{ToTableau}
use Rattle.game_rules.specs.Board.{Board}
use Rattle.game_rules.specs.Playable.{IsPlayable}
use Rattle.game_rules.specs.Belonging.{Belongs, copies_on, copies_due}
use Rattle.same_boards.specs.Keys.{key_bytes}
use Rattle.same_boards.specs.ColourKeys.{colour_key_bytes}
use Rattle.same_boards.proofs.WorkedRows.{two_ranks, board_of, up, club, ace, ace_under_two}

-- the same two piles in the other order
abbrev space_first : Board
space_first = board_of (up [] ∷ up (club 1 ∷ club 2 ∷ []) ∷ []) (0 ∷ 2 ∷ 2 ∷ 2 ∷ [])

-- redeals, stock, waste, the four heights, cells, reserve, and the piles in order
pub ace_under_two-key : key_bytes (two_ranks 2) ace_under_two ≡ 0 ∷ 0 ∷ 0 ∷ 0 ∷ 2 ∷ 2 ∷ 2 ∷ 0 ∷ 0 ∷ 0 ∷ 0
    ∷ 2 ∷ 0 ∷ 1 ∷ 2 ∷ []
ace_under_two-key = refl

pub one_key : key_bytes (two_ranks 2) ace_under_two ≡ key_bytes (two_ranks 2) space_first
one_key = refl

-- no card of a higher rank stands on the board, and none is due
higher_ranks : (s : Suit) (n : ℕ) → (n == 1) ≡ false → (n == 2) ≡ false → nat_le 1 n ≡ true → nat_le n 2 ≡ false
    → copies_on (two_ranks 2) ace_under_two (record { suit = s; rank = n }) ≡ copies_due (two_ranks 2)
    (record { suit = s; rank = n })
higher_ranks Clubs n a b c d = simp (a, b, c, d)
higher_ranks Diamonds n a b c d = simp (a, b, c, d)
higher_ranks Hearts n a b c d = simp (a, b, c, d)
higher_ranks Spades n a b c d = simp (a, b, c, d)

ace_under_two-ranks : (s : Suit) (r : ℕ) → copies_on (two_ranks 2) ace_under_two
    (record { suit = s; rank = r }) ≡ copies_due (two_ranks 2) (record { suit = s; rank = r })
ace_under_two-ranks s (suc (suc (suc r))) =
    let n : ℕ = suc (suc (suc r)) in
    higher_ranks s n (ne_eqb n 1 (λ e. omega arith)) (ne_eqb n 2 (λ e. omega arith)) (le-leb 1 n (omega arith))
    (lt-leb n 2 (omega arith))
ace_under_two-ranks Clubs r = refl
ace_under_two-ranks Diamonds r = refl
ace_under_two-ranks Hearts r = refl
ace_under_two-ranks Spades r = refl

ace_under_two-cards : (card : Card) → copies_on (two_ranks 2) ace_under_two card ≡ copies_due (two_ranks 2) card
ace_under_two-cards card = ace_under_two-ranks card.suit card.rank

-- where the stock deals to the tableau, the piles stand in the board's order while it has cards
abbrev tableau_rules : RuleParts
tableau_rules = record (two_ranks 2) { target = ToTableau; stock = 1 }

abbrev with_stock : Board → Board
with_stock board = record board { stock = ace Spades ∷ []; heights = 0 ∷ 2 ∷ 2 ∷ 0 ∷ [] }

pub key_in_order : key_bytes tableau_rules (with_stock ace_under_two) ≡ 0 ∷ 1 ∷ 40 ∷ 0 ∷ 0 ∷ 2 ∷ 2 ∷ 0 ∷ 0 ∷ 0 ∷ 2 ∷ 0
    ∷ 1 ∷ 2 ∷ 0 ∷ 0 ∷ []
key_in_order = refl

pub other_key_in_order : key_bytes tableau_rules (with_stock space_first) ≡ 0 ∷ 1 ∷ 40 ∷ 0 ∷ 0 ∷ 2 ∷ 2 ∷ 0 ∷ 0 ∷ 0 ∷ 0
    ∷ 0 ∷ 2 ∷ 0 ∷ 1 ∷ 2 ∷ []
other_key_in_order = refl

two_ranks-playable : IsPlayable (two_ranks 2)
two_ranks-playable = record { no_conflict = refl }

ace_under_two-belongs : Belongs (two_ranks 2) ace_under_two
ace_under_two-belongs = record {
  piles = refl;
  faces = refl;
  cells = refl;
  reserve_size = omega arith;
  reserve_filled = refl;
  stock = omega arith;
  waste = refl;
  redeals_left = omega arith;
  foundations = refl;
  heights = refl;
  hole = refl;
  slots = refl;
  cards = ace_under_two-cards;
}

-- the black foundations' heights come first
pub ace_under_two-colours : colour_key_bytes (two_ranks 2) ace_under_two ≡ 0 ∷ 0 ∷ 0 ∷ 0 ∷ 2 ∷ 2 ∷ 2 ∷ 0 ∷ 0 ∷ 0 ∷ 0
    ∷ 2 ∷ 0 ∷ 1 ∷ 2 ∷ []
ace_under_two-colours = refl

-- spades in the place of clubs: another key, and the same colours
abbrev spades_left : Board
spades_left = board_of (up (ace Spades ∷ record (ace Spades) { rank = 2 } ∷ []) ∷ up [] ∷ []) (2 ∷ 2 ∷ 2 ∷ 0 ∷ [])

pub other_suit-key : key_bytes (two_ranks 2) spades_left ≡ 0 ∷ 0 ∷ 0 ∷ 2 ∷ 2 ∷ 2 ∷ 0 ∷ 0 ∷ 0 ∷ 0 ∷ 0 ∷ 2
    ∷ 0 ∷ 40 ∷ 41 ∷ []
other_suit-key = refl

pub same_colours : colour_key_bytes (two_ranks 2) spades_left ≡ colour_key_bytes (two_ranks 2) ace_under_two
same_colours = refl
