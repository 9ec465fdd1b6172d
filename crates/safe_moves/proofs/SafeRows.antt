-- Small boards with and without a safe move, worked out by the definitions alone.
use Rattle.std.proofs.Common.{◌≡◌, ℕ, true, false, List, [], ◌∷◌, refl}
use Rattle.std.specs.Prelude.{Option, None, Some}
use Rattle.card_piles.specs.declared.Suit.TheVariants.{Clubs}
use Rattle.card_piles.specs.declared.Build.TheVariants.{RedBlack}
use Rattle.game_rules.specs.declared.RuleParts.{RuleParts}
use Rattle.game_rules.specs.declared.Spaces.TheVariants.{NoFill}
use Rattle.game_rules.specs.declared.Move.{Move}
use Rattle.game_rules.specs.declared.Move.TheVariants.{Carry}
use Rattle.game_rules.specs.declared.Place.TheVariants.{Tableau, Cell, Foundation}
use Rattle.game_rules.specs.Board.{Board, Pile}
use Rattle.game_rules.proofs.SmallWords.{board_of, card, plain, up}
use Rattle.safe_moves.specs.Safe.{first_safe, is_safe}

-- four ranks, two piles, one cell, and cards that build on the other colour
abbrev four_ranks : ℕ → RuleParts
four_ranks decks =
    record (plain 4 2) { decks = decks; build = RedBlack; group_build = RedBlack; spaces = NoFill; cells = 1 }

-- a board with a free cell
abbrev with_free_cell : List Pile → List ℕ → Board
with_free_cell piles heights = record (board_of piles heights) { cells = None ∷ [] }

-- an ace is safe, and its move home is the one step
abbrev ace_free : Board
ace_free = with_free_cell (up (card Clubs 2 ∷ card Clubs 3 ∷ card Clubs 4 ∷ []) ∷ up (card Clubs 1 ∷ []) ∷ [])
    (0 ∷ 4 ∷ 4 ∷ 4 ∷ [])

pub ace_free-first : first_safe (four_ranks 1) ace_free ≡ Some (Carry (Tableau 1) (Foundation 0) 1)
ace_free-first = refl

-- a two is safe only once both aces of the other colour are home, and with one deck
abbrev two_free : ℕ → ℕ → Board
two_free diamonds hearts = with_free_cell (up (card Clubs 2 ∷ []) ∷ up [] ∷ []) (1 ∷ diamonds ∷ hearts ∷ 4 ∷ [])

abbrev two_home : Move
two_home = Carry (Tableau 0) (Foundation 0) 1

pub two_needed_by_both : is_safe (four_ranks 1) (two_free 0 0) two_home ≡ false
two_needed_by_both = refl

pub two_needed_by_one : is_safe (four_ranks 1) (two_free 1 0) two_home ≡ false
two_needed_by_one = refl

pub two_needed_by_none : is_safe (four_ranks 1) (two_free 1 1) two_home ≡ true
two_needed_by_none = refl

pub two_of_two_decks : is_safe (four_ranks 2) (two_free 1 1) two_home ≡ false
two_of_two_decks = refl

-- a move to a cell is never safe
pub to_cell : is_safe (four_ranks 1) (two_free 1 1) (Carry (Tableau 0) (Cell 0) 1) ≡ false
to_cell = refl
