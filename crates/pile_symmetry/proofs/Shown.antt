-- What a key shows of cards, entries and piles: themselves, or each card as its colour and rank.
use Rattle.std.proofs.Common.{◌≡◌, ℕ, List, [], ◌∷◌, map, refl, ap}
use Rattle.std.specs.Prelude.{Option, Some, None}
use Rattle.std.specs.Option.{option_map}
use Rattle.std.proofs.Math.ListN.{get_or-map}
use Rattle.card_piles.specs.declared.Card.{Card}
use Rattle.game_rules.specs.Board.{Board, pile_at, entry_at, empty_pile}
use Rattle.game_rules.specs.Play.{is_empty}
use Rattle.same_boards.specs.Colours.{coloured, coloured_entry, coloured_pile, coloured_board}

-- the card itself
abbrev pub itself : Card → Card
itself card = card

pub cards-themselves : (cards : List Card) → map itself cards ≡ cards
cards-themselves [] = refl
cards-themselves (card ∷ cards) = ap (λ (xs : List Card). card ∷ xs) (cards-themselves cards)

pub entry-itself : (entry : Option Card) → option_map itself entry ≡ entry
entry-itself None = refl
entry-itself (Some card) = refl

pub entries-themselves : (entries : List (Option Card)) → map (option_map itself) entries ≡ entries
entries-themselves [] = refl
entries-themselves (None ∷ entries) = ap (λ (xs : List (Option Card)). None ∷ xs) (entries-themselves entries)
entries-themselves (Some card ∷ entries) = ap (λ (xs : List (Option Card)). Some card ∷ xs) (entries-themselves entries)

pub entry-coloured : (entry : Option Card) → option_map coloured entry ≡ coloured_entry entry
entry-coloured None = refl
entry-coloured (Some card) = refl

pub entries-coloured : (entries : List (Option Card)) → map (option_map coloured) entries ≡ map coloured_entry entries
entries-coloured [] = refl
entries-coloured (None ∷ entries) = ap (λ (xs : List (Option Card)). None ∷ xs) (entries-coloured entries)
entries-coloured (Some card ∷ entries) = ap (λ (xs : List (Option Card)). Some (coloured card) ∷ xs)
    (entries-coloured entries)

pub entry_at-coloured : (entries : List (Option Card)) (i : ℕ)
    → entry_at (map coloured_entry entries) i ≡ coloured_entry (entry_at entries i)
entry_at-coloured entries i = get_or-map coloured_entry entries i None

pub pile_at-coloured : (board : Board) (i : ℕ) → pile_at (coloured_board board) i ≡ coloured_pile (pile_at board i)
pile_at-coloured board i = get_or-map coloured_pile board.piles i empty_pile

-- any entry of a list as it is shown
pub entry_at-shown : (shown : Card → Card) (entries : List (Option Card)) (i : ℕ)
    → entry_at (map (option_map shown) entries) i ≡ option_map shown (entry_at entries i)
entry_at-shown shown entries i = get_or-map (option_map shown) entries i None

pub is_empty-shown : (shown : Card → Card) (cards : List Card) → is_empty (map shown cards) ≡ is_empty cards
is_empty-shown shown [] = refl
is_empty-shown shown (card ∷ cards) = refl
