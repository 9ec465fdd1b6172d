-- How a shuffled deck is laid out, in seven steps. Cards are taken from the front of the deck, and the
-- first card that is laid on a list lies at its bottom.
use Rattle.std.specs.Prelude.{ℕ, ◌-◌, ◌%◌, ◌==◌, not, List, [], ◌∷◌, ◌++◌, map, length, take, drop, replicate, Option}
use Rattle.std.specs.Prelude.{Some, None, slice_index_or, slice_set, if◌then◌else◌}
use Rattle.std.specs.List.{filter, flat_map, range_with_len}
use Rattle.card_piles.specs.declared.Card.{Card}
use Rattle.game_rules.specs.declared.RuleParts.{RuleParts}
use Rattle.game_rules.specs.declared.Face.{Face}
use Rattle.game_rules.specs.declared.Face.TheVariants.{AllUp, TopUp}
use Rattle.game_rules.specs.declared.Goal.{Goal}
use Rattle.game_rules.specs.declared.Goal.TheVariants.{Foundations, Hole, Sequences}
use Rattle.game_rules.specs.declared.HoleStart.TheVariants.{Dealt, Named}
use Rattle.game_rules.specs.declared.Layout.{Layout}
use Rattle.game_rules.specs.declared.Layout.TheVariants.{Even, Triangle}
use Rattle.game_rules.specs.Rules.{base_of, is_sequence_goal, is_started}
use Rattle.game_rules.specs.Board.{Board, Pile}
use Rattle.game_rules.specs.Belonging.{foundation_count, most_redeals, same_card}
use Rattle.game_rules.specs.Position.{filled}

-- Step 1. Where the foundations are started, all cards of their first rank are taken out of the deck
-- and put on the foundations.

-- the cards that stay in the deck, in their order
abbrev pub after_foundations : RuleParts → List Card → List Card
after_foundations rules deck =
    if is_started rules.goal then filter (λ card. not (card.rank == base_of rules.goal)) deck else deck

-- the height of each foundation
abbrev pub dealt_heights : RuleParts → List ℕ
dealt_heights rules = replicate (foundation_count rules) (if is_started rules.goal then 1 else 0)

-- Step 2. A named card is taken out of the deck and put in the hole; else the next card is put there.

-- the cards without the first one that is this card
abbrev pub without_first : Card → List Card → List Card
without_first card [] = []
without_first card (next ∷ cards) = if same_card card next then cards else next ∷ without_first card cards

-- the cards of the hole
abbrev pub dealt_hole : Goal → List Card → List Card
dealt_hole (Foundations base started take_back complete_runs) cards = []
dealt_hole (Hole wrap Dealt) cards = take 1 cards
dealt_hole (Hole wrap (Named card)) cards = card ∷ []
dealt_hole Sequences cards = []

-- the cards that the hole leaves
abbrev pub beside_hole : Goal → List Card → List Card
beside_hole (Foundations base started take_back complete_runs) cards = cards
beside_hole (Hole wrap Dealt) cards = drop 1 cards
beside_hole (Hole wrap (Named card)) cards = without_first card cards
beside_hole Sequences cards = cards

-- the cards after step 2
abbrev pub after_hole : RuleParts → List Card → List Card
after_hole rules deck = beside_hole rules.goal (after_foundations rules deck)

-- Step 3. The next cards fill so many cells, from cell 0 on.

-- the cells after the deal
abbrev pub dealt_cells : RuleParts → List Card → List (Option Card)
dealt_cells rules deck = filled rules.cells None
    (map (λ card. Some card) (take rules.cells_filled (after_hole rules deck)))

-- the cards after step 3
abbrev pub after_cells : RuleParts → List Card → List Card
after_cells rules deck = drop rules.cells_filled (after_hole rules deck)

-- Step 4. The next cards fill the reserve, from entry 0 on, or from the bottom where it is stacked.

-- the reserve after the deal
abbrev pub dealt_reserve : RuleParts → List Card → List (Option Card)
dealt_reserve rules deck = map (λ card. Some card) (take rules.reserve (after_cells rules deck))

-- the cards after step 4
abbrev pub after_reserve : RuleParts → List Card → List Card
after_reserve rules deck = drop rules.reserve (after_cells rules deck)

-- Step 5. The next cards make the stock.

-- the stock after the deal
abbrev pub dealt_stock : RuleParts → List Card → List Card
dealt_stock rules deck = take rules.stock (after_reserve rules deck)

-- the cards after step 5
abbrev pub after_stock : RuleParts → List Card → List Card
after_stock rules deck = drop rules.stock (after_reserve rules deck)

-- Steps 6 and 7. All other cards are laid on the piles, one at a time.

-- the next cards go to the piles of these numbers, one card each
abbrev pub laid_on : List ℕ → List Card → List (List Card) → List (List Card)
laid_on [] cards piles = piles
laid_on (i ∷ order) [] piles = piles
laid_on (i ∷ order) (card ∷ cards) piles =
    laid_on order cards (slice_set piles i (slice_index_or piles i [] ++ card ∷ []))

-- Step 6. In a triangle, for each row from 0 on, the piles from the row's number to the last in order.
abbrev pub triangle_order : Layout → ℕ → List ℕ
triangle_order Even piles = []
triangle_order Triangle piles = flat_map (λ row. range_with_len row (piles - row)) (range_with_len 0 piles)

-- Step 7. For the n cards that remain, the piles in order, over and over.
abbrev pub round_order : ℕ → ℕ → List ℕ
round_order piles n = map (λ k. k % piles) (range_with_len 0 n)

-- the piles after both steps, where all of these cards are laid on them
abbrev pub all_laid : Layout → ℕ → List Card → List (List Card) → List (List Card)
all_laid layout count cards piles =
    let rows = triangle_order layout count in
    let rest = drop (length rows) cards in
    laid_on (round_order count (length rest)) rest (laid_on rows cards piles)

-- the cards of each pile
abbrev pub piles_laid : Layout → ℕ → List Card → List (List Card)
piles_laid layout count cards = all_laid layout count cards (replicate count [])

-- a pile with these cards, and all but its top face down where only tops lie face up
abbrev pub turned : Face → List Card → Pile
turned AllUp cards = record { cards = cards; face_down = 0 }
turned TopUp cards = record { cards = cards; face_down = length cards - 1 }

-- the piles after the deal
abbrev pub dealt_piles : RuleParts → List Card → List Pile
dealt_piles rules deck = map (turned rules.face) (piles_laid rules.layout rules.piles (after_stock rules deck))

-- the board on which the deck is laid out
abbrev pub laid_out : RuleParts → List Card → Board
laid_out rules deck = record {
  piles = dealt_piles rules deck;
  cells = dealt_cells rules deck;
  reserve = dealt_reserve rules deck;
  stock = dealt_stock rules deck;
  waste = [];
  redeals_left = most_redeals rules.redeals;
  heights = dealt_heights rules;
  hole = dealt_hole rules.goal (after_foundations rules deck);
  slots = [];
}

-- In a game of sequences there is nothing but the rows.

-- the slot of a card: each ace becomes a gap
abbrev pub slot_for : Card → Option Card
slot_for card = if card.rank == 1 then None else Some card

-- the board whose slots the deck fills in order
abbrev pub laid_in_rows : RuleParts → List Card → Board
laid_in_rows rules deck = record {
  piles = [];
  cells = [];
  reserve = [];
  stock = [];
  waste = [];
  redeals_left = most_redeals rules.redeals;
  heights = [];
  hole = [];
  slots = map slot_for deck;
}

-- the board of a deck
abbrev pub board_of_deck : RuleParts → List Card → Board
board_of_deck rules deck = if is_sequence_goal rules.goal then laid_in_rows rules deck else laid_out rules deck
