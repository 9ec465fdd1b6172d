-- Keys that know colours and ranks alone tell apart exactly the boards that differ in more than the suits of a colour.
use Rattle.std.proofs.Common.{◌≡◌, ℕ, ◌+◌, ◌-◌, ◌*◌, ◌&&◌, Bool, true, false, ◌||◌, List, [], ◌∷◌, ◌++◌, map, length}
use Rattle.std.proofs.Common.{get_or, refl, ap, ap₂, sym, ◌∙◌, subst, arith, ◌≤◌, length-append}
use Rattle.std.specs.Prelude.{IsTrue, ◌↔◌, Option, Some, None, is_some, nat_eq, nat_le, if◌then◌else◌}
use Rattle.std.specs.List.{All, list_all}
use Rattle.std.specs.List.Sorted.{IsPermutation}
use Rattle.std.specs.Ordering.{nat_cmp}
use Rattle.std.proofs.lemmas.List.{nil_from_length, length-map}
use Rattle.std.proofs.lemmas.List.FromFn.{length-map-range_with_len}
use Rattle.std.proofs.lemmas.List.Elements.{All-map, All-append}
use Rattle.std.proofs.lemmas.List.Sorted.{IsPermutation-refl}
use Rattle.card_piles.specs.declared.Suit.{Suit}
use Rattle.card_piles.specs.declared.Suit.TheVariants.{Clubs, Diamonds, Hearts, Spades}
use Rattle.card_piles.specs.declared.Card.{Card}
use Rattle.card_piles.specs.Cards.{is_red}
use Rattle.game_rules.specs.declared.Face.{Face}
use Rattle.game_rules.specs.declared.Face.TheVariants.{AllUp, TopUp}
use Rattle.game_rules.specs.declared.RuleParts.{RuleParts}
use Rattle.game_rules.specs.Rules.{is_foundation_goal, is_hole_goal}
use Rattle.game_rules.specs.Playable.{IsPlayable, HasLimits}
use Rattle.game_rules.specs.Board.{Board, Pile, height_at}
use Rattle.game_rules.specs.Play.{is_empty}
use Rattle.game_rules.specs.Belonging.{Belongs, lies_well}
use Rattle.same_boards.specs.Same.{heights_of_suit}
use Rattle.same_boards.specs.Keys.{sorted_bytes, cards_in, card_byte}
use Rattle.same_boards.specs.Colours.{SameColours, coloured, coloured_entry, coloured_pile, coloured_board}
use Rattle.same_boards.specs.Colours.{black_heights, red_heights}
use Rattle.same_boards.specs.ColourKeys.{colour_height_bytes, colour_key_bytes}
use Rattle.game_rules.proofs.Limits.{limits_of}
use Rattle.same_boards.proofs.Sorting.{numbers_apart, sorted-same, permutation-from_sorted}
use Rattle.same_boards.proofs.SameKeys.{key-from_cards}
use Rattle.game_rules.specs.Ranked.{HasRanks}
use Rattle.game_rules.proofs.Ranks.{ranks-belong}
use Rattle.same_boards.proofs.BoardCards.{cards_of_piles}
use Rattle.same_boards.proofs.KeyParts.{IsGood, IsGoodEntry, IsGoodPile, same_split}
use Rattle.same_boards.proofs.KeysSame.{HasShape, shape_of, KeyParts, cards-from_key, if_size, if_same}
use Rattle.same_boards.proofs.KeyBytes.{IsByte, AreBytes, HasSmallNumbers, small_numbers, key_with-are_bytes, suit-are}
use Rattle.same_boards.proofs.KeyBytes.{sorted_bytes-are, if-are}
use Rattle.same_boards.proofs.KeySize.{sorted-size, IsSmall, small_board, key_with-short}

-- ---- a board's colours have the shape of the board

coloured-good : (cards : List Card) → All IsGood cards → All IsGood (map coloured cards)
coloured-good cards all = All-map IsGood coloured cards (λ k d h. all k d h)

entry-good : (entry : Option Card) → IsGoodEntry entry → IsGoodEntry (coloured_entry entry)
entry-good None good = tt
entry-good (Some card) good = good

entries-good : (entries : List (Option Card)) → All IsGoodEntry entries → All IsGoodEntry (map coloured_entry entries)
entries-good entries all = All-map IsGoodEntry coloured_entry entries
    (λ k d h. entry-good (get_or entries k d) (all k d h))

good-coloured : (board : Board) → HasRanks board → HasRanks (coloured_board board)
good-coloured board good = record {
  piles = All-map IsGoodPile coloured_pile board.piles
      (λ k d h. coloured-good (get_or board.piles k d).cards (good.piles k d h));
  cells = entries-good board.cells good.cells;
  reserve = entries-good board.reserve good.reserve;
  stock = coloured-good board.stock good.stock;
  waste = coloured-good board.waste good.waste;
  hole = coloured-good board.hole good.hole;
  slots = entries-good board.slots good.slots;
}

some-coloured : (entries : List (Option Card))
    → list_all (λ (e : Option Card). is_some e) (map coloured_entry entries) ≡ list_all
    (λ (e : Option Card). is_some e) entries
some-coloured [] = refl
some-coloured (None ∷ entries) = refl
some-coloured (Some card ∷ entries) = some-coloured entries

filled-coloured : (t : Bool) (n : ℕ) (entries : List (Option Card))
    → IsTrue (if t then list_all (λ (e : Option Card). is_some e) entries else nat_eq (length entries) n)
    → IsTrue (if t then list_all (λ (e : Option Card). is_some e) (map coloured_entry entries)
    else nat_eq (length (map coloured_entry entries)) n)
filled-coloured true n entries h = some-coloured entries ∙ h
filled-coloured false n entries h = ap (λ (m : ℕ). nat_eq m n) (length-map entries coloured_entry) ∙ h

empty-coloured : (cards : List Card) → is_empty (map coloured cards) ≡ is_empty cards
empty-coloured [] = refl
empty-coloured (card ∷ cards) = refl

shape-coloured : (rules : RuleParts) (board : Board) → HasShape rules board → HasShape rules (coloured_board board)
shape-coloured rules board shape = record {
  piles = length-map board.piles coloured_pile ∙ shape.piles;
  cells = length-map board.cells coloured_entry ∙ shape.cells;
  reserve_filled = filled-coloured rules.stacked rules.reserve board.reserve shape.reserve_filled;
  hole = ap (λ (t : Bool). is_hole_goal rules.goal || t) (empty-coloured board.hole) ∙ shape.hole;
  slots = length-map board.slots coloured_entry ∙ shape.slots;
}

-- ---- heights by colour

two_suits-size : (rules : RuleParts) (board : Board) (s t : ℕ)
    → length (heights_of_suit rules board s ++ heights_of_suit rules board t) ≡ 2 * rules.decks
two_suits-size rules board s t =
    let whole = length-append (heights_of_suit rules board s) (heights_of_suit rules board t) in
    let one : length (heights_of_suit rules board s) ≡ rules.decks = length-map-range_with_len
    (λ (deck : ℕ). height_at board (4 * deck + s)) 0 rules.decks in
    let other : length (heights_of_suit rules board t) ≡ rules.decks = length-map-range_with_len
    (λ (deck : ℕ). height_at board (4 * deck + t)) 0 rules.decks in
    omega (arith, whole, one, other)

black-size : (rules : RuleParts) (a b : Board)
    → length (sorted_bytes (black_heights rules a)) ≡ length (sorted_bytes (black_heights rules b))
black-size rules a b =
    sorted-size nat_cmp (black_heights rules a) ∙ two_suits-size rules a 0 3
    ∙ sym (sorted-size nat_cmp (black_heights rules b) ∙ two_suits-size rules b 0 3)

red-size : (rules : RuleParts) (a b : Board)
    → length (sorted_bytes (red_heights rules a)) ≡ length (sorted_bytes (red_heights rules b))
red-size rules a b =
    sorted-size nat_cmp (red_heights rules a) ∙ two_suits-size rules a 1 2
    ∙ sym (sorted-size nat_cmp (red_heights rules b) ∙ two_suits-size rules b 1 2)

both_heights : RuleParts → Board → List ℕ
both_heights rules board = sorted_bytes (black_heights rules board) ++ sorted_bytes (red_heights rules board)

both-size : (rules : RuleParts) (a b : Board) → length (both_heights rules a) ≡ length (both_heights rules b)
unfolding both_heights
both-size rules a b =
    let left = length-append (sorted_bytes (black_heights rules a)) (sorted_bytes (red_heights rules a)) in
    let right = length-append (sorted_bytes (black_heights rules b)) (sorted_bytes (red_heights rules b)) in
    let black = black-size rules a b in
    let red = red-size rules a b in
    omega (arith, left, right, black, red)

record ColourHeights (rules : RuleParts) (a b : Board) : Type 0 where
  black : IsPermutation (black_heights rules a) (black_heights rules b)
  red : IsPermutation (red_heights rules a) (red_heights rules b)

heights-from_colours : (rules : RuleParts) (a b : Board) (t : Bool)
    → length a.heights ≡ (if t then 4 * rules.decks else 0) → length b.heights ≡ (if t then 4 * rules.decks else 0)
    → (t ≡ true → both_heights rules a ≡ both_heights rules b) → ColourHeights rules a b
unfolding both_heights
heights-from_colours rules a b true size_a size_b same =
    let parts = same_split (sorted_bytes (black_heights rules a)) (sorted_bytes (black_heights rules b))
    (sorted_bytes (red_heights rules a)) (sorted_bytes (red_heights rules b)) (black-size rules a b) (same refl) in
    record {
      black = permutation-from_sorted nat_cmp (black_heights rules a) (black_heights rules b) parts.0;
      red = permutation-from_sorted nat_cmp (red_heights rules a) (red_heights rules b) parts.1;
    }
heights-from_colours rules a b false size_a size_b same =
    let none : a.heights ≡ b.heights = nil_from_length a.heights size_a ∙ sym (nil_from_length b.heights size_b) in
    record {
      black = subst (λ (heights : List ℕ). IsPermutation (black_heights rules a)
          (black_heights rules (record b { heights = heights }))) none (IsPermutation-refl (black_heights rules a));
      red = subst (λ (heights : List ℕ). IsPermutation (red_heights rules a)
          (red_heights rules (record b { heights = heights }))) none (IsPermutation-refl (red_heights rules a));
    }

-- ---- keys

pub colour_key-from_same : (rules : RuleParts) (a b : Board) → SameColours rules a b
    → colour_key_bytes rules a ≡ colour_key_bytes rules b
colour_key-from_same rules a b same =
    let black : sorted_bytes (black_heights rules a) ≡ sorted_bytes (black_heights rules b) =
    sorted-same nat_cmp numbers_apart (black_heights rules a) (black_heights rules b) same.black in
    let red : sorted_bytes (red_heights rules a) ≡ sorted_bytes (red_heights rules b) =
    sorted-same nat_cmp numbers_apart (red_heights rules a) (red_heights rules b) same.red in
    let heights : colour_height_bytes rules a ≡ colour_height_bytes rules b =
    ap (λ (x : List ℕ). if is_foundation_goal rules.goal then x else []) (ap₂ (λ (x y : List ℕ). x ++ y) black red) in
    key-from_cards rules (coloured_board a) (coloured_board b) (colour_height_bytes rules a)
    (colour_height_bytes rules b) same.cards heights

pub same-from_colour_key : (rules : RuleParts) (a b : Board) → IsPlayable rules → Belongs rules a → Belongs rules b
    → colour_key_bytes rules a ≡ colour_key_bytes rules b → SameColours rules a b
unfolding both_heights
same-from_colour_key rules a b playable in_a in_b e =
    let limits : HasLimits rules = limits_of rules playable in
    let parts : KeyParts rules (coloured_board a) (coloured_board b) (colour_height_bytes rules a)
    (colour_height_bytes rules b) =
    cards-from_key rules (coloured_board a) (coloured_board b) (colour_height_bytes rules a)
    (colour_height_bytes rules b)
    (good-coloured a (ranks-belong rules a limits in_a)) (good-coloured b (ranks-belong rules b limits in_b))
    (shape-coloured rules a (shape_of rules a in_a)) (shape-coloured rules b (shape_of rules b in_b))
    (if_size (is_foundation_goal rules.goal) (both_heights rules a) (both_heights rules b) (both-size rules a b)) e in
    let heights : ColourHeights rules a b =
    heights-from_colours rules a b (is_foundation_goal rules.goal) in_a.foundations in_b.foundations
    (if_same (is_foundation_goal rules.goal) (both_heights rules a) (both_heights rules b) parts.heights) in
    record { cards = parts.cards; black = heights.black; red = heights.red }

-- two boards of the same rules have one key of colours exactly where they are the same up to suits of a colour
pub colour_key-same : (rules : RuleParts) (a b : Board) → IsPlayable rules → Belongs rules a → Belongs rules b
    → (colour_key_bytes rules a ≡ colour_key_bytes rules b) ↔ SameColours rules a b
colour_key-same rules a b playable in_a in_b =
    (same-from_colour_key rules a b playable in_a in_b, colour_key-from_same rules a b)

-- ---- a colour key is as short as a key

cards_in-coloured : (entries : List (Option Card))
    → length (cards_in (map coloured_entry entries)) ≡ length (cards_in entries)
cards_in-coloured [] = refl
cards_in-coloured (None ∷ entries) = cards_in-coloured entries
cards_in-coloured (Some card ∷ entries) = let rest = cards_in-coloured entries in omega (arith, rest)

piles-coloured : (piles : List Pile) → length (cards_of_piles (map coloured_pile piles)) ≡ length (cards_of_piles piles)
piles-coloured [] = refl
piles-coloured (pile ∷ piles) =
    let left = length-append (map coloured pile.cards) (cards_of_piles (map coloured_pile piles)) in
    let right = length-append pile.cards (cards_of_piles piles) in
    let one : length (map coloured pile.cards) ≡ length pile.cards = length-map pile.cards coloured in
    let rest = piles-coloured piles in
    omega (arith, left, right, one, rest)

small-coloured : (rules : RuleParts) (board : Board) → IsSmall rules board → IsSmall rules (coloured_board board)
small-coloured rules board small =
    let piles : length (map coloured_pile board.piles) ≡ length board.piles = length-map board.piles coloured_pile in
    let cells : length (map coloured_entry board.cells) ≡ length board.cells = length-map board.cells coloured_entry in
    let reserve : length (map coloured_entry board.reserve) ≡ length board.reserve =
    length-map board.reserve coloured_entry in
    let stock : length (map coloured board.stock) ≡ length board.stock = length-map board.stock coloured in
    let waste : length (map coloured board.waste) ≡ length board.waste = length-map board.waste coloured in
    let slots : length (map coloured_entry board.slots) ≡ length board.slots = length-map board.slots coloured_entry in
    let reserve_most : length board.reserve ≤ rules.reserve = small.reserve in
    let stock_most : length board.stock + length board.waste ≤ rules.stock = small.stock in
    let cards : length (cards_of_piles board.piles) + length (cards_in board.cells) + length (cards_in board.reserve)
    + length board.stock + length board.waste ≤ 52 * rules.decks = small.cards in
    record {
      piles = piles ∙ small.piles;
      cells = cells ∙ small.cells;
      reserve = omega (arith, reserve, reserve_most);
      stock = omega (arith, stock, waste, stock_most);
      slots = slots ∙ small.slots;
      cards = omega (
        arith,
        piles-coloured board.piles,
        cards_in-coloured board.cells,
        cards_in-coloured board.reserve,
        stock,
        waste,
        cards,
      );
    }

both-count : (rules : RuleParts) (board : Board) → length (both_heights rules board) ≡ 4 * rules.decks
unfolding both_heights
both-count rules board =
    let whole = length-append (sorted_bytes (black_heights rules board)) (sorted_bytes (red_heights rules board)) in
    let black : length (sorted_bytes (black_heights rules board)) ≡ 2 * rules.decks = sorted-size nat_cmp
    (black_heights rules board) ∙ two_suits-size rules board 0 3 in
    let red : length (sorted_bytes (red_heights rules board)) ≡ 2 * rules.decks = sorted-size nat_cmp
    (red_heights rules board) ∙ two_suits-size rules board 1 2 in
    omega (arith, whole, black, red)

pub colour_key-short : (rules : RuleParts) (board : Board) → IsPlayable rules → Belongs rules board
    → length (colour_key_bytes rules board) ≤ 157
unfolding both_heights
colour_key-short rules board playable belongs =
    key_with-short rules (coloured_board board) (both_heights rules board) playable
    (small-coloured rules board (small_board rules board (limits_of rules playable) belongs)) (both-count rules board)

-- ---- each number of a colour key is a byte

face-coloured : (face : Face) (pile : Pile) → lies_well face (coloured_pile pile) ≡ lies_well face pile
face-coloured AllUp pile = refl
face-coloured TopUp pile = ap (λ (n : ℕ). nat_le pile.face_down (n - 1)) (length-map pile.cards coloured)

faces-coloured : (face : Face) (piles : List Pile) → list_all (lies_well face) (map coloured_pile piles) ≡ list_all
    (lies_well face) piles
faces-coloured face [] = refl
faces-coloured face (pile ∷ piles) =
    ap₂ (λ (a b : Bool). a && b) (face-coloured face pile) (faces-coloured face piles)

pub numbers-coloured : (rules : RuleParts) (board : Board) → HasSmallNumbers rules board
    → HasSmallNumbers rules (coloured_board board)
numbers-coloured rules board small =
    let stock : length (map coloured board.stock) ≡ length board.stock = length-map board.stock coloured in
    let waste : length (map coloured board.waste) ≡ length board.waste = length-map board.waste coloured in
    let hole : length (map coloured board.hole) ≡ length board.hole = length-map board.hole coloured in
    let in_piles = piles-coloured board.piles in
    let in_cells = cards_in-coloured board.cells in
    let in_reserve = cards_in-coloured board.reserve in
    let cards = small.cards in
    let hole_few = small.hole in
    record {
      redeals_left = small.redeals_left;
      faces = faces-coloured rules.face board.piles ∙ small.faces;
      ranks = good-coloured board small.ranks;
      cards = omega (arith, in_piles, in_cells, in_reserve, stock, waste, cards);
      hole = omega (arith, hole, hole_few);
    }

two_suits-are : (rules : RuleParts) (board : Board) (s t : ℕ) → HasLimits rules → Belongs rules board
    → AreBytes (sorted_bytes (heights_of_suit rules board s ++ heights_of_suit rules board t))
two_suits-are rules board s t limits belongs =
    sorted_bytes-are (heights_of_suit rules board s ++ heights_of_suit rules board t)
    (All-append IsByte (heights_of_suit rules board s) (heights_of_suit rules board t)
    (suit-are rules board s limits belongs) (suit-are rules board t limits belongs))

colour_heights-are : (rules : RuleParts) (board : Board) → HasLimits rules → Belongs rules board
    → AreBytes (both_heights rules board)
unfolding both_heights
colour_heights-are rules board limits belongs =
    All-append IsByte (sorted_bytes (black_heights rules board)) (sorted_bytes (red_heights rules board))
    (two_suits-are rules board 0 3 limits belongs) (two_suits-are rules board 1 2 limits belongs)

pub colour_key-are_bytes : (rules : RuleParts) (board : Board) → IsPlayable rules → Belongs rules board
    → AreBytes (colour_key_bytes rules board)
unfolding both_heights
colour_key-are_bytes rules board playable belongs =
    key_with-are_bytes rules (coloured_board board) (colour_height_bytes rules board)
    (numbers-coloured rules board (small_numbers rules board playable belongs))
    (if-are (is_foundation_goal rules.goal) (both_heights rules board)
    (colour_heights-are rules board (limits_of rules playable) belongs))

-- a coloured card's byte is its rank, and 13 more where it is red
pub coloured-byte : (suit : Suit) (rank : ℕ) → 1 ≤ rank
    → card_byte (coloured (record { suit = suit; rank = rank })) ≡ (if is_red suit then rank + 13 else rank)
coloured-byte Clubs rank h = omega arith
coloured-byte Diamonds rank h = omega arith
coloured-byte Hearts rank h = omega arith
coloured-byte Spades rank h = omega arith
