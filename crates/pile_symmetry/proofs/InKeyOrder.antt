-- The board in the order of its key is the same board, and has its places.
use Rattle.std.proofs.Common.{◌≡◌, ℕ, zero, suc, ◌+◌, ◌-◌, ◌*◌, ◌/◌, ◌%◌, ◌<◌, ◌≤◌, Bool, true, false, List, [], ◌∷◌}
use Rattle.std.proofs.Common.{◌++◌, map, take, drop, length, get_or, replicate, refl, ap, ap₂, sym, ◌∙◌, subst}
use Rattle.std.proofs.Common.{arith, length-append}
use Rattle.std.specs.Prelude.{IsTrue, MatchBool, Option, Some, None, is_some, nat_eq, if◌then◌else◌}
use Rattle.std.specs.List.{All, list_all, concat, range_with_len}
use Rattle.std.specs.List.Sorted.{IsPermutation}
use Rattle.std.specs.Ordering.{nat_cmp}
use Rattle.std.specs.Cmp.Lexicographic.{slice_cmp}
use Rattle.std.proofs.Math.Seq.{take-append_seam, drop-append-add}
use Rattle.std.proofs.lemmas.List.{length-map, nil_from_length, get_or-map, take-map, drop-map}
use Rattle.std.proofs.lemmas.List.{get_or_append_left, get_or-append-add}
use Rattle.std.proofs.lemmas.List.Elements.{All-head, All-tail}
use Rattle.std.proofs.lemmas.List.FromFn.{fill_by_all, length-map-range_with_len, get_or-map-range_with_len}
use Rattle.std.proofs.lemmas.List.Sorted.{IsPermutation-refl, IsPermutation-map, length_permutation}
use Rattle.std.proofs.lemmas.Nat.{div-mul-add, mod-mul-add}
use Rattle.std.proofs.lemmas.Bool.{eqb-true}
use Rattle.card_piles.specs.declared.Card.{Card}
use Rattle.game_rules.specs.declared.RuleParts.{RuleParts}
use Rattle.game_rules.specs.Rules.{is_foundation_goal, is_sequence_goal}
use Rattle.game_rules.specs.Board.{Board, Pile, top_of, height_at}
use Rattle.game_rules.specs.Winning.{rows_of}
use Rattle.game_rules.specs.Belonging.{Belongs, foundation_count}
use Rattle.game_rules.specs.Position.{filled}
use Rattle.game_rules.specs.Ranked.{HasRanks}
use Rattle.game_rules.proofs.PositionFacts.{length-filled}
use Rattle.same_boards.specs.Same.{Same, keeps_pile_order, heights_of_suit}
use Rattle.same_boards.specs.Keys.{sorted_bytes, sorted_lists, card_byte, card_bytes, cards_in, height_bytes}
use Rattle.same_boards.specs.Keys.{pile_bytes, row_bytes}
use Rattle.same_boards.proofs.Sorting.{sorted-permutation}
use Rattle.same_boards.specs.Bytes.{card_of_byte, entry_of_byte}
use Rattle.same_boards.proofs.KeyParts.{pile_of_bytes, cards-back, row-back, map-back}
use Rattle.same_boards.proofs.KeyParts.{card-back, pile-back, IsGood, IsGoodEntry, IsGoodPile}
use Rattle.same_boards.proofs.KeysSame.{some_card, entries-permutation, filled as all-filled, good_cards_in, good_rows}
use Rattle.same_boards.proofs.KeysSame.{IsGoodRow, all_heights, suit_size, sorted_rows}
use Rattle.same_boards.proofs.KeysSame.{sorted_rows-long, sorted_rows-size}
use Rattle.same_boards.proofs.SameAfter.{HasPlaces}
use Rattle.pile_symmetry.specs.Reading.{card_entry, height_in}
use Rattle.pile_symmetry.proofs.ReadBack.{in_key_order}

-- ---- cards from the bytes in order

permuted-back : (xs : List Card) → All IsGood xs → IsPermutation xs (map card_of_byte (sorted_bytes (card_bytes xs)))
permuted-back xs good =
    subst (λ (ys : List Card). IsPermutation ys (map card_of_byte (sorted_bytes (card_bytes xs)))) (cards-back xs good)
    (IsPermutation-map card_of_byte (card_bytes xs) (sorted_bytes (card_bytes xs))
    (sorted-permutation nat_cmp (card_bytes xs)))

cards_in-held : (bytes : List ℕ) (n : ℕ) → cards_in (map card_entry bytes ++ replicate n None) ≡ map card_of_byte bytes
cards_in-held [] zero = refl
cards_in-held [] (suc n) = cards_in-held [] n
cards_in-held (byte ∷ bytes) n = ap (λ (cs : List Card). card_of_byte byte ∷ cs) (cards_in-held bytes n)

cards_in-few : (entries : List (Option Card)) → length (cards_in entries) ≤ length entries
cards_in-few [] = omega arith
cards_in-few (None ∷ entries) = let rest = cards_in-few entries in omega (arith, rest)
cards_in-few (Some card ∷ entries) = let rest = cards_in-few entries in omega (arith, rest)

held-size : (entries : List (Option Card)) (n : ℕ) → length entries ≡ n
    → length (filled n None (map card_entry (sorted_bytes (card_bytes (cards_in entries))))) ≡ n
held-size entries n size =
    let bytes : List ℕ = sorted_bytes (card_bytes (cards_in entries)) in
    let one = length-map bytes card_entry in
    let two = length_permutation (card_bytes (cards_in entries)) bytes
    (sorted-permutation nat_cmp (card_bytes (cards_in entries))) in
    let three = length-map (cards_in entries) card_byte in
    let few = cards_in-few entries in
    length-filled n None (map card_entry bytes) (omega (arith, one, two, three, few, size))

held-permuted : (entries : List (Option Card)) (n : ℕ) → All IsGoodEntry entries → length entries ≡ n
    → IsPermutation entries (filled n None (map card_entry (sorted_bytes (card_bytes (cards_in entries)))))
held-permuted entries n good size =
    let bytes : List ℕ = sorted_bytes (card_bytes (cards_in entries)) in
    let cards = cards_in-held bytes (n - length (map card_entry bytes)) in
    entries-permutation entries (filled n None (map card_entry bytes)) (size ∙ sym (held-size entries n size))
    (subst (λ (cs : List Card). IsPermutation (cards_in entries) cs) (sym cards)
    (permuted-back (cards_in entries) (good_cards_in entries good)))

held-back : (xs : List Card) → All IsGood xs → map card_entry (card_bytes xs) ≡ map some_card xs
unfolding some_card
held-back [] good = refl
held-back (x ∷ xs) good =
    ap₂ (λ (c : Card) (cs : List (Option Card)). Some c ∷ cs) (card-back x (All-head IsGood x xs good))
    (held-back xs (All-tail IsGood x xs good))

reserve-permuted : (t : Bool) (n : ℕ) (entries : List (Option Card)) → All IsGoodEntry entries
    → IsTrue (if t then list_all (λ (e : Option Card). is_some e) entries else nat_eq (length entries) n)
    → MatchBool t
    (entries ≡ (if t
    then map card_entry (if t then card_bytes (cards_in entries) else sorted_bytes (card_bytes (cards_in entries)))
    else filled n None
    (map card_entry (if t then card_bytes (cards_in entries) else sorted_bytes (card_bytes (cards_in entries))))))
    (IsPermutation entries (if t
    then map card_entry (if t then card_bytes (cards_in entries) else sorted_bytes (card_bytes (cards_in entries)))
    else filled n None
    (map card_entry (if t then card_bytes (cards_in entries) else sorted_bytes (card_bytes (cards_in entries))))))
reserve-permuted true n entries good full = all-filled entries full
    ∙ sym (held-back (cards_in entries) (good_cards_in entries good))
reserve-permuted false n entries good full = held-permuted entries n good (eqb-true (length entries) n full)

-- ---- piles

piles-permuted : (t : Bool) (piles : List Pile) → All IsGoodPile piles
    → MatchBool t (piles ≡ map pile_of_bytes (if t then map pile_bytes piles else sorted_lists (map pile_bytes piles)))
    (IsPermutation piles (map pile_of_bytes (if t then map pile_bytes piles else sorted_lists (map pile_bytes piles))))
piles-permuted true piles good = sym (map-back pile_bytes pile_of_bytes IsGoodPile pile-back piles good)
piles-permuted false piles good =
    subst (λ (ps : List Pile). IsPermutation ps (map pile_of_bytes (sorted_lists (map pile_bytes piles))))
    (map-back pile_bytes pile_of_bytes IsGoodPile pile-back piles good)
    (IsPermutation-map pile_of_bytes (map pile_bytes piles) (sorted_lists (map pile_bytes piles))
    (sorted-permutation (slice_cmp nat_cmp) (map pile_bytes piles)))

-- ---- rows

-- lists of one length, joined and cut again
cut-back : (m : ℕ) (lines : List (List ℕ)) (r : ℕ) (d : List ℕ) → All (λ (line : List ℕ). length line ≡ m) lines
    → r < length lines
    → take m (drop (r * m) (concat lines)) ≡ get_or lines r d
cut-back m [] r d long inside = absurd (omega arith)
cut-back m (line ∷ lines) zero d long inside =
    let size : length line ≡ m = All-head (λ (line : List ℕ). length line ≡ m) line lines long in
    let none : 0 * m ≡ 0 = omega arith in
    ap (λ (k : ℕ). take m (drop k (line ++ concat lines))) none
    ∙ ap (λ (k : ℕ). take k (line ++ concat lines)) (sym size)
    ∙ take-append_seam line (concat lines)
cut-back m (line ∷ lines) (suc r) d long inside =
    let size : length line ≡ m = All-head (λ (line : List ℕ). length line ≡ m) line lines long in
    let more : suc r * m ≡ length line + r * m = omega (arith, size) in
    ap (λ (k : ℕ). take m (drop k (line ++ concat lines))) more
    ∙ ap (take m) (drop-append-add line (concat lines) (r * m))
    ∙ cut-back m lines r d (All-tail (λ (line : List ℕ). length line ≡ m) line lines long) (omega arith)

pub rows-cut : (rules : RuleParts) (n : ℕ) (lines : List (List ℕ))
    → All (λ (line : List ℕ). length line ≡ rules.max_rank) lines → length lines ≡ n
    → map (λ r. take rules.max_rank (drop (r * rules.max_rank) (map entry_of_byte (concat lines))))
    (range_with_len 0 n) ≡ map (map entry_of_byte) lines
rows-cut rules n lines long size =
    let many : length (map (map entry_of_byte) lines) ≡ n = length-map lines (map entry_of_byte) ∙ size in
    sym (fill_by_all (λ (r : ℕ). take rules.max_rank (drop (r * rules.max_rank) (map entry_of_byte (concat lines))))
    (map (map entry_of_byte) lines) n [] many
    (λ k inside.
    get_or-map (map entry_of_byte) lines k [] [] (omega (arith, inside, size))
    ∙ sym (ap (take rules.max_rank) (drop-map entry_of_byte (k * rules.max_rank) (concat lines))
    ∙ take-map entry_of_byte rules.max_rank (drop (k * rules.max_rank) (concat lines))
    ∙ ap (map entry_of_byte) (cut-back rules.max_rank lines k [] long (omega (arith, inside, size))))))

rows-permuted : (rules : RuleParts) (board : Board) (t : Bool) → All IsGoodEntry board.slots
    → length board.slots ≡ (if t then 4 * rules.decks * rules.max_rank else 0)
    → IsPermutation (rows_of rules board) (rows_of rules
    (record board { slots = map entry_of_byte (if t then concat (sorted_rows rules board) else []) }))
rows-permuted rules board true good size =
    let rows : List (List (Option Card)) = rows_of rules board in
    let back : map (map entry_of_byte) (map row_bytes rows) ≡ rows = map-back row_bytes
    (map entry_of_byte) IsGoodRow row-back rows (good_rows rules board good) in
    let cut = rows-cut rules (4 * rules.decks) (sorted_rows rules board) (sorted_rows-long rules board size)
    (sorted_rows-size rules board) in
    let moved : IsPermutation (map (map entry_of_byte) (map row_bytes rows))
    (map (map entry_of_byte) (sorted_rows rules board)) =
    IsPermutation-map (map entry_of_byte) (map row_bytes rows) (sorted_rows rules board)
    (sorted-permutation (slice_cmp nat_cmp) (map row_bytes rows)) in
    let from : IsPermutation rows (map (map entry_of_byte) (sorted_rows rules board)) =
    subst (λ (xs : List (List (Option Card))). IsPermutation xs (map (map entry_of_byte) (sorted_rows rules board)))
    back moved in
    subst (λ (xs : List (List (Option Card))). IsPermutation rows xs) (sym cut) from
rows-permuted rules board false good size =
    let none : board.slots ≡ [] = nil_from_length board.slots size in
    subst (λ (slots : List (Option Card)). IsPermutation (rows_of rules board)
    (rows_of rules (record board { slots = slots }))) none (IsPermutation-refl (rows_of rules board))

concat-size : (m : ℕ) (lines : List (List ℕ)) → All (λ (line : List ℕ). length line ≡ m) lines
    → length (concat lines) ≡ length lines * m
concat-size m [] long = omega arith
concat-size m (line ∷ lines) long =
    let size : length line ≡ m = All-head (λ (line : List ℕ). length line ≡ m) line lines long in
    let rest = concat-size m lines (All-tail (λ (line : List ℕ). length line ≡ m) line lines long) in
    let whole = length-append line (concat lines) in
    let more : suc (length lines) * m ≡ m + length lines * m = omega arith in
    omega (arith, size, rest, whole, more)

rows-size : (rules : RuleParts) (board : Board) (t : Bool)
    → length board.slots ≡ (if t then 4 * rules.decks * rules.max_rank else 0)
    → length (map entry_of_byte (if t then concat (sorted_rows rules board) else []))
    ≡ (if t then 4 * rules.decks * rules.max_rank else 0)
rows-size rules board true size =
    length-map (concat (sorted_rows rules board)) entry_of_byte
    ∙ concat-size rules.max_rank (sorted_rows rules board) (sorted_rows-long rules board size)
    ∙ ap (λ (n : ℕ). n * rules.max_rank) (sorted_rows-size rules board)
rows-size rules board false size = refl

-- ---- heights

past_front : (xs r : List ℕ) (i k : ℕ) → i ≡ length xs + k → get_or (xs ++ r) i 0 ≡ get_or r k 0
past_front xs r i k e = ap (λ (j : ℕ). get_or (xs ++ r) j 0) e ∙ get_or-append-add xs r k 0

-- the heights of a suit among those of all
suit-back : (rules : RuleParts) (board : Board) (suit deck : ℕ) → suit < 4 → deck < rules.decks
    → get_or (all_heights rules board) (suit * rules.decks + deck) 0 ≡ get_or
    (sorted_bytes (heights_of_suit rules board suit)) deck 0
suit-back rules board zero deck small inside =
    let size = suit_size rules board 0 in
    let here : 0 * rules.decks + deck ≡ deck = omega arith in
    ap (λ (j : ℕ). get_or (all_heights rules board) j 0) here
    ∙ get_or_append_left (sorted_bytes (heights_of_suit rules board 0)) _ 0 deck (omega (arith, size, inside))
suit-back rules board (suc zero) deck small inside =
    let first = suit_size rules board 0 in
    let size = suit_size rules board 1 in
    past_front (sorted_bytes (heights_of_suit rules board 0)) _ (suc zero * rules.decks + deck) deck
    (omega (arith, first))
    ∙ get_or_append_left (sorted_bytes (heights_of_suit rules board 1)) _ 0 deck (omega (arith, size, inside))
suit-back rules board (suc (suc zero)) deck small inside =
    let first = suit_size rules board 0 in
    let second = suit_size rules board 1 in
    let size = suit_size rules board 2 in
    past_front (sorted_bytes (heights_of_suit rules board 0)) _ (suc (suc zero) * rules.decks + deck)
    (rules.decks + deck) (omega (arith, first))
    ∙ past_front (sorted_bytes (heights_of_suit rules board 1)) _ (rules.decks + deck) deck (omega (arith, second))
    ∙ get_or_append_left (sorted_bytes (heights_of_suit rules board 2)) _ 0 deck (omega (arith, size, inside))
suit-back rules board (suc (suc (suc zero))) deck small inside =
    let first = suit_size rules board 0 in
    let second = suit_size rules board 1 in
    let third = suit_size rules board 2 in
    past_front (sorted_bytes (heights_of_suit rules board 0)) _ (suc (suc (suc zero)) * rules.decks + deck)
    (2 * rules.decks + deck) (omega (arith, first))
    ∙ past_front (sorted_bytes (heights_of_suit rules board 1)) _ (2 * rules.decks + deck) (rules.decks + deck)
    (omega (arith, second))
    ∙ past_front (sorted_bytes (heights_of_suit rules board 2)) _ (rules.decks + deck) deck (omega (arith, third))
suit-back rules board (suc (suc (suc (suc suit)))) deck small inside = absurd (omega arith)

-- ---- the whole board

pub heights-in_order : (rules : RuleParts) (board : Board) (suit : ℕ) → suit < 4
    → heights_of_suit rules (record
    board { heights = map (height_in rules (all_heights rules board)) (range_with_len 0 (4 * rules.decks)) }) suit
    ≡ sorted_bytes (heights_of_suit rules board suit)
heights-in_order rules board suit small =
    let bytes : List ℕ = all_heights rules board in
    let other : Board = record board { heights = map (height_in rules bytes) (range_with_len 0 (4 * rules.decks)) } in
    let own : List ℕ = sorted_bytes (heights_of_suit rules board suit) in
    let long : length own ≡ rules.decks = suit_size rules board suit in
    let each : (deck : ℕ) → deck < rules.decks → get_or own deck 0 ≡ height_at other (4 * deck + suit) =
    λ deck inside.
    let order : 4 * deck + suit ≡ deck * 4 + suit = omega arith in
    let within : 4 * deck + suit < 4 * rules.decks = omega (arith, inside, small) in
    let suit_again : (4 * deck + suit) % 4 ≡ suit = ap (λ (f : ℕ). f % 4) order ∙ mod-mul-add deck 4 suit small in
    let deck_again : (4 * deck + suit) / 4 ≡ deck = ap (λ (f : ℕ). f / 4) order ∙ div-mul-add deck 4 suit small in
    sym (get_or-map-range_with_len (height_in rules bytes) 0 (4 * rules.decks) (4 * deck + suit)
    (4 * deck + suit) 0 within (omega arith)
    ∙ ap₂ (λ (s k : ℕ). get_or bytes (s * rules.decks + k) 0) suit_again deck_again
    ∙ suit-back rules board suit deck small inside) in
    sym (fill_by_all (λ (deck : ℕ). height_at other (4 * deck + suit)) own rules.decks 0 long each)

heights-permuted : (rules : RuleParts) (board : Board) (t : Bool)
    → length board.heights ≡ (if t then 4 * rules.decks else 0) → (suit : ℕ) → suit < 4
    → IsPermutation (heights_of_suit rules board suit)
    (heights_of_suit rules (record board {
      heights = map (height_in rules (if t then all_heights rules board else []))
          (range_with_len 0 (if t then 4 * rules.decks else 0));
    }) suit)
heights-permuted rules board true size suit small =
    subst (λ (xs : List ℕ). IsPermutation (heights_of_suit rules board suit) xs)
    (sym (heights-in_order rules board suit small))
    (sorted-permutation nat_cmp (heights_of_suit rules board suit))
heights-permuted rules board false size suit small =
    let none : board.heights ≡ [] = nil_from_length board.heights size in
    subst (λ (heights : List ℕ). IsPermutation (heights_of_suit rules board suit)
    (heights_of_suit rules (record board { heights = heights }) suit)) none
    (IsPermutation-refl (heights_of_suit rules board suit))

pub same-in_order : (rules : RuleParts) (board : Board) (hole : List Card) → HasRanks board → Belongs rules board
    → length board.hole ≡ length hole → top_of board.hole ≡ top_of hole
    → Same rules board (in_key_order rules board hole)
same-in_order rules board hole ranks belongs size top = record {
  stock = refl;
  waste = refl;
  redeals_left = refl;
  hole_size = size;
  hole_top = top;
  heights = heights-permuted rules board (is_foundation_goal rules.goal) belongs.foundations;
  cells = held-permuted board.cells rules.cells ranks.cells belongs.cells;
  reserve = reserve-permuted rules.stacked rules.reserve board.reserve ranks.reserve belongs.reserve_filled;
  rows = rows-permuted rules board (is_sequence_goal rules.goal) ranks.slots belongs.slots;
  piles = piles-permuted (keeps_pile_order rules board) board.piles ranks.piles;
}

pub places-in_order : (rules : RuleParts) (board : Board) (hole : List Card) → Belongs rules board
    → HasPlaces rules (in_key_order rules board hole)
places-in_order rules board hole belongs = record {
  foundations = length-map-range_with_len (height_in rules (height_bytes rules board)) 0 (foundation_count rules);
  slots = rows-size rules board (is_sequence_goal rules.goal) belongs.slots;
}
