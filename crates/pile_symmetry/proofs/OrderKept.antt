-- A board that is read back from its key stands in the order of the key.
use Rattle.std.proofs.Common.{◌≡◌, ℕ, zero, suc, ◌-◌, ◌*◌, ◌<◌, Bool, true, false, List, [], ◌∷◌, ◌++◌, map, length}
use Rattle.std.proofs.Common.{get_or, replicate, refl, ap, ap₂, sym, ◌∙◌, arith, append-nil}
use Rattle.std.specs.Prelude.{IsTrue, Option, None, is_some, nat_eq, if◌then◌else◌}
use Rattle.std.specs.List.{All, list_all, concat, range_with_len}
use Rattle.std.specs.Ordering.{nat_cmp}
use Rattle.std.specs.Cmp.Lexicographic.{slice_cmp}
use Rattle.std.proofs.lemmas.List.{length-map, map-append}
use Rattle.std.proofs.lemmas.List.Elements.{All-map}
use Rattle.std.proofs.lemmas.List.Sorted.{All-permutation}
use Rattle.std.proofs.lemmas.Bool.{eqb-true}
use Rattle.card_piles.specs.declared.Card.{Card}
use Rattle.game_rules.specs.declared.RuleParts.{RuleParts}
use Rattle.game_rules.specs.Rules.{is_foundation_goal, is_sequence_goal}
use Rattle.game_rules.specs.Board.{Board, Pile, below_top}
use Rattle.game_rules.specs.Winning.{rows_of}
use Rattle.game_rules.specs.Belonging.{Belongs}
use Rattle.game_rules.specs.Position.{filled}
use Rattle.game_rules.specs.Ranked.{HasRanks}
use Rattle.same_boards.specs.Same.{keeps_pile_order, heights_of_suit}
use Rattle.same_boards.specs.Keys.{sorted_bytes, sorted_lists, card_byte, card_bytes, cards_in, entry_byte, cell_bytes}
use Rattle.same_boards.specs.Keys.{pile_bytes, row_bytes}
use Rattle.same_boards.proofs.Sorting.{sorted-permutation}
use Rattle.same_boards.specs.Bytes.{card_of_byte, entry_of_byte}
use Rattle.same_boards.proofs.KeyParts.{pile_of_bytes, map-back, card-back, pile-back}
use Rattle.same_boards.proofs.KeyParts.{row-back, IsGood, IsGoodEntry, IsGoodPile}
use Rattle.same_boards.proofs.KeysSame.{some_card, filled as all-filled, good_cards_in, good_rows, IsGoodRow}
use Rattle.same_boards.proofs.KeysSame.{all_heights, sorted_rows, sorted_rows-long, sorted_rows-size}
use Rattle.pile_symmetry.specs.Reading.{card_entry, height_in}
use Rattle.pile_symmetry.specs.InOrder.{IsInKeyOrder}
use Rattle.pile_symmetry.proofs.ReadBack.{in_key_order}
use Rattle.pile_symmetry.proofs.InKeyOrder.{heights-in_order, rows-cut}

-- ---- bytes that are read and written again

IsEntryByte : ℕ → Type 0
IsEntryByte byte = entry_byte (card_entry byte) ≡ byte

card-again : (card : Card) → IsGood card → card_byte (card_of_byte (card_byte card)) ≡ card_byte card
card-again card good = ap card_byte (card-back card good)

entry_bytes : (xs : List Card) → All IsGood xs → All IsEntryByte (card_bytes xs)
unfolding IsEntryByte
entry_bytes xs good = All-map IsEntryByte card_byte xs (λ k d h. card-again (get_or xs k d) (good k d h))

held-again : (bytes : List ℕ) → All IsEntryByte bytes → map entry_byte (map card_entry bytes) ≡ bytes
unfolding IsEntryByte
held-again bytes all = map-back card_entry entry_byte IsEntryByte (λ byte h. h) bytes all

gaps-again : (n : ℕ) → map entry_byte (replicate n None) ≡ replicate n 0
gaps-again zero = refl
gaps-again (suc n) = ap (λ (xs : List ℕ). 0 ∷ xs) (gaps-again n)

filled-again : (n : ℕ) (bytes : List ℕ) → All IsEntryByte bytes
    → map entry_byte (filled n None (map card_entry bytes)) ≡ filled n 0 bytes
filled-again n bytes all =
    map-append entry_byte (map card_entry bytes) (replicate (n - length (map card_entry bytes)) None)
    ∙ ap₂ (λ (xs ys : List ℕ). xs ++ ys) (held-again bytes all)
    (gaps-again (n - length (map card_entry bytes)) ∙ ap (λ (k : ℕ). replicate (n - k) 0) (length-map bytes card_entry))

sorted_entry_bytes : (xs : List Card) → All IsGood xs → All IsEntryByte (sorted_bytes (card_bytes xs))
sorted_entry_bytes xs good =
    All-permutation IsEntryByte (card_bytes xs) (sorted_bytes (card_bytes xs))
    (sorted-permutation nat_cmp (card_bytes xs)) (entry_bytes xs good)

whole-again : (n : ℕ) (bytes : List ℕ) → length bytes ≡ n → filled n 0 bytes ≡ bytes
whole-again n bytes size =
    let none : n - length bytes ≡ 0 = omega (arith, size) in
    ap (λ (k : ℕ). bytes ++ replicate k 0) none ∙ append-nil bytes

reserve-again : (t : Bool) (n : ℕ) (entries : List (Option Card)) → All IsGoodEntry entries
    → IsTrue (if t then list_all (λ (e : Option Card). is_some e) entries else nat_eq (length entries) n)
    → map entry_byte (if t
    then map card_entry (if t then card_bytes (cards_in entries) else sorted_bytes (card_bytes (cards_in entries)))
    else filled n None
    (map card_entry (if t then card_bytes (cards_in entries) else sorted_bytes (card_bytes (cards_in entries)))))
    ≡ filled (length entries) 0
    (if t then card_bytes (cards_in entries) else sorted_bytes (card_bytes (cards_in entries)))
reserve-again true n entries good full =
    let cards : List Card = cards_in entries in
    let size : length (card_bytes cards) ≡ length entries =
    length-map cards card_byte ∙ sym (length-map cards some_card)
    ∙ sym (ap (λ (es : List (Option Card)). length es) (all-filled entries full)) in
    held-again (card_bytes cards) (entry_bytes cards (good_cards_in entries good))
    ∙ sym (whole-again (length entries) (card_bytes cards) size)
reserve-again false n entries good full =
    let cards : List Card = cards_in entries in
    filled-again n (sorted_bytes (card_bytes cards)) (sorted_entry_bytes cards (good_cards_in entries good))
    ∙ ap (λ (k : ℕ). filled k 0 (sorted_bytes (card_bytes cards))) (sym (eqb-true (length entries) n full))

-- ---- piles and rows

IsPileLine : List ℕ → Type 0
IsPileLine line = pile_bytes (pile_of_bytes line) ≡ line

pile_lines : (piles : List Pile) → All IsGoodPile piles → All IsPileLine (map pile_bytes piles)
unfolding IsPileLine
pile_lines piles good = All-map IsPileLine pile_bytes piles
    (λ k d h. ap pile_bytes (pile-back (get_or piles k d) (good k d h)))

lines-again : (lines : List (List ℕ)) → All IsPileLine lines → map pile_bytes (map pile_of_bytes lines) ≡ lines
unfolding IsPileLine
lines-again lines all = map-back pile_of_bytes pile_bytes IsPileLine (λ line h. h) lines all

piles-again : (t : Bool) (piles : List Pile) → All IsGoodPile piles
    → map pile_bytes (map pile_of_bytes (if t then map pile_bytes piles else sorted_lists (map pile_bytes piles)))
    ≡ (if t then map pile_bytes piles else sorted_lists (map pile_bytes piles))
piles-again true piles good = lines-again (map pile_bytes piles) (pile_lines piles good)
piles-again false piles good =
    lines-again (sorted_lists (map pile_bytes piles))
    (All-permutation IsPileLine (map pile_bytes piles) (sorted_lists (map pile_bytes piles))
    (sorted-permutation (slice_cmp nat_cmp) (map pile_bytes piles)) (pile_lines piles good))

IsRowLine : List ℕ → Type 0
IsRowLine line = row_bytes (map entry_of_byte line) ≡ line

row_lines : (rows : List (List (Option Card))) → All IsGoodRow rows → All IsRowLine (map row_bytes rows)
unfolding IsRowLine
row_lines rows good = All-map IsRowLine row_bytes rows (λ k d h. ap row_bytes (row-back (get_or rows k d) (good k d h)))

row_lines-again : (lines : List (List ℕ)) → All IsRowLine lines → map row_bytes (map (map entry_of_byte) lines) ≡ lines
unfolding IsRowLine
row_lines-again lines all = map-back (map entry_of_byte) row_bytes IsRowLine (λ line h. h) lines all

rows-again : (rules : RuleParts) (board : Board) (t : Bool) → All IsGoodEntry board.slots
    → length board.slots ≡ (if t then 4 * rules.decks * rules.max_rank else 0) → t ≡ true
    → map row_bytes (rows_of rules
    (record board { slots = map entry_of_byte (if t then concat (sorted_rows rules board) else []) }))
    ≡ sorted_rows rules board
rows-again rules board false good size holds = cc
rows-again rules board true good size holds =
    let rows : List (List (Option Card)) = rows_of rules board in
    let lines : List (List ℕ) = sorted_rows rules board in
    let all : All IsRowLine lines =
    All-permutation IsRowLine (map row_bytes rows) lines (sorted-permutation (slice_cmp nat_cmp) (map row_bytes rows))
    (row_lines rows (good_rows rules board good)) in
    ap (map row_bytes)
    (rows-cut rules (4 * rules.decks) lines (sorted_rows-long rules board size) (sorted_rows-size rules board))
    ∙ row_lines-again lines all

heights-again : (rules : RuleParts) (board : Board) (t : Bool) → t ≡ true → (suit : ℕ) → suit < 4
    → heights_of_suit rules (record board {
      heights = map (height_in rules (if t then all_heights rules board else []))
          (range_with_len 0 (if t then 4 * rules.decks else 0));
    }) suit
    ≡ sorted_bytes (heights_of_suit rules board suit)
heights-again rules board true holds suit small = heights-in_order rules board suit small
heights-again rules board false holds suit small = cc

-- ---- the whole board

pub order-kept : (rules : RuleParts) (board : Board) (hole : List Card) → HasRanks board → Belongs rules board
    → board ≡ in_key_order rules board hole
    → card_bytes (below_top 1 hole) ≡ sorted_bytes (card_bytes (below_top 1 board.hole)) → IsInKeyOrder rules board
order-kept rules board hole ranks belongs same ascending = record {
  piles = ap (λ (b : Board). map pile_bytes b.piles) same
      ∙ piles-again (keeps_pile_order rules board) board.piles ranks.piles;
  cells = ap (λ (b : Board). map entry_byte b.cells) same
      ∙ filled-again rules.cells (cell_bytes board)
      (sorted_entry_bytes (cards_in board.cells) (good_cards_in board.cells ranks.cells));
  reserve = ap (λ (b : Board). map entry_byte b.reserve) same
      ∙ reserve-again rules.stacked rules.reserve board.reserve ranks.reserve belongs.reserve_filled;
  heights = λ holds suit small. ap (λ (b : Board). heights_of_suit rules b suit) same
      ∙ heights-again rules board (is_foundation_goal rules.goal) holds suit small;
  rows = λ holds. ap (λ (b : Board). map row_bytes (rows_of rules b)) same
      ∙ rows-again rules board (is_sequence_goal rules.goal) ranks.slots belongs.slots holds;
  hole = ap (λ (b : Board). card_bytes (below_top 1 b.hole)) same ∙ ascending;
}
