-- Boards of the same rules with one key are the same.
use Rattle.std.proofs.Common.{◌≡◌, ℕ, zero, suc, ◌+◌, ◌-◌, ◌*◌, ◌<◌, Bool, true, false, ◌||◌, List, [], ◌∷◌, ◌++◌, map}
use Rattle.std.proofs.Common.{length, get_or, drop, refl, ap, ap₂, sym, ◌∙◌, subst, arith, length-append}
use Rattle.std.specs.Prelude.{IsTrue, MatchBool, ◌↔◌, Option, Some, None, is_some, nat_eq, if◌then◌else◌}
use Rattle.std.specs.List.{All, list_all, concat, range_with_len}
use Rattle.std.specs.List.Sorted.{IsPermutation}
use Rattle.std.specs.Ordering.{nat_cmp}
use Rattle.std.specs.Cmp.Lexicographic.{slice_cmp}
use Rattle.std.proofs.lemmas.List.{nil_from_length, length-map}
use Rattle.std.proofs.lemmas.List.FromFn.{length-map-range_with_len, length-range_with_len, get_or-range_with_len}
use Rattle.std.proofs.lemmas.List.Elements.{All-head, All-tail, All-cons, All-nil, All-map, All-take}
use Rattle.std.proofs.lemmas.List.Elements.{All-drop, All-get_or}
use Rattle.std.proofs.lemmas.List.Sorted.{IsPermutation-refl, IsPermutation-sym, IsPermutation-trans}
use Rattle.std.proofs.lemmas.List.Sorted.{IsPermutation-cons, IsPermutation-map, IsPermutation-middle}
use Rattle.std.proofs.lemmas.List.Sorted.{IsPermutation-append_left, length_permutation, All-permutation}
use Rattle.std.proofs.lemmas.Option.{slice_get-get_or}
use Rattle.std.proofs.lemmas.Bool.{eqb-true}
use Rattle.card_piles.specs.declared.Card.{Card}
use Rattle.game_rules.specs.declared.RuleParts.{RuleParts}
use Rattle.game_rules.specs.Rules.{is_foundation_goal, is_hole_goal, is_sequence_goal}
use Rattle.game_rules.specs.Playable.{IsPlayable, HasLimits}
use Rattle.game_rules.specs.Board.{Board, Pile, top_of, height_at}
use Rattle.game_rules.specs.Play.{is_empty}
use Rattle.game_rules.specs.Winning.{row_at, rows_of}
use Rattle.game_rules.specs.Belonging.{Belongs}
use Rattle.same_boards.specs.Same.{Same, keeps_pile_order, heights_of_suit}
use Rattle.same_boards.specs.Colours.{SameCards}
use Rattle.same_boards.specs.Keys.{sorted_bytes, sorted_lists, card_byte, card_bytes, entry_byte, counted, cards_in}
use Rattle.same_boards.specs.Keys.{height_bytes, hole_bytes, cell_bytes, reserve_bytes, pile_bytes, piles_bytes}
use Rattle.same_boards.specs.Keys.{row_bytes, rows_bytes, key_bytes, key_with}
use Rattle.game_rules.proofs.Limits.{limits_of}
use Rattle.same_boards.proofs.SameLaws.{same_order}
use Rattle.same_boards.proofs.SameWins.{row_length, rows_count}
use Rattle.same_boards.proofs.SameLaws.{same_with_heights}
use Rattle.same_boards.proofs.SameKeys.{key-from_same}
use Rattle.same_boards.proofs.Sorting.{sorted-permutation, permutation-from_sorted}
use Rattle.game_rules.specs.Ranked.{HasRanks}
use Rattle.game_rules.proofs.Ranks.{ranks-belong}
use Rattle.same_boards.specs.Bytes.{card_of_byte, entry_of_byte}
use Rattle.same_boards.proofs.KeyParts.{IsGood, IsGoodEntry, IsGoodPile, pile_of_bytes}
use Rattle.same_boards.proofs.KeyParts.{card-back, entry-back, pile-back, row-back, same-from_bytes}
use Rattle.same_boards.proofs.KeyParts.{permutation-from_bytes, same_split, counted_split, if_split, concat_split}
use Rattle.same_boards.proofs.KeyParts.{IsPileBytes, pile_splits, pile_bytes-is, row_splits}

-- ---- entries from their cards

abbrev gaps : List (Option Card) → List (Option Card)
gaps [] = []
gaps (None ∷ entries) = None ∷ gaps entries
gaps (Some card ∷ entries) = gaps entries

unfoldable pub some_card : Card → Option Card
some_card card = Some card

entries-parts : (entries : List (Option Card))
    → IsPermutation entries (map some_card (cards_in entries) ++ gaps entries)
unfolding some_card
entries-parts [] = IsPermutation-refl []
entries-parts (None ∷ entries) =
    IsPermutation-trans (None ∷ entries) (None ∷ (map some_card (cards_in entries) ++ gaps entries))
    (map some_card (cards_in entries) ++ None ∷ gaps entries)
    (IsPermutation-cons None entries (map some_card (cards_in entries) ++ gaps entries) (entries-parts entries))
    (IsPermutation-sym (map some_card (cards_in entries) ++ None ∷ gaps entries)
    (None ∷ (map some_card (cards_in entries) ++ gaps entries))
    (IsPermutation-middle (map some_card (cards_in entries)) None (gaps entries)))
entries-parts (Some card ∷ entries) =
    IsPermutation-cons (Some card) entries (map some_card (cards_in entries) ++ gaps entries) (entries-parts entries)

parts-size : (entries : List (Option Card)) → length (cards_in entries) + length (gaps entries) ≡ length entries
parts-size [] = omega arith
parts-size (None ∷ entries) = let rest = parts-size entries in omega (arith, rest)
parts-size (Some card ∷ entries) = let rest = parts-size entries in omega (arith, rest)

gaps-same : (xs ys : List (Option Card)) → length (gaps xs) ≡ length (gaps ys) → gaps xs ≡ gaps ys
gaps-same (Some card ∷ xs) ys e = gaps-same xs ys e
gaps-same [] [] e = refl
gaps-same [] (None ∷ ys) e = absurd (omega arith)
gaps-same [] (Some card ∷ ys) e = gaps-same [] ys e
gaps-same (None ∷ xs) [] e = absurd (omega arith)
gaps-same (None ∷ xs) (None ∷ ys) e =
    let n : length (gaps xs) ≡ length (gaps ys) = omega arith in
    ap (λ (zs : List (Option Card)). None ∷ zs) (gaps-same xs ys n)
gaps-same (None ∷ xs) (Some card ∷ ys) e = gaps-same (None ∷ xs) ys e

-- entries as many, with the same cards up to order, are the same up to order
pub entries-permutation : (xs ys : List (Option Card)) → length xs ≡ length ys
    → IsPermutation (cards_in xs) (cards_in ys) → IsPermutation xs ys
entries-permutation xs ys size h =
    let cards_size : length (cards_in ys) ≡ length (cards_in xs) = length_permutation (cards_in xs) (cards_in ys) h in
    let px = parts-size xs in
    let py = parts-size ys in
    let gaps_size : length (gaps xs) ≡ length (gaps ys) = omega (arith, cards_size, px, py, size) in
    let same_gaps : gaps xs ≡ gaps ys = gaps-same xs ys gaps_size in
    let moved : IsPermutation (map some_card (cards_in xs) ++ gaps xs) (map some_card (cards_in ys) ++ gaps xs) =
    IsPermutation-append_left (gaps xs) (map some_card (cards_in xs)) (map some_card (cards_in ys))
    (IsPermutation-map some_card (cards_in xs) (cards_in ys) h) in
    let there : IsPermutation xs (map some_card (cards_in ys) ++ gaps xs) =
    IsPermutation-trans xs (map some_card (cards_in xs) ++ gaps xs) (map some_card (cards_in ys) ++ gaps xs)
    (entries-parts xs) moved in
    let other : IsPermutation xs (map some_card (cards_in ys) ++ gaps ys) =
    subst (λ (gs : List (Option Card)). IsPermutation xs (map some_card (cards_in ys) ++ gs)) same_gaps there in
    IsPermutation-trans xs (map some_card (cards_in ys) ++ gaps ys) ys other
    (IsPermutation-sym ys (map some_card (cards_in ys) ++ gaps ys) (entries-parts ys))

-- entries that are all filled are their cards
pub filled : (entries : List (Option Card)) → IsTrue (list_all (λ (e : Option Card). is_some e) entries)
    → entries ≡ map some_card (cards_in entries)
unfolding some_card
filled [] h = refl
filled (None ∷ entries) h = cc
filled (Some card ∷ entries) h = ap (λ (zs : List (Option Card)). Some card ∷ zs) (filled entries h)

pub good_cards_in : (entries : List (Option Card)) → All IsGoodEntry entries → All IsGood (cards_in entries)
good_cards_in [] all = All-nil IsGood
good_cards_in (None ∷ entries) all = good_cards_in entries (All-tail IsGoodEntry None entries all)
good_cards_in (Some card ∷ entries) all =
    All-cons IsGood card (cards_in entries) (All-head IsGoodEntry (Some card) entries all)
    (good_cards_in entries (All-tail IsGoodEntry (Some card) entries all))

cards-from_bytes : (xs ys : List Card) → All IsGood xs → All IsGood ys → card_bytes xs ≡ card_bytes ys → xs ≡ ys
cards-from_bytes = same-from_bytes card_byte card_of_byte IsGood card-back

entries-from_bytes : (xs ys : List (Option Card)) → All IsGoodEntry xs → All IsGoodEntry ys → length xs ≡ length ys
    → sorted_bytes (card_bytes (cards_in xs)) ≡ sorted_bytes (card_bytes (cards_in ys)) → IsPermutation xs ys
entries-from_bytes xs ys good_x good_y size e =
    entries-permutation xs ys size
    (permutation-from_bytes card_byte card_of_byte IsGood card-back (cards_in xs) (cards_in ys)
    (good_cards_in xs good_x) (good_cards_in ys good_y)
    (permutation-from_sorted nat_cmp (card_bytes (cards_in xs)) (card_bytes (cards_in ys)) e))

reserve-from_bytes : (t : Bool) (n : ℕ) (xs ys : List (Option Card)) → All IsGoodEntry xs → All IsGoodEntry ys
    → IsTrue (if t then list_all (λ (e : Option Card). is_some e) xs else nat_eq (length xs) n)
    → IsTrue (if t then list_all (λ (e : Option Card). is_some e) ys else nat_eq (length ys) n)
    → (if t then card_bytes (cards_in xs) else sorted_bytes (card_bytes (cards_in xs)))
    ≡ (if t then card_bytes (cards_in ys) else sorted_bytes (card_bytes (cards_in ys)))
    → MatchBool t (xs ≡ ys) (IsPermutation xs ys)
reserve-from_bytes true n xs ys good_x good_y full_x full_y e =
    filled xs full_x
    ∙ ap (λ (cards : List Card). map some_card cards)
    (cards-from_bytes (cards_in xs) (cards_in ys) (good_cards_in xs good_x) (good_cards_in ys good_y) e)
    ∙ sym (filled ys full_y)
reserve-from_bytes false n xs ys good_x good_y size_x size_y e =
    entries-from_bytes xs ys good_x good_y (eqb-true (length xs) n size_x ∙ sym (eqb-true (length ys) n size_y)) e

-- ---- heights

pub suit_size : (rules : RuleParts) (board : Board) (suit : ℕ)
    → length (sorted_bytes (heights_of_suit rules board suit)) ≡ rules.decks
suit_size rules board suit =
    length_permutation (heights_of_suit rules board suit) (sorted_bytes (heights_of_suit rules board suit))
    (sorted-permutation nat_cmp (heights_of_suit rules board suit))
    ∙ length-map-range_with_len (λ (deck : ℕ). height_at board (4 * deck + suit)) 0 rules.decks

same_size : (rules : RuleParts) (a b : Board) (suit : ℕ)
    → length (sorted_bytes (heights_of_suit rules a suit)) ≡ length (sorted_bytes (heights_of_suit rules b suit))
same_size rules a b suit = suit_size rules a suit ∙ sym (suit_size rules b suit)

append_size : (xs ys us vs : List ℕ) → length xs ≡ length us → length ys ≡ length vs
    → length (xs ++ ys) ≡ length (us ++ vs)
append_size xs ys us vs a b = length-append xs ys ∙ ap₂ (λ (m n : ℕ). m + n) a b ∙ sym (length-append us vs)

-- the heights of all suits, suit by suit
abbrev pub all_heights : RuleParts → Board → List ℕ
all_heights rules board =
    sorted_bytes (heights_of_suit rules board 0)
    ++ (sorted_bytes (heights_of_suit rules board 1)
    ++ (sorted_bytes (heights_of_suit rules board 2)
    ++ sorted_bytes (heights_of_suit rules board 3)))

heights_size : (rules : RuleParts) (a b : Board) → length (all_heights rules a) ≡ length (all_heights rules b)
heights_size rules a b =
    append_size _ _ _ _ (same_size rules a b 0) (append_size _ _ _ _ (same_size rules a b 1)
    (append_size _ _ _ _ (same_size rules a b 2) (same_size rules a b 3)))

pub all_heights-size : (rules : RuleParts) (board : Board) → length (all_heights rules board) ≡ 4 * rules.decks
all_heights-size rules board =
    let three : List ℕ = sorted_bytes (heights_of_suit rules board 3) in
    let two : List ℕ = sorted_bytes (heights_of_suit rules board 2) ++ three in
    let one : List ℕ = sorted_bytes (heights_of_suit rules board 1) ++ two in
    let a = length-append (sorted_bytes (heights_of_suit rules board 0)) one in
    let b = length-append (sorted_bytes (heights_of_suit rules board 1)) two in
    let c = length-append (sorted_bytes (heights_of_suit rules board 2)) three in
    let s₀ = suit_size rules board 0 in
    let s₁ = suit_size rules board 1 in
    let s₂ = suit_size rules board 2 in
    let s₃ = suit_size rules board 3 in
    omega (arith, a, b, c, s₀, s₁, s₂, s₃)

suit-from_heights : (rules : RuleParts) (a b : Board) → all_heights rules a ≡ all_heights rules b
    → (suit : ℕ) → suit < 4
    → sorted_bytes (heights_of_suit rules a suit) ≡ sorted_bytes (heights_of_suit rules b suit)
suit-from_heights rules a b e zero h = (same_split _ _ _ _ (same_size rules a b 0) e).0
suit-from_heights rules a b e (suc zero) h =
    let rest₁ = (same_split _ _ _ _ (same_size rules a b 0) e).1 in
    (same_split _ _ _ _ (same_size rules a b 1) rest₁).0
suit-from_heights rules a b e (suc (suc zero)) h =
    let rest₁ = (same_split _ _ _ _ (same_size rules a b 0) e).1 in
    let rest₂ = (same_split _ _ _ _ (same_size rules a b 1) rest₁).1 in
    (same_split _ _ _ _ (same_size rules a b 2) rest₂).0
suit-from_heights rules a b e (suc (suc (suc zero))) h =
    let rest₁ = (same_split _ _ _ _ (same_size rules a b 0) e).1 in
    let rest₂ = (same_split _ _ _ _ (same_size rules a b 1) rest₁).1 in
    (same_split _ _ _ _ (same_size rules a b 2) rest₂).1
suit-from_heights rules a b e (suc (suc (suc (suc suit)))) h = absurd (omega arith)

heights-from_bytes : (rules : RuleParts) (a b : Board) (t : Bool)
    → length a.heights ≡ (if t then 4 * rules.decks else 0) → length b.heights ≡ (if t then 4 * rules.decks else 0)
    → (t ≡ true → all_heights rules a ≡ all_heights rules b) → (suit : ℕ) → suit < 4
    → IsPermutation (heights_of_suit rules a suit) (heights_of_suit rules b suit)
heights-from_bytes rules a b true size_a size_b same suit h =
    permutation-from_sorted nat_cmp (heights_of_suit rules a suit) (heights_of_suit rules b suit)
    (suit-from_heights rules a b (same refl) suit h)
heights-from_bytes rules a b false size_a size_b same suit h =
    let none : a.heights ≡ b.heights = nil_from_length a.heights size_a ∙ sym (nil_from_length b.heights size_b) in
    subst (λ (heights : List ℕ).
    IsPermutation (heights_of_suit rules a suit) (heights_of_suit rules (record b { heights = heights }) suit)) none
    (IsPermutation-refl (heights_of_suit rules a suit))

-- ---- the hole

pub top-good : (cards : List Card) → All IsGood cards → IsGoodEntry (top_of cards)
top-good [] all = tt
top-good (card ∷ cards) all =
    let last : top_of (card ∷ cards) ≡ Some (get_or (card ∷ cards) (length (card ∷ cards) - 1) card) =
    slice_get-get_or (card ∷ cards) (length (card ∷ cards) - 1) card (omega arith) in
    subst IsGoodEntry (sym last) (All-get_or IsGood (card ∷ cards) (length (card ∷ cards) - 1) card (omega arith) all)

entry-from_byte : (x y : Option Card) → IsGoodEntry x → IsGoodEntry y → entry_byte x ≡ entry_byte y → x ≡ y
entry-from_byte x y good_x good_y e = sym (entry-back x good_x) ∙ ap entry_of_byte e ∙ entry-back y good_y

pub empty-nil : (cards : List Card) → IsTrue (is_empty cards) → cards ≡ []
empty-nil [] h = refl
empty-nil (card ∷ cards) h = cc

record SameHole (xs ys : List Card) : Type 0 where
  size : length xs ≡ length ys
  top : top_of xs ≡ top_of ys

hole-from_bytes : (t : Bool) (xs ys : List Card) → All IsGood xs → All IsGood ys → IsTrue (t || is_empty xs)
    → IsTrue (t || is_empty ys)
    → (t ≡ true → length xs ∷ entry_byte (top_of xs) ∷ [] ≡ length ys ∷ entry_byte (top_of ys) ∷ []) → SameHole xs ys
hole-from_bytes true xs ys good_x good_y none_x none_y e =
    let whole : length xs ∷ entry_byte (top_of xs) ∷ [] ≡ length ys ∷ entry_byte (top_of ys) ∷ [] = e refl in
    let size : length xs ≡ length ys = cc in
    let top : entry_byte (top_of xs) ≡ entry_byte (top_of ys) = cc in
    record { size = size; top = entry-from_byte (top_of xs) (top_of ys) (top-good xs good_x) (top-good ys good_y) top }
hole-from_bytes false xs ys good_x good_y none_x none_y e =
    let same : xs ≡ ys = empty-nil xs none_x ∙ sym (empty-nil ys none_y) in
    record { size = ap (λ (cards : List Card). length cards) same; top = ap (λ (cards : List Card). top_of cards) same }

-- ---- piles

pub pieces-are : (t : Bool) (piles : List Pile)
    → All IsPileBytes (if t then map pile_bytes piles else sorted_lists (map pile_bytes piles))
pieces-are true piles = All-map IsPileBytes pile_bytes piles (λ k d h. pile_bytes-is (get_or piles k d))
pieces-are false piles =
    All-permutation IsPileBytes (map pile_bytes piles) (sorted_lists (map pile_bytes piles))
    (sorted-permutation (slice_cmp nat_cmp) (map pile_bytes piles))
    (All-map IsPileBytes pile_bytes piles (λ k d h. pile_bytes-is (get_or piles k d)))

pub pieces-size : (t : Bool) (piles : List Pile)
    → length (if t then map pile_bytes piles else sorted_lists (map pile_bytes piles)) ≡ length piles
pieces-size true piles = length-map piles pile_bytes
pieces-size false piles =
    length_permutation (map pile_bytes piles) (sorted_lists (map pile_bytes piles))
    (sorted-permutation (slice_cmp nat_cmp) (map pile_bytes piles)) ∙ length-map piles pile_bytes

piles-from_bytes : (t u : Bool) (xs ys : List Pile) → t ≡ u → All IsGoodPile xs → All IsGoodPile ys
    → (if t then map pile_bytes xs else sorted_lists (map pile_bytes xs))
    ≡ (if u then map pile_bytes ys else sorted_lists (map pile_bytes ys))
    → MatchBool t (xs ≡ ys) (IsPermutation xs ys)
piles-from_bytes true true xs ys e good_x good_y h = same-from_bytes pile_bytes pile_of_bytes IsGoodPile pile-back xs
    ys good_x good_y h
piles-from_bytes true false xs ys e good_x good_y h = cc
piles-from_bytes false true xs ys e good_x good_y h = cc
piles-from_bytes false false xs ys e good_x good_y h =
    permutation-from_bytes pile_bytes pile_of_bytes IsGoodPile pile-back xs ys good_x good_y
    (permutation-from_sorted (slice_cmp nat_cmp) (map pile_bytes xs) (map pile_bytes ys) h)

-- ---- rows

abbrev pub IsGoodRow : List (Option Card) → Type 0
IsGoodRow row = All IsGoodEntry row

pub good_rows : (rules : RuleParts) (board : Board) → All IsGoodEntry board.slots → All IsGoodRow (rows_of rules board)
good_rows rules board good =
    All-map IsGoodRow (row_at rules board) (range_with_len 0 (4 * rules.decks))
    (λ k d h. All-take IsGoodEntry rules.max_rank
    (drop (get_or (range_with_len 0 (4 * rules.decks)) k d * rules.max_rank) board.slots)
    (All-drop IsGoodEntry (get_or (range_with_len 0 (4 * rules.decks)) k d * rules.max_rank) board.slots good))

pub row_number : (n k d : ℕ) → k < length (range_with_len 0 n) → get_or (range_with_len 0 n) k d < n
row_number n k d h =
    let size : length (range_with_len 0 n) ≡ n = length-range_with_len 0 n in
    let inside : k < n = omega (arith, size, h) in
    let at : get_or (range_with_len 0 n) k d ≡ 0 + k = get_or-range_with_len 0 n k d inside in
    omega (arith, at, inside)

rows-long : (rules : RuleParts) (board : Board) → length board.slots ≡ 4 * rules.decks * rules.max_rank
    → All (λ (row : List ℕ). length row ≡ rules.max_rank) (map row_bytes (rows_of rules board))
rows-long rules board size =
    All-map (λ (row : List ℕ). length row ≡ rules.max_rank) row_bytes (rows_of rules board)
    (All-map (λ (row : List (Option Card)). length (row_bytes row) ≡ rules.max_rank) (row_at rules board)
    (range_with_len 0 (4 * rules.decks))
    (λ k d h. length-map (row_at rules board (get_or (range_with_len 0 (4 * rules.decks)) k d)) entry_byte
    ∙ row_length rules board (get_or (range_with_len 0 (4 * rules.decks)) k d) size
    (row_number (4 * rules.decks) k d h)))

abbrev pub sorted_rows : RuleParts → Board → List (List ℕ)
sorted_rows rules board = sorted_lists (map row_bytes (rows_of rules board))

pub sorted_rows-long : (rules : RuleParts) (board : Board) → length board.slots ≡ 4 * rules.decks * rules.max_rank
    → All (λ (row : List ℕ). length row ≡ rules.max_rank) (sorted_rows rules board)
sorted_rows-long rules board size =
    All-permutation (λ (row : List ℕ). length row ≡ rules.max_rank) (map row_bytes (rows_of rules board))
    (sorted_lists (map row_bytes (rows_of rules board)))
    (sorted-permutation (slice_cmp nat_cmp) (map row_bytes (rows_of rules board))) (rows-long rules board size)

pub sorted_rows-size : (rules : RuleParts) (board : Board) → length (sorted_rows rules board) ≡ 4 * rules.decks
sorted_rows-size rules board =
    length_permutation (map row_bytes (rows_of rules board)) (sorted_lists (map row_bytes (rows_of rules board)))
    (sorted-permutation (slice_cmp nat_cmp) (map row_bytes (rows_of rules board)))
    ∙ length-map (rows_of rules board) row_bytes ∙ rows_count rules board

rows-from_sorted : (rules : RuleParts) (a b : Board) → All IsGoodEntry a.slots → All IsGoodEntry b.slots
    → length a.slots ≡ 4 * rules.decks * rules.max_rank → length b.slots ≡ 4 * rules.decks * rules.max_rank
    → concat (sorted_rows rules a) ≡ concat (sorted_rows rules b) → IsPermutation (rows_of rules a) (rows_of rules b)
rows-from_sorted rules a b good_a good_b size_a size_b e =
    let parts = concat_split (λ (row : List ℕ). length row ≡ rules.max_rank) (row_splits rules.max_rank)
    (sorted_rows rules a) (sorted_rows rules b) [] []
    (sorted_rows-long rules a size_a) (sorted_rows-long rules b size_b)
    (sorted_rows-size rules a ∙ sym (sorted_rows-size rules b)) (ap (λ (bytes : List ℕ). bytes ++ []) e) in
    permutation-from_bytes row_bytes (map entry_of_byte) IsGoodRow row-back (rows_of rules a) (rows_of rules b)
    (good_rows rules a good_a) (good_rows rules b good_b)
    (permutation-from_sorted (slice_cmp nat_cmp) (map row_bytes (rows_of rules a))
    (map row_bytes (rows_of rules b)) parts.0)

rows-from_bytes : (rules : RuleParts) (a b : Board) (t : Bool) → All IsGoodEntry a.slots → All IsGoodEntry b.slots
    → length a.slots ≡ (if t then 4 * rules.decks * rules.max_rank else 0)
    → length b.slots ≡ (if t then 4 * rules.decks * rules.max_rank else 0)
    → (if t then concat (sorted_lists (map row_bytes (rows_of rules a))) else [])
    ≡ (if t then concat (sorted_lists (map row_bytes (rows_of rules b))) else [])
    → IsPermutation (rows_of rules a) (rows_of rules b)
rows-from_bytes rules a b true good_a good_b size_a size_b e = rows-from_sorted rules a b good_a good_b size_a size_b e
rows-from_bytes rules a b false good_a good_b size_a size_b e =
    let none : a.slots ≡ b.slots = nil_from_length a.slots size_a ∙ sym (nil_from_length b.slots size_b) in
    subst (λ (slots : List (Option Card)). IsPermutation (rows_of rules a) (rows_of rules (record b { slots = slots })))
    none (IsPermutation-refl (rows_of rules a))

-- ---- the whole key

-- the board has as many piles, cells, entries and slots as its rules say
pub record HasShape (rules : RuleParts) (board : Board) : Type 0 where
  pub piles : length board.piles ≡ rules.piles
  pub cells : length board.cells ≡ rules.cells
  pub reserve_filled :
      IsTrue (if rules.stacked then list_all (λ (e : Option Card). is_some e) board.reserve
      else nat_eq (length board.reserve) rules.reserve)
  pub hole : IsTrue (is_hole_goal rules.goal || is_empty board.hole)
  pub slots : length board.slots ≡ (if is_sequence_goal rules.goal then 4 * rules.decks * rules.max_rank else 0)

pub shape_of : (rules : RuleParts) (board : Board) → Belongs rules board → HasShape rules board
shape_of rules board belongs =
    record {
      piles = belongs.piles;
      cells = belongs.cells;
      reserve_filled = belongs.reserve_filled;
      hole = belongs.hole;
      slots = belongs.slots;
    }

pub record KeyParts (rules : RuleParts) (a b : Board) (h k : List ℕ) : Type 0 where
  pub heights : h ≡ k
  pub cards : SameCards rules a b

-- from one key the same heights, as they stand in the key, and the same cards
pub cards-from_key : (rules : RuleParts) (a b : Board) (h k : List ℕ) → HasRanks a → HasRanks b → HasShape rules a
    → HasShape rules b → length h ≡ length k
    → key_with h rules a ≡ key_with k rules b → KeyParts rules a b h k
cards-from_key rules a b h k good_a good_b in_a in_b size e =
    let redeals_left : a.redeals_left ≡ b.redeals_left = cc in
    let after_redeals : counted (card_bytes a.stock)
    ++ (counted (card_bytes a.waste) ++ (h ++ (hole_bytes rules a ++ (counted (cell_bytes a)
    ++ (counted (reserve_bytes rules a) ++ (concat (piles_bytes rules a) ++ rows_bytes rules a))))))
    ≡ counted (card_bytes b.stock)
    ++ (counted (card_bytes b.waste) ++ (k ++ (hole_bytes rules b ++ (counted (cell_bytes b)
    ++ (counted (reserve_bytes rules b) ++ (concat (piles_bytes rules b) ++ rows_bytes rules b))))))
    = cc in
    let stock_part = counted_split (card_bytes a.stock) (card_bytes b.stock) _ _ after_redeals in
    let waste_part = counted_split (card_bytes a.waste) (card_bytes b.waste) _ _ stock_part.1 in
    let heights_part = same_split h k _ _ size waste_part.1 in
    let hole_part = if_split (is_hole_goal rules.goal) (length a.hole ∷ entry_byte (top_of a.hole) ∷ [])
    (length b.hole ∷ entry_byte (top_of b.hole) ∷ []) _ _ refl heights_part.1 in
    let cells_part = counted_split (cell_bytes a) (cell_bytes b) _ _ hole_part.1 in
    let reserve_part = counted_split (reserve_bytes rules a) (reserve_bytes rules b) _ _ cells_part.1 in
    let stock : a.stock ≡ b.stock = cards-from_bytes a.stock b.stock good_a.stock good_b.stock stock_part.0 in
    let order : keeps_pile_order rules a ≡ keeps_pile_order rules b = same_order rules a b stock in
    let piles_size : length (piles_bytes rules a) ≡ length (piles_bytes rules b) =
    pieces-size (keeps_pile_order rules a) a.piles ∙ in_a.piles
    ∙ sym (pieces-size (keeps_pile_order rules b) b.piles ∙ in_b.piles) in
    let piles_part = concat_split IsPileBytes pile_splits (piles_bytes rules a) (piles_bytes rules b)
    (rows_bytes rules a) (rows_bytes rules b)
    (pieces-are (keeps_pile_order rules a) a.piles)
    (pieces-are (keeps_pile_order rules b) b.piles) piles_size reserve_part.1 in
    let hole : SameHole a.hole b.hole = hole-from_bytes (is_hole_goal rules.goal) a.hole b.hole good_a.hole good_b.hole
    in_a.hole in_b.hole hole_part.0 in
    record {
      heights = heights_part.0;
      cards = record {
        stock = stock;
        waste = cards-from_bytes a.waste b.waste good_a.waste good_b.waste waste_part.0;
        redeals_left = redeals_left;
        hole_size = hole.size;
        hole_top = hole.top;
        cells = entries-from_bytes a.cells b.cells good_a.cells good_b.cells (in_a.cells ∙ sym in_b.cells) cells_part.0;
        reserve = reserve-from_bytes rules.stacked rules.reserve a.reserve b.reserve good_a.reserve good_b.reserve
            in_a.reserve_filled in_b.reserve_filled reserve_part.0;
        rows = rows-from_bytes rules a b (is_sequence_goal rules.goal) good_a.slots good_b.slots in_a.slots
            in_b.slots piles_part.1;
        piles = piles-from_bytes (keeps_pile_order rules a) (keeps_pile_order rules b) a.piles b.piles order
            good_a.piles good_b.piles piles_part.0;
      };
    }

pub if_size : (t : Bool) (xs ys : List ℕ) → length xs ≡ length ys
    → length (if t then xs else []) ≡ length (if t then ys else [])
if_size true xs ys e = e
if_size false xs ys e = refl

pub if_same : (t : Bool) (xs ys : List ℕ) → (if t then xs else []) ≡ (if t then ys else []) → t ≡ true → xs ≡ ys
if_same true xs ys e h = e
if_same false xs ys e h = cc

-- boards of the same rules with one key are the same
pub same-from_key : (rules : RuleParts) (a b : Board) → IsPlayable rules → Belongs rules a → Belongs rules b
    → key_bytes rules a ≡ key_bytes rules b → Same rules a b
same-from_key rules a b playable in_a in_b e =
    let limits : HasLimits rules = limits_of rules playable in
    let parts : KeyParts rules a b (height_bytes rules a) (height_bytes rules b) =
    cards-from_key rules a b (height_bytes rules a) (height_bytes rules b) (ranks-belong rules a limits in_a)
    (ranks-belong rules b limits in_b) (shape_of rules a in_a) (shape_of rules b in_b)
    (if_size (is_foundation_goal rules.goal) (all_heights rules a) (all_heights rules b) (heights_size rules a b)) e in
    same_with_heights rules a b parts.cards
    (heights-from_bytes rules a b (is_foundation_goal rules.goal) in_a.foundations in_b.foundations
    (if_same (is_foundation_goal rules.goal) (all_heights rules a) (all_heights rules b) parts.heights))

-- two boards of the same rules have one key exactly where they are the same
pub key-same : (rules : RuleParts) (a b : Board) → IsPlayable rules → Belongs rules a → Belongs rules b
    → (key_bytes rules a ≡ key_bytes rules b) ↔ Same rules a b
key-same rules a b playable in_a in_b = (same-from_key rules a b playable in_a in_b, key-from_same rules a b)
