-- Boards that are the same have one key.
use Rattle.std.proofs.Common.{◌≡◌, ℕ, ◌<◌, Bool, true, false, List, [], ◌∷◌, ◌++◌, map, refl, ap, ap₂, sym, ◌∙◌}
use Rattle.std.proofs.Common.{arith, lit<}
use Rattle.std.specs.Prelude.{MatchBool, Option, Some, None, if◌then◌else◌}
use Rattle.std.specs.List.{sum_by, concat}
use Rattle.std.specs.List.Sorted.{IsPermutation}
use Rattle.std.specs.Ordering.{nat_cmp}
use Rattle.std.specs.Cmp.Lexicographic.{slice_cmp}
use Rattle.std.proofs.lemmas.List.Sums.{sum_by-cons}
use Rattle.std.proofs.lemmas.List.Sorted.{IsPermutation-map, sum_by-IsPermutation}
use Rattle.card_piles.specs.declared.Card.{Card}
use Rattle.game_rules.specs.declared.RuleParts.{RuleParts}
use Rattle.game_rules.specs.Rules.{is_foundation_goal, is_hole_goal, is_sequence_goal}
use Rattle.game_rules.specs.Board.{Board, Pile}
use Rattle.game_rules.specs.Winning.{rows_of}
use Rattle.same_boards.specs.Same.{Same, keeps_pile_order, heights_of_suit}
use Rattle.same_boards.specs.Colours.{SameCards}
use Rattle.same_boards.specs.Keys.{sorted_bytes, sorted_lists, card_byte, card_bytes, entry_byte, counted, cards_in}
use Rattle.same_boards.specs.Keys.{height_bytes, hole_bytes, cell_bytes, reserve_bytes, pile_bytes, piles_bytes}
use Rattle.same_boards.specs.Keys.{row_bytes, rows_bytes, key_bytes, key_with}
use Rattle.same_boards.proofs.SameLaws.{same_order, cards_of_same}
use Rattle.same_boards.proofs.Sorting.{numbers_apart, lists_apart, sorted-same, sorted-from_times, times}
use Rattle.same_boards.proofs.Sorting.{is_same, one_if}

-- how often a byte stands for the card of an entry
abbrev entry_times : ℕ → Option Card → ℕ
entry_times z None = 0
entry_times z (Some card) = one_if (is_same nat_cmp z (card_byte card))

times-entries : (z : ℕ) (entries : List (Option Card)) → times nat_cmp z (card_bytes (cards_in entries)) ≡ sum_by
    (entry_times z) entries
times-entries z [] = refl
times-entries z (None ∷ entries) =
    let step = sum_by-cons (entry_times z) None entries in
    let rest = times-entries z entries in
    omega (arith, step, rest)
times-entries z (Some card ∷ entries) =
    let step = sum_by-cons (entry_times z) (Some card) entries in
    let other = sum_by-cons (λ (w : ℕ). one_if (is_same nat_cmp z w)) (card_byte card)
    (card_bytes (cards_in entries)) in
    let rest = times-entries z entries in
    omega (arith, step, other, rest)

-- the cards of permuted entries are one list in order
pub entries-sorted : (xs ys : List (Option Card)) → IsPermutation xs ys
    → sorted_bytes (card_bytes (cards_in xs)) ≡ sorted_bytes (card_bytes (cards_in ys))
entries-sorted xs ys h =
    sorted-from_times nat_cmp numbers_apart (card_bytes (cards_in xs)) (card_bytes (cards_in ys))
    (λ z. times-entries z xs ∙ sym (sum_by-IsPermutation (entry_times z) xs ys h) ∙ sym (times-entries z ys))

reserve-same : (t : Bool) (xs ys : List (Option Card)) → MatchBool t (xs ≡ ys) (IsPermutation xs ys)
    → (if t then card_bytes (cards_in xs) else sorted_bytes (card_bytes (cards_in xs)))
    ≡ (if t then card_bytes (cards_in ys) else sorted_bytes (card_bytes (cards_in ys)))
reserve-same true xs ys h = ap (λ (zs : List (Option Card)). card_bytes (cards_in zs)) h
reserve-same false xs ys h = entries-sorted xs ys h

piles-same : (t u : Bool) (xs ys : List Pile) → t ≡ u → MatchBool t (xs ≡ ys) (IsPermutation xs ys)
    → (if t then map pile_bytes xs else sorted_lists (map pile_bytes xs))
    ≡ (if u then map pile_bytes ys else sorted_lists (map pile_bytes ys))
piles-same true true xs ys e h = ap (λ (zs : List Pile). map pile_bytes zs) h
piles-same true false xs ys e h = cc
piles-same false true xs ys e h = cc
piles-same false false xs ys e h = sorted-same (slice_cmp nat_cmp) lists_apart (map pile_bytes xs) (map pile_bytes ys)
    (IsPermutation-map pile_bytes xs ys h)

heights-same : (rules : RuleParts) (a b : Board) → Same rules a b → height_bytes rules a ≡ height_bytes rules b
heights-same rules a b same =
    let suit : (s : ℕ) → s < 4 → sorted_bytes (heights_of_suit rules a s) ≡ sorted_bytes (heights_of_suit rules b s) =
    λ s h. sorted-same nat_cmp numbers_apart (heights_of_suit rules a s) (heights_of_suit rules b s)
    (same.heights s h) in
    let last_two : sorted_bytes (heights_of_suit rules a 2) ++ sorted_bytes (heights_of_suit rules a 3) ≡ sorted_bytes
    (heights_of_suit rules b 2) ++ sorted_bytes (heights_of_suit rules b 3) =
    ap₂ (λ (x y : List ℕ). x ++ y) (suit 2 (lit< tt)) (suit 3 (lit< tt)) in
    ap (λ (x : List ℕ). if is_foundation_goal rules.goal then x else [])
    (ap₂ (λ (x y : List ℕ). x ++ y) (suit 0 (lit< tt)) (ap₂ (λ (x y : List ℕ). x ++ y) (suit 1 (lit< tt)) last_two))

hole-same : (rules : RuleParts) (a b : Board) → SameCards rules a b → hole_bytes rules a ≡ hole_bytes rules b
hole-same rules a b same =
    ap₂ (λ (n : ℕ) (top : Option Card). if is_hole_goal rules.goal then n ∷ entry_byte top ∷ [] else [])
    same.hole_size same.hole_top

rows-same : (rules : RuleParts) (a b : Board) → SameCards rules a b → rows_bytes rules a ≡ rows_bytes rules b
rows-same rules a b same =
    ap (λ (lists : List (List ℕ)). if is_sequence_goal rules.goal then concat lists else [])
    (sorted-same (slice_cmp nat_cmp) lists_apart (map row_bytes (rows_of rules a)) (map row_bytes (rows_of rules b))
    (IsPermutation-map row_bytes (rows_of rules a) (rows_of rules b) same.rows))

-- the same cards and heights make one key
pub key-from_cards : (rules : RuleParts) (a b : Board) (h k : List ℕ) → SameCards rules a b → h ≡ k
    → key_with h rules a ≡ key_with k rules b
key-from_cards rules a b h k same heights =
    let cells : cell_bytes a ≡ cell_bytes b = entries-sorted a.cells b.cells same.cells in
    let reserve : reserve_bytes rules a ≡ reserve_bytes rules b = reserve-same rules.stacked a.reserve
    b.reserve same.reserve in
    let piles : piles_bytes rules a ≡ piles_bytes rules b =
    piles-same (keeps_pile_order rules a) (keeps_pile_order rules b) a.piles b.piles
    (same_order rules a b same.stock) same.piles in
    let p₇ : concat (piles_bytes rules a) ++ rows_bytes rules a ≡ concat (piles_bytes rules b) ++ rows_bytes rules b =
    ap₂ (λ (x : List (List ℕ)) (y : List ℕ). concat x ++ y) piles (rows-same rules a b same) in
    let p₆ = ap₂ (λ (x y : List ℕ). counted x ++ y) reserve p₇ in
    let p₅ = ap₂ (λ (x y : List ℕ). counted x ++ y) cells p₆ in
    let p₄ = ap₂ (λ (x y : List ℕ). x ++ y) (hole-same rules a b same) p₅ in
    let p₃ = ap₂ (λ (x y : List ℕ). x ++ y) heights p₄ in
    let p₂ = ap₂ (λ (cards : List Card) (y : List ℕ). counted (card_bytes cards) ++ y) same.waste p₃ in
    let p₁ = ap₂ (λ (cards : List Card) (y : List ℕ). counted (card_bytes cards) ++ y) same.stock p₂ in
    ap₂ (λ (n : ℕ) (y : List ℕ). n ∷ y) same.redeals_left p₁

-- boards that are the same have one key
pub key-from_same : (rules : RuleParts) (a b : Board) → Same rules a b → key_bytes rules a ≡ key_bytes rules b
key-from_same rules a b same =
    key-from_cards rules a b (height_bytes rules a) (height_bytes rules b) (cards_of_same rules a b same)
    (heights-same rules a b same)
