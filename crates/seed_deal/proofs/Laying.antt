-- Cards laid on piles: each is there once, and no pile more or less.
use Rattle.std.proofs.Common.{◌≡◌, ℕ, ◌+◌, ◌*◌, ◌-◌, ◌%◌, ◌<◌, ◌≤◌, zero, suc, Bool, List, [], ◌∷◌, ◌++◌, map, length}
use Rattle.std.proofs.Common.{take, drop, replicate, get_or, set, refl, ap, sym, ◌∙◌, arith, length-set}
use Rattle.std.proofs.Common.{mod-lt, take_all}
use Rattle.std.specs.Prelude.{IsTrue, nat_lt}
use Rattle.std.specs.List.{sum_by, list_all, flat_map, range_with_len}
use Rattle.std.proofs.lemmas.List.{length-map, length-replicate, take-append-drop}
use Rattle.std.proofs.lemmas.List.Sums.{sum_by-append, sum_by-cons, sum_by-set}
use Rattle.std.proofs.lemmas.List.Folds.{list_all-append, list_all-map, sum_by-replicate}
use Rattle.std.proofs.lemmas.List.FromFn.{length-range_with_len}
use Rattle.std.proofs.lemmas.Bool.{ltb-true, lt-ltb, and_from, and_parts}
use Rattle.card_piles.specs.declared.Card.{Card}
use Rattle.game_rules.specs.declared.Layout.{Layout}
use Rattle.game_rules.specs.declared.Layout.TheVariants.{Even, Triangle}
use Rattle.game_rules.proofs.PositionFacts.{list_all-range}
use Rattle.game_rules.proofs.FewCards.{sum_by-same}
use Rattle.seed_deal.proofs.Decks.{ones}
use Rattle.seed_deal.specs.Layout.{laid_on, triangle_order, round_order, piles_laid}

-- whether each number is that of a pile
abbrev are_piles : ℕ → List ℕ → Bool
are_piles piles order = list_all (λ i. nat_lt i piles) order

-- no pile more or less
pub length-laid_on : (order : List ℕ) (cards : List Card) (piles : List (List Card))
    → length (laid_on order cards piles) ≡ length piles
length-laid_on [] cards piles = refl
length-laid_on (i ∷ order) [] piles = refl
length-laid_on (i ∷ order) (card ∷ cards) piles =
    length-laid_on order cards (set piles i (get_or piles i [] ++ card ∷ []))
    ∙ length-set piles i (get_or piles i [] ++ card ∷ [])

-- with no pile nothing is laid
pub laid_on-none : (order : List ℕ) (cards : List Card) → laid_on order cards [] ≡ []
laid_on-none [] cards = refl
laid_on-none (i ∷ order) [] = refl
laid_on-none (i ∷ order) (card ∷ cards) = laid_on-none order cards

-- each card that is laid is there once
sum-laid_on : (f : Card → ℕ) (order : List ℕ) (cards : List Card) (piles : List (List Card))
    → IsTrue (are_piles (length piles) order)
    → sum_by (λ pile. sum_by f pile) (laid_on order cards piles) ≡ sum_by (λ pile. sum_by f pile) piles + sum_by f
    (take (length order) cards)
sum-laid_on f [] cards piles all = omega arith
sum-laid_on f (i ∷ order) [] piles all = omega arith
sum-laid_on f (i ∷ order) (card ∷ cards) piles all =
    let parts = and_parts (nat_lt i (length piles)) (are_piles (length piles) order) all in
    let grown : List Card = get_or piles i [] ++ card ∷ [] in
    let next : List (List Card) = set piles i grown in
    let long : length piles ≡ length next = sym (length-set piles i grown) in
    let rest = sum-laid_on f order cards next (ap (λ (n : ℕ). are_piles n order) (sym long) ∙ parts.1) in
    let put = sum_by-set (λ (pile : List Card). sum_by f pile) piles i grown [] (ltb-true i (length piles) parts.0) in
    let more = sum_by-append f (get_or piles i []) (card ∷ []) in
    let one = sum_by-cons f card [] in
    let first = sum_by-cons f card (take (length order) cards) in
    omega (arith, rest, put, more, one, first)

-- the orders name piles alone
range-piles : (a n piles : ℕ) → a + n ≤ piles → IsTrue (are_piles piles (range_with_len a n))
range-piles a zero piles few = refl
range-piles a (suc n) piles few =
    and_from (nat_lt a piles) (are_piles piles (range_with_len (a + 1) n)) (lt-ltb a piles (omega (arith, few)))
    (range-piles (a + 1) n piles (omega (arith, few)))

rows-piles : (a n piles : ℕ) → a + n ≤ piles
    → IsTrue (are_piles piles (flat_map (λ row. range_with_len row (piles - row)) (range_with_len a n)))
rows-piles a zero piles few = refl
rows-piles a (suc n) piles few =
    let row : List ℕ = range_with_len a (piles - a) in
    let others : List ℕ = flat_map (λ (r : ℕ). range_with_len r (piles - r)) (range_with_len (a + 1) n) in
    list_all-append (λ (i : ℕ). nat_lt i piles) row others
    ∙ and_from (are_piles piles row) (are_piles piles others) (range-piles a (piles - a) piles (omega (arith, few)))
    (rows-piles (a + 1) n piles (omega (arith, few)))

triangle-piles : (layout : Layout) (piles : ℕ) → IsTrue (are_piles piles (triangle_order layout piles))
triangle-piles Even piles = refl
triangle-piles Triangle piles = rows-piles 0 piles piles (omega arith)

round-piles : (piles n : ℕ) → 0 < piles → IsTrue (are_piles piles (round_order piles n))
round-piles piles n some =
    list_all-map (λ (i : ℕ). nat_lt i piles) (λ (k : ℕ). k % piles) (range_with_len 0 n)
    ∙ list_all-range (λ (k : ℕ). nat_lt (k % piles) piles) 0 n (λ k. lt-ltb (k % piles) piles (mod-lt k some))

length-round : (piles n : ℕ) → length (round_order piles n) ≡ n
length-round piles n = length-map (range_with_len 0 n) (λ (k : ℕ). k % piles) ∙ length-range_with_len 0 n

pub length-piles_laid : (layout : Layout) (piles : ℕ) (cards : List Card)
    → length (piles_laid layout piles cards) ≡ piles
length-piles_laid layout piles cards =
    let none : List Card = [] in
    let rows : List ℕ = triangle_order layout piles in
    let rest : List Card = drop (length rows) cards in
    length-laid_on (round_order piles (length rest)) rest (laid_on rows cards (replicate piles none))
    ∙ length-laid_on rows cards (replicate piles none) ∙ length-replicate piles none

-- where there are piles, all cards are laid
sum-some : (f : Card → ℕ) (layout : Layout) (piles : ℕ) (cards : List Card) → 0 < piles
    → sum_by (λ pile. sum_by f pile) (piles_laid layout piles cards) ≡ sum_by f cards
sum-some f layout piles cards some =
    let none : List Card = [] in
    let empty : List (List Card) = replicate piles none in
    let rows : List ℕ = triangle_order layout piles in
    let rest : List Card = drop (length rows) cards in
    let order : List ℕ = round_order piles (length rest) in
    let middle : List (List Card) = laid_on rows cards empty in
    let many : length empty ≡ piles = length-replicate piles none in
    let still : length middle ≡ piles = length-laid_on rows cards empty ∙ many in
    let six = sum-laid_on f rows cards empty (ap (λ (n : ℕ). are_piles n rows) many ∙ triangle-piles layout piles) in
    let seven = sum-laid_on f order rest middle
    (ap (λ (n : ℕ). are_piles n order) still ∙ round-piles piles (length rest) some) in
    let nothing : sum_by (λ (pile : List Card). sum_by f pile) empty ≡ piles * 0 = sum_by-replicate
    (λ (pile : List Card). sum_by f pile) piles none in
    let zero : piles * 0 ≡ 0 = omega arith in
    let last : sum_by f (take (length order) rest) ≡ sum_by f rest = ap (sum_by f)
    (take_all (length order) rest (omega (arith, length-round piles (length rest)))) in
    let cut = sum_by-append f (take (length rows) cards) rest in
    let whole = ap (sum_by f) (take-append-drop (length rows) cards) in
    omega (arith, six, seven, nothing, zero, last, cut, whole)

sum-none : (f : Card → ℕ) (layout : Layout) (cards : List Card)
    → sum_by (λ pile. sum_by f pile) (piles_laid layout 0 cards) ≡ 0
sum-none f layout cards =
    let none : List Card = [] in
    let rows : List ℕ = triangle_order layout 0 in
    let rest : List Card = drop (length rows) cards in
    let order : List ℕ = round_order 0 (length rest) in
    let sums : List (List Card) → ℕ = sum_by (λ (pile : List Card). sum_by f pile) in
    ap (λ (piles : List (List Card)). sums (laid_on order rest piles)) (laid_on-none rows cards)
    ∙ ap sums (laid_on-none order rest)

pub sum-piles_laid : (f : Card → ℕ) (layout : Layout) (piles : ℕ) (cards : List Card) → (piles ≡ 0 → length cards ≡ 0)
    → sum_by (λ pile. sum_by f pile) (piles_laid layout piles cards) ≡ sum_by f cards
sum-piles_laid f layout zero [] left = sum-none f layout []
sum-piles_laid f layout zero (card ∷ cards) left = absurd
    (let no : length (card ∷ cards) ≡ 0 = left refl in omega (arith, no))
sum-piles_laid f layout (suc n) cards left = sum-some f layout (suc n) cards (omega arith)

pub few-piles_laid : (f : Card → ℕ) (layout : Layout) (piles : ℕ) (cards : List Card)
    → sum_by (λ pile. sum_by f pile) (piles_laid layout piles cards) ≤ sum_by f cards
few-piles_laid f layout zero cards = omega (arith, sum-none f layout cards)
few-piles_laid f layout (suc n) cards = omega (arith, sum-some f layout (suc n) cards (omega arith))

pub few-lengths : (layout : Layout) (piles : ℕ) (cards : List Card)
    → sum_by (λ pile. length pile) (piles_laid layout piles cards) ≤ length cards
few-lengths layout piles cards =
    let few = few-piles_laid (λ (c : Card). 1) layout piles cards in
    let same = sum_by-same (λ (pile : List Card). length pile) (λ (pile : List Card). sum_by (λ c. 1) pile)
    (piles_laid layout piles cards) (λ pile. sym (ones pile)) in
    omega (arith, few, same, ones cards)

-- The loops that lay cards: what is still to be laid gives what all of it does.

pub laid_on-empty : (order : List ℕ) (piles : List (List Card)) → laid_on order [] piles ≡ piles
laid_on-empty [] piles = refl
laid_on-empty (i ∷ order) piles = refl

drop-empty : (n : ℕ) → drop {A = Card} n [] ≡ []
drop-empty zero = refl
drop-empty (suc n) = refl

-- laying by this order from here on comes to what laying by the other order from there on does
pub record LaysAs (order : List ℕ) (cards : List Card) (piles : List (List Card)) (whole : List ℕ) (deck : List Card)
    (start : List (List Card)) : Type 0 where
  pub laid : laid_on order cards piles ≡ laid_on whole deck start
  pub rest : drop (length order) cards ≡ drop (length whole) deck

abbrev pub rows_from : ℕ → ℕ → List ℕ
rows_from count row = flat_map (λ r. range_with_len r (count - r)) (range_with_len row (count - row))

abbrev pub row_from : ℕ → ℕ → ℕ → List ℕ
row_from count row pile = range_with_len pile (count - pile) ++ rows_from count (row + 1)

pub lays_same : (a b : List ℕ) (cards : List Card) (piles : List (List Card)) (whole : List ℕ) (deck : List Card)
    (start : List (List Card)) → a ≡ b
    → LaysAs a cards piles whole deck start → LaysAs b cards piles whole deck start
lays_same a b cards piles whole deck start same lays = record {
  laid = ap (λ (o : List ℕ). laid_on o cards piles) (sym same) ∙ lays.laid;
  rest = ap (λ (o : List ℕ). drop (length o) cards) (sym same) ∙ lays.rest;
}

-- a row begins
pub row-begins : (count row : ℕ) → row < count → rows_from count row ≡ row_from count row row
row-begins count row inside =
    let one : count - row ≡ suc (count - (row + 1)) = omega (arith, inside) in
    ap (λ (n : ℕ). flat_map (λ r. range_with_len r (count - r)) (range_with_len row n)) one

-- a row has one pile more
row-pile : (count row pile : ℕ) → pile < count → row_from count row pile ≡ pile ∷ row_from count row (pile + 1)
row-pile count row pile inside =
    let one : count - pile ≡ suc (count - (pile + 1)) = omega (arith, inside) in
    ap (λ (n : ℕ). range_with_len pile n ++ rows_from count (row + 1)) one

pub row-next : (count row pile : ℕ) (card : Card) (cards : List Card) (piles : List (List Card)) (whole : List ℕ)
    (deck : List Card) (start : List (List Card))
    → pile < count → LaysAs (row_from count row pile) (card ∷ cards) piles whole deck start
    → LaysAs (row_from count row (pile + 1)) cards (set piles pile (get_or piles pile [] ++ card ∷ [])) whole deck start
row-next count row pile card cards piles whole deck start inside lays =
    let next = lays_same (row_from count row pile) (pile ∷ row_from count row (pile + 1))
    (card ∷ cards) piles whole deck start (row-pile count row pile inside) lays in
    record { laid = next.laid; rest = next.rest }

-- a row ends
pub row-ends : (count row pile : ℕ) → count ≤ pile → row_from count row pile ≡ rows_from count (row + 1)
row-ends count row pile past =
    let none : count - pile ≡ 0 = omega (arith, past) in
    ap (λ (n : ℕ). range_with_len pile n ++ rows_from count (row + 1)) none

-- all rows are laid, or all cards
pub rows-end : (count row : ℕ) (cards : List Card) (piles : List (List Card)) (whole : List ℕ) (deck : List Card)
    (start : List (List Card)) → count ≤ row
    → LaysAs (rows_from count row) cards piles whole deck start → (piles ≡ laid_on whole deck start)
    × (cards ≡ drop (length whole) deck)
rows-end count row cards piles whole deck start past lays =
    let none : count - row ≡ 0 = omega (arith, past) in
    let done : rows_from count row ≡ [] =
    ap (λ (n : ℕ). flat_map (λ r. range_with_len r (count - r)) (range_with_len row n)) none in
    let last = lays_same (rows_from count row) [] cards piles whole deck start done lays in
    (last.laid, last.rest)

pub cards-end : (order : List ℕ) (cards : List Card) (piles : List (List Card)) (whole : List ℕ) (deck : List Card)
    (start : List (List Card)) → cards ≡ []
    → LaysAs order cards piles whole deck start → (piles ≡ laid_on whole deck start)
    × (cards ≡ drop (length whole) deck)
cards-end order cards piles whole deck start none lays = (
  sym (ap (λ (c : List Card). laid_on order c piles) none ∙ laid_on-empty order piles) ∙ lays.laid,
  none ∙ sym (ap (λ (c : List Card). drop (length order) c) none ∙ drop-empty (length order)) ∙ lays.rest,
)

-- one card more in turn
pub drop-next : {A : Type 0} (xs : List A) (i : ℕ) (d : A) → i < length xs → drop i xs ≡ get_or xs i d ∷ drop (i + 1) xs
drop-next [] i d inside = absurd (omega (arith, inside))
drop-next (x ∷ xs) zero d inside = refl
drop-next (x ∷ xs) (suc i) d inside =
    let next : suc i + 1 ≡ suc (i + 1) = omega arith in
    drop-next xs i d (omega (arith, inside)) ∙ ap (λ (n : ℕ). get_or xs i d ∷ drop n (x ∷ xs)) (sym next)

pub turn-next : (count k : ℕ) (cards : List Card) (card : Card) (piles : List (List Card)) → k < length cards
    → laid_on (map (λ j. j % count) (range_with_len k (length cards - k))) (drop k cards) piles
    ≡ laid_on (map (λ j. j % count) (range_with_len (k + 1) (length cards - (k + 1)))) (drop (k + 1) cards)
    (set piles (k % count) (get_or piles (k % count) [] ++ get_or cards k card ∷ []))
turn-next count k cards card piles inside =
    let one : length cards - k ≡ suc (length cards - (k + 1)) = omega (arith, inside) in
    ap (λ (n : ℕ). laid_on (map (λ j. j % count) (range_with_len k n)) (drop k cards) piles) one
    ∙ ap (λ (c : List Card). laid_on (map (λ j. j % count) (range_with_len k (suc (length cards - (k + 1))))) c piles)
    (drop-next cards k card inside)

-- a card is laid on the next pile of a row
pub row-more : (count row pile : ℕ) (card : Card) (rest others : List Card) (piles grown : List (List Card))
    (whole : List ℕ) (deck : List Card) (start : List (List Card))
    → pile < count → rest ≡ card ∷ others → grown ≡ set piles pile (get_or piles pile [] ++ card ∷ [])
    → LaysAs (row_from count row pile) rest piles whole deck start
    → LaysAs (row_from count row (pile + 1)) others grown whole deck start
row-more count row pile card rest others piles grown whole deck start inside next put lays =
    let order : List ℕ = row_from count row pile in
    let here : LaysAs order (card ∷ others) piles whole deck start = record {
      laid = ap (λ (xs : List Card). laid_on order xs piles) (sym next) ∙ lays.laid;
      rest = ap (λ (xs : List Card). drop (length order) xs) (sym next) ∙ lays.rest;
    } in
    let there = row-next count row pile card others piles whole deck start inside here in
    record {
      laid = ap (λ (ps : List (List Card)). laid_on (row_from count row (pile + 1)) others ps) put
          ∙ there.laid;
      rest = there.rest;
    }

pub length-grown : (piles grown : List (List Card)) (pile : ℕ) (cards : List Card) → grown ≡ set piles pile cards
    → length grown ≡ length piles
length-grown piles grown pile cards put = ap length put ∙ length-set piles pile cards

-- with no pile nothing is laid, of whatever layout
pub piles_laid-none : (layout : Layout) (piles : ℕ) (cards : List Card) → piles ≤ 0
    → piles_laid layout piles cards ≡ replicate piles []
piles_laid-none layout zero cards none =
    let rows : List ℕ = triangle_order layout 0 in
    let rest : List Card = drop (length rows) cards in
    let order : List ℕ = round_order 0 (length rest) in
    ap (λ (piles : List (List Card)). laid_on order rest piles) (laid_on-none rows cards) ∙ laid_on-none order rest
piles_laid-none layout (suc n) cards none = absurd (omega (arith, none))
