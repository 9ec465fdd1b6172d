-- Rows in order, followed from the left.
use Rattle.std.proofs.Common.{◌≡◌, ℕ, ◌+◌, ◌-◌, ◌*◌, ◌<◌, ◌≤◌, zero, suc, Bool, true, false, ◌&&◌, List, [], ◌∷◌, ◌++◌}
use Rattle.std.proofs.Common.{length, get_or, take, drop, length-drop, length-take-le, refl, ap, sym, ◌∙◌}
use Rattle.std.proofs.Common.{arith, true≢false}
use Rattle.std.specs.Prelude.{Option, Some, None, ◌==◌, if◌then◌else◌}
use Rattle.std.proofs.lemmas.Bool.{false_from_ne_true}
use Rattle.std.proofs.lemmas.List.{take-take, take_more, get_or-take, get_or-drop}
use Rattle.std.proofs.Math.Bool.{and-true, and_assoc}
use Rattle.std.proofs.lemmas.Nat.{row_fits}
use Rattle.std.proofs.Math.Dec.{eqb-suc-zero}
use Rattle.card_piles.specs.declared.Card.{Card}
use Rattle.game_rules.specs.Putting.{follows}
use Rattle.game_rules.specs.Winning.{goes_up, is_in_sequence}
use Rattle.game_rules.proofs.Limits.{both}
use Rattle.game_model.specs.Rows.{goes_next}

-- the last entry, and none of no entries
abbrev pub last_of : Option Card → List (Option Card) → Option Card
last_of left [] = left
last_of left (entry ∷ entries) = last_of entry entries

goes_up-more : (left : Card) (entries : List (Option Card)) (entry : Option Card)
    → goes_up left (entries ++ entry ∷ []) ≡ (goes_up left entries && goes_next (last_of (Some left) entries) entry)
goes_up-more left [] None = refl
goes_up-more left [] (Some card) = and-true (follows (Some left) card)
goes_up-more left (None ∷ entries) entry = refl
goes_up-more left (Some card ∷ entries) entry =
    ap (λ b. follows (Some left) card && b) (goes_up-more card entries entry)
    ∙ sym (and_assoc (follows (Some left) card) (goes_up card entries) (goes_next (last_of (Some card) entries) entry))

pub in_sequence-more : (entries : List (Option Card)) (entry : Option Card)
    → is_in_sequence (entries ++ entry ∷ []) ≡ (is_in_sequence entries && goes_next (last_of None entries) entry)
in_sequence-more [] None = refl
in_sequence-more [] (Some card) = and-true (card.rank == 2)
in_sequence-more (None ∷ entries) entry = refl
in_sequence-more (Some card ∷ entries) entry =
    ap (λ b. (card.rank == 2) && b) (goes_up-more card entries entry)
    ∙ sym (and_assoc (card.rank == 2) (goes_up card entries) (goes_next (last_of (Some card) entries) entry))

last_of-more : (left : Option Card) (entries : List (Option Card)) (entry : Option Card)
    → last_of left (entries ++ entry ∷ []) ≡ entry
last_of-more left [] entry = refl
last_of-more left (other ∷ entries) entry = last_of-more other entries entry

-- a part of a row in order is in order
goes_up-take : (left : Card) (entries : List (Option Card)) (n : ℕ) → goes_up left entries ≡ true
    → goes_up left (take n entries) ≡ true
goes_up-take left entries zero e = refl
goes_up-take left [] (suc n) e = refl
goes_up-take left (None ∷ entries) (suc n) e = e
goes_up-take left (Some card ∷ entries) (suc n) e =
    let parts = both (follows (Some left) card) (goes_up card entries) e in
    rw (parts.0, goes_up-take card entries n parts.1) refl

in_sequence-take : (entries : List (Option Card)) (n : ℕ) → is_in_sequence entries ≡ true
    → is_in_sequence (take n entries) ≡ true
in_sequence-take entries zero e = refl
in_sequence-take [] (suc n) e = refl
in_sequence-take (None ∷ entries) (suc n) e = e
in_sequence-take (Some card ∷ entries) (suc n) e =
    let parts = both (card.rank == 2) (goes_up card entries) e in
    rw (parts.0, goes_up-take card entries n parts.1) refl

last_of-take : (left : Option Card) (row : List (Option Card)) (k : ℕ) → k < length row
    → last_of left (take (suc k) row) ≡ get_or row k None
last_of-take left [] k low = absurd (omega (arith, low))
last_of-take left (entry ∷ row) zero low = refl
last_of-take left (entry ∷ row) (suc k) low = last_of-take entry row k (omega (arith, low))

last_of-read : (row : List (Option Card)) (k : ℕ) → k < length row
    → last_of None (take k row) ≡ (if k == 0 then None else get_or row (k - 1) None)
last_of-read row zero low = refl
last_of-read row (suc k) low =
    let place : k ≡ suc k - 1 = omega arith in
    last_of-take None row k (omega (arith, low))
    ∙ ap (λ j. get_or row j None) place
    ∙ ap (λ b. if b then None else get_or row (suc k - 1) None) (sym (eqb-suc-zero k))

-- one column more
pub row-more : (row : List (Option Card)) (k : ℕ) → k < length row → is_in_sequence (take k row) ≡ true
    → is_in_sequence (take (k + 1) row) ≡ goes_next (if k == 0 then None else get_or row (k - 1) None)
    (get_or row k None)
row-more row k low in_order =
    ap is_in_sequence (take_more row k None low)
    ∙ in_sequence-more (take k row) (get_or row k None)
    ∙ rw (in_order, last_of-read row k low) refl

-- where fewer columns are not in order, more are not
pub row-broken : (row : List (Option Card)) (k m : ℕ) → k ≤ m → is_in_sequence (take k row) ≡ false
    → is_in_sequence (take m row) ≡ false
row-broken row k m less broken =
    false_from_ne_true _ (λ all.
    true≢false (sym (in_sequence-take (take m row) k all) ∙ ap is_in_sequence (take-take k m row less) ∙ broken))

-- the entries of a row among all slots
pub row-length : (slots : List (Option Card)) (r rows columns : ℕ) → length slots ≡ rows * columns → r < rows
    → length (take columns (drop (r * columns) slots)) ≡ columns
row-length slots r rows columns long low =
    length-take-le columns (drop (r * columns) slots)
    (omega (arith, long, length-drop (r * columns) slots, row_fits r columns rows columns low (omega arith)))

pub row-read : (slots : List (Option Card)) (start columns k : ℕ) → k < columns
    → get_or (take columns (drop start slots)) k None ≡ get_or slots (start + k) None
row-read slots start columns k low = get_or-take columns (drop start slots) k None low ∙ get_or-drop start slots k None

-- one column more of a row among all slots
pub row-column : (slots : List (Option Card)) (r rows columns k : ℕ) → length slots ≡ rows * columns
    → r < rows → k < columns
    → is_in_sequence (take k (take columns (drop (r * columns) slots))) ≡ true
    → is_in_sequence (take (k + 1) (take columns (drop (r * columns) slots)))
    ≡ goes_next (if k == 0 then None else get_or slots (r * columns + k - 1) None) (get_or slots (r * columns + k) None)
row-column slots r rows columns zero long low inside in_order =
    let row : List (Option Card) = take columns (drop (r * columns) slots) in
    row-more row 0 (omega (arith, row-length slots r rows columns long low, inside)) in_order
    ∙ ap (goes_next None) (row-read slots (r * columns) columns 0 inside)
row-column slots r rows columns (suc j) long low inside in_order =
    let row : List (Option Card) = take columns (drop (r * columns) slots) in
    let first : suc j - 1 ≡ j = omega arith in
    let place : r * columns + j ≡ r * columns + suc j - 1 = omega arith in
    row-more row (suc j) (omega (arith, row-length slots r rows columns long low, inside)) in_order
    ∙ ap (λ entry. goes_next (if suc j == 0 then None else get_or row (suc j - 1) None) entry)
    (row-read slots (r * columns) columns (suc j) inside)
    ∙ ap (λ left. goes_next (if suc j == 0 then None else left) (get_or slots (r * columns + suc j) None))
    (ap (λ i. get_or row i None) first ∙ row-read slots (r * columns) columns j (omega (arith, inside))
    ∙ ap (λ i. get_or slots i None) place)
