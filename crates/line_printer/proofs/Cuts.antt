-- A list that is cut at the first element that passes.
use Rattle.std.proofs.Common.{◌≡◌, ◌<◌, ◌≤◌, ◌+◌, ◌-◌, ℕ, List, [], ◌∷◌, length, take, drop, Bool, true, false, cond}
use Rattle.std.proofs.Common.{nat_lt, Some, None, Option, refl, ap, sym, ◌∙◌, arith, length-drop}
use Rattle.std.specs.List.{slice_split, position, position_or_len, before_first, after_first, count_by}
use Rattle.std.proofs.lemmas.Bool.{ltb-true, ltb-false}
use Rattle.std.proofs.lemmas.List.{take_all}
use Rattle.std.proofs.lemmas.List.Sums.{fails_before_first}
use Rattle.std.proofs.lemmas.List.Splits.{slice_split_first, slice_split_none, length-slice_split}

pub position_some : (p : ℕ → Bool) (xs : List ℕ) (at : ℕ) → Some at ≡ position p xs → (position_or_len p xs ≡ at)
    × (position_or_len p xs < length xs)
position_some p xs at is =
    let n = position_or_len p xs in
    let by_test : (b : Bool) → nat_lt n (length xs) ≡ b → Some at ≡ cond b (Some n) None → (n ≡ at) × (n < length xs) =
    λ b. elim b as (λ b. nat_lt n (length xs) ≡ b → Some at ≡ cond b (Some n) None → (n ≡ at) × (n < length xs))
    [ true ↦ λ t e. (cc, ltb-true _ _ t) | false ↦ λ t e. absurd (cc) ] in
    by_test (nat_lt n (length xs)) refl is

pub position_none : (p : ℕ → Bool) (xs : List ℕ) → None ≡ position p xs → length xs ≤ position_or_len p xs
position_none p xs is =
    let n = position_or_len p xs in
    let by_test : (b : Bool) → nat_lt n (length xs) ≡ b
    → ◌≡◌ {A = Option ℕ} None (cond b (Some n) None) → length xs ≤ n =
    λ b. elim b as (λ b. nat_lt n (length xs) ≡ b → ◌≡◌ {A = Option ℕ} None (cond b (Some n) None) → length xs ≤ n)
    [ true ↦ λ t e. absurd (cc) | false ↦ λ t e. ltb-false _ _ t ] in
    by_test (nat_lt n (length xs)) refl is

-- a range from a place on
pub range_from : (xs : List ℕ) (at : ℕ) → take (length xs - at) (drop at xs) ≡ drop at xs
range_from xs at = take_all (length xs - at) (drop at xs) (omega (arith, length-drop at xs))

pub split_some : (p : ℕ → Bool) (xs : List ℕ) (at : ℕ) → Some at ≡ position p xs
    → slice_split p xs ≡ take at xs ∷ slice_split p (take (length xs - (at + 1)) (drop (at + 1) xs))
split_some p xs at is =
    let found = position_some p xs at is in
    slice_split_first p xs 0 found.1
    ∙ ap (λ n. take n xs ∷ slice_split p (drop (n + 1) xs)) found.0
    ∙ ap (λ rest. take at xs ∷ slice_split p rest) (sym (range_from xs (at + 1)))

pub split_none : (p : ℕ → Bool) (xs : List ℕ) → None ≡ position p xs → slice_split p xs ≡ xs ∷ []
split_none p xs is =
    let far = position_none p xs is in
    slice_split_none p xs (λ k d l. fails_before_first p xs k d (omega arith))

pub before_some : (p : ℕ → Bool) (xs : List ℕ) (at : ℕ) → Some at ≡ position p xs → before_first p xs ≡ take at xs
before_some p xs at is = ap (λ n. take n xs) (position_some p xs at is).0

pub before_none : (p : ℕ → Bool) (xs : List ℕ) → None ≡ position p xs → before_first p xs ≡ xs
before_none p xs is = take_all (position_or_len p xs) xs (position_none p xs is)

pub after_some : (p : ℕ → Bool) (xs : List ℕ) (at : ℕ) → Some at ≡ position p xs
    → take (length xs - (at + 1)) (drop (at + 1) xs) ≡ after_first p xs
after_some p xs at is = range_from xs (at + 1) ∙ ap (λ n. drop (n + 1) xs) (sym (position_some p xs at is).0)

-- the number of cuts
pub count_more : (p : ℕ → Bool) (xs first rest : List ℕ) → slice_split p xs ≡ first ∷ slice_split p rest
    → count_by p xs ≡ count_by p rest + 1
count_more p xs first rest cut =
    let all = length-slice_split p xs in
    let left = length-slice_split p rest in
    let same : length (slice_split p xs) ≡ length (first ∷ slice_split p rest) = ap length cut in
    omega arith

pub count_none : (p : ℕ → Bool) (xs : List ℕ) → slice_split p xs ≡ xs ∷ [] → count_by p xs ≡ 0
count_none p xs whole =
    let all = length-slice_split p xs in
    let same : length (slice_split p xs) ≡ length (xs ∷ []) = ap length whole in
    omega arith
