-- Rows in one list of bytes: how many there are, where each lies, and one more.
use Rattle.std.proofs.Common.{◌≡◌, ℕ, zero, suc, ◌+◌, ◌-◌, ◌<◌, ◌≤◌, List, [], ◌∷◌, ◌++◌, length, get_or, take, drop, refl}
use Rattle.std.proofs.Common.{ap, sym, subst, ◌∙◌, arith, length-append, length-take-le, length-drop}
use Rattle.std.proofs.lemmas.List.{take_all, take-append-le, drop-append-le}
use Rattle.std.proofs.Math.Seq.{drop-append_seam}
use Rattle.std.specs.List.{concat, slice_range}
use Rattle.byte_rows.specs.Laid.{rows_from, AreEnds}

-- there is a row for each end
pub length-rows : (start : ℕ) (bytes ends : List ℕ) → length (rows_from start bytes ends) ≡ length ends
length-rows start bytes [] = refl
length-rows start bytes (end ∷ ends) = ap (λ n. suc n) (length-rows end bytes ends)

-- rows begin within the bytes
pub start_within : (start : ℕ) (bytes ends : List ℕ) → AreEnds start bytes ends → start ≤ length bytes
start_within start bytes [] is = omega (arith, is)
start_within start bytes (end ∷ ends) is = let a = is.0 in let b = start_within end bytes ends is.1 in omega arith

-- where a row lies
pub bounds_at : (start : ℕ) (bytes ends : List ℕ) (i : ℕ) → AreEnds start bytes ends → i < length ends
    → (get_or (start ∷ ends) i 0 ≤ get_or ends i 0) × (get_or ends i 0 ≤ length bytes)
bounds_at start bytes [] i is lt = absurd (omega arith)
bounds_at start bytes (end ∷ ends) zero is lt = (is.0, start_within end bytes ends is.1)
bounds_at start bytes (end ∷ ends) (suc i) is lt = bounds_at end bytes ends i is.1 (omega arith)

-- and what it is
pub row_at : (start : ℕ) (bytes ends : List ℕ) (i : ℕ) → i < length ends
    → get_or (rows_from start bytes ends) i [] ≡ slice_range bytes (get_or (start ∷ ends) i 0) (get_or ends i 0)
row_at start bytes [] i lt = absurd (omega arith)
row_at start bytes (end ∷ ends) zero lt = refl
row_at start bytes (end ∷ ends) (suc i) lt = row_at end bytes ends i (omega arith)

-- how long a part is
length-part : (bytes : List ℕ) (start end : ℕ) → start ≤ end → end ≤ length bytes
    → length (slice_range bytes start end) ≡ end - start
length-part bytes start end a b =
    let d = length-drop start bytes in length-take-le (end - start) (drop start bytes) (omega arith)

-- a part of longer bytes
part-append : (bytes row : List ℕ) (start end : ℕ) → start ≤ end → end ≤ length bytes
    → slice_range (bytes ++ row) start end ≡ slice_range bytes start end
part-append bytes row start end a b =
    let d = length-drop start bytes in
    ap (λ xs. take (end - start) xs) (drop-append-le start bytes row (omega arith))
    ∙ take-append-le (end - start) (drop start bytes) row (omega arith)

-- the part behind the bytes
part-new : (bytes row : List ℕ) → slice_range (bytes ++ row) (length bytes) (length bytes + length row) ≡ row
part-new bytes row =
    ap (λ xs. take (length bytes + length row - length bytes) xs) (drop-append_seam bytes row)
    ∙ take_all (length bytes + length row - length bytes) row (omega arith)

-- the rows hold all the bytes
pub length-rows_together : (start : ℕ) (bytes ends : List ℕ) → AreEnds start bytes ends
    → length (concat (rows_from start bytes ends)) + start ≡ length bytes
length-rows_together start bytes [] is = omega (arith, is)
length-rows_together start bytes (end ∷ ends) is =
    let a = is.0 in
    let b = start_within end bytes ends is.1 in
    let n = length-append (slice_range bytes start end) (concat (rows_from end bytes ends)) in
    let m = length-part bytes start end a b in
    let r = length-rows_together end bytes ends is.1 in
    omega arith

-- one more row
pub rows-push : (start : ℕ) (bytes ends row : List ℕ) → AreEnds start bytes ends
    → rows_from start (bytes ++ row) (ends ++ (length bytes + length row) ∷ []) ≡ rows_from start bytes ends ++ row ∷ []
rows-push start bytes [] row is =
    subst (λ s. slice_range (bytes ++ row) s (length bytes + length row) ∷ [] ≡ row ∷ []) (sym is)
    (ap (λ xs. xs ∷ []) (part-new bytes row))
rows-push start bytes (end ∷ ends) row is =
    let part = part-append bytes row start end is.0 (start_within end bytes ends is.1) in
    let rest = rows-push end bytes ends row is.1 in
    ap (λ xs. xs ∷ rows_from end (bytes ++ row) (ends ++ (length bytes + length row) ∷ [])) part
    ∙ ap (λ xs. slice_range bytes start end ∷ xs) rest

pub ends-push : (start : ℕ) (bytes ends row : List ℕ) → AreEnds start bytes ends
    → AreEnds start (bytes ++ row) (ends ++ (length bytes + length row) ∷ [])
ends-push start bytes [] row is = (omega (arith, is), sym (length-append bytes row))
ends-push start bytes (end ∷ ends) row is = (is.0, ends-push end bytes ends row is.1)
