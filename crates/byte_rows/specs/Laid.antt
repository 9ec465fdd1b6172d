-- How rows lie in one list of bytes, one after the other.
use Rattle.std.specs.Prelude.{◌≡◌, ℕ, ◌≤◌, List, [], ◌∷◌, length, slice_range}

-- the rows that begin at a place, each up to the next end
abbrev pub rows_from : ℕ → List ℕ → List ℕ → List (List ℕ)
rows_from start bytes [] = []
rows_from start bytes (end ∷ ends) = slice_range bytes start end ∷ rows_from end bytes ends

-- no end stands before the one before it, and the last is that of the bytes
abbrev pub AreEnds : ℕ → List ℕ → List ℕ → Type 0
AreEnds start bytes [] = start ≡ length bytes
AreEnds start bytes (end ∷ ends) = (start ≤ end) × AreEnds end bytes ends
