-- The ranks that a card may have. What the program promises does not rest on this page.
use Rattle.std.specs.Prelude.{ℕ, ◌≤◌}

-- a rank that a card may have
abbrev pub IsRank : ℕ → Type 0
IsRank r = (1 ≤ r) × (r ≤ 13)
