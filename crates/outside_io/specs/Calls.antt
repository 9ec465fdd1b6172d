-- What one call of a shelf or a sink does. What the program promises does not rest on this page.
use Rattle.std.specs.Prelude.{ℕ, ◌+◌, ◌-◌, ◌^◌, min, ◌≡◌, List, ◌++◌, take, Option, ◌<◌, length}
use Rattle.std.specs.Io.KnownBytes.{Appends}
use Rattle.outside_io.specs.Shelf.{File, HasBytes}

-- one more, or the last value
abbrev pub one_more : ℕ → ℕ
one_more count = min (count + 1) (2 ^ 64 - 1)

-- A fetch gave the whole file, or its first bytes up to one more than the limit.
pub record Fetches (files : Option (List File)) (name : List ℕ) (limit : ℕ) (old new : List ℕ) : Type 0 where
  pub bytes : List ℕ
  pub told : HasBytes files name bytes
  pub grew : new ≡ old ++ take (limit + 1) bytes

-- Known bytes grow by a prefix of these, and not by all of them.
abbrev pub AppendsPart : Option (List ℕ) → Option (List ℕ) → List ℕ → Type 0
AppendsPart old new bytes = (count : ℕ) × (count < length bytes) × Appends old new (take count bytes)
