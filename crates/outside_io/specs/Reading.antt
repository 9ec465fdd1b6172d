-- What a reading appends to a list, and what it takes from the reader, where its bytes are known.
use Rattle.std.specs.Prelude.{ℕ, ◌≡◌, ◌≤◌, List, ◌++◌, length, take, Option, IfSome}
use Rattle.std.specs.Io.KnownBytes.{Consumes}

-- The reader's bytes, or the first of them up to so many, were taken from it and appended.
pub record ReadsFront (most : ℕ) (before after : Option (List ℕ)) (old new : List ℕ) : Type 0 where
  pub bytes : List ℕ
  pub known : IfSome before (λ xs. xs ≡ bytes)
  pub taken : Consumes before after (take most bytes)
  pub grew : new ≡ old ++ take most bytes

-- A list grew by at most so many bytes.
pub record GrowsUpTo (most : ℕ) (old new : List ℕ) : Type 0 where
  pub bytes : List ℕ
  pub few : length bytes ≤ most
  pub grew : new ≡ old ++ bytes
