-- What bytes say as a key.
use Rattle.std.specs.Prelude.{ℕ, List}

-- the bytes of each part; no game has both piles and rows, so the rest is for both
pub record Said : Type 0 where
  pub redeals_left : ℕ
  pub stock : List ℕ
  pub waste : List ℕ
  pub heights : List ℕ
  pub hole : List ℕ
  pub cells : List ℕ
  pub reserve : List ℕ
  pub rest : List ℕ
