-- What a contract sees of a budget of nodes.
use Rattle.std.specs.Prelude.{ℕ}

-- how many nodes may be spent, and how many were
pub record Spending : Type 0 where
  pub limit : ℕ
  pub spent : ℕ
