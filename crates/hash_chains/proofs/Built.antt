-- How far the chains are laid anew.
use Rattle.std.specs.Prelude.{ℕ, List, length}
use Rattle.hash_chains.specs.declared.links.Chain.{Chain}
use Rattle.hash_chains.specs.Chained.{Chained, bucket_of, next_of, head_of}

-- the first n slots stand in their chains
pub record IsBuilt (heads : List ℕ) (slots : List Chain) (n : ℕ) : Type 0 where
  pub chained : Chained (bucket_of heads slots) (next_of slots) (head_of heads) n (length heads)
