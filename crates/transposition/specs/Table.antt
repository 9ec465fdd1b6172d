-- The one table of a linked memo. A node is one more than the place of its key.
use Rattle.std.specs.Prelude.{◌≡◌, ◌≢◌, ℕ, ◌+◌, ◌-◌, ◌<◌, ◌≤◌, ◌^◌, ◌%◌, Bool, true, false, List, length, take, drop}
use Rattle.std.specs.Prelude.{slice_index, slice_index_or, min}
use Rattle.std.specs.List.{All, AllPairs, Contains, flat_map, fold}
use Rattle.std.specs.Hash.FoldHasher as folding
use Rattle.std.specs.Hash.BuildHasherDefault.{initial_hasher}
use Rattle.std.specs.declared.hash.FoldHasher.{FoldHasher}
use Rattle.std.specs.declared.hash.BuildHasherDefault.{BuildHasherDefault}

-- the low 32 bits of a key's hash
unfoldable pub hash32 : {K : Type 0} → (K → List (List ℕ)) → BuildHasherDefault FoldHasher → K → ℕ
hash32 input hasher key = folding.finish (fold folding.write (initial_hasher hasher) (input key)) % 2 ^ 32

-- the key of a node
abbrev pub key_at : {K : Type 0} → List K → ℕ → List K
key_at keys node = take 1 (drop (node - 1) keys)

-- the keys of nodes, in their order
abbrev pub keys_at : {K : Type 0} → List K → List ℕ → List K
keys_at keys nodes = flat_map (key_at keys) nodes

-- the flag of a node
abbrev pub flag_at : List Bool → ℕ → Bool
flag_at flags node = slice_index_or flags node false

-- the nodes of the table
abbrev pub IsNode : ℕ → ℕ → Type 0
IsNode n node = (0 < node) × (node ≤ n)

-- what holds of the table: the live nodes are the first `depth` of the path, the free ones are the others
pub record IsTable {K : Type 0} (hash : K → ℕ) (keys : List K) (hashes : List ℕ) (order : List ℕ) (nodes : ℕ)
    (flags : List Bool) (path : List ℕ) (depth capacity : ℕ) : Type 0 where
  pub hashed : (k : ℕ) (d : K) → k < length keys → slice_index hashes k ≡ hash (slice_index_or keys k d)
  pub same : length hashes ≡ length keys
  pub in_order : All (IsNode (length keys)) order
  pub in_path : All (IsNode (length keys)) path
  pub apart : All (λ node. Contains order node → ⊥) path
  pub once : AllPairs (λ a b. a ≢ b) path
  pub live : (node : ℕ) → Contains (take depth path) node → flag_at flags node ≡ true
  pub idle : (node : ℕ) → (Contains (take depth path) node → ⊥) → flag_at flags node ≡ false
  pub deep : depth ≤ length path
  pub full : length order < capacity → length path ≡ depth
  pub within : length order ≤ capacity
  pub some : 0 < capacity
  pub small : capacity < 2 ^ 32
  pub few : nodes < 2 ^ 32
  pub noded : length keys < nodes
  pub marked : length keys < length flags

-- how many keys can be entered without taking memory: into free slots, and then into new ones
unfoldable pub spare_of : ℕ → ℕ → ℕ → ℕ → ℕ → ℕ → ℕ
spare_of free keys path chains flags nodes = free + min keys (min path (min chains (min flags nodes)))
