-- What a table of kept boards keeps, so that a key is found by its hash.
use Rattle.std.specs.Prelude.{◌≡◌, ◌+◌, ◌*◌, ◌<◌, ◌≤◌, ◌^◌, ◌%◌, ℕ, List, [], ◌∷◌, length, map, fold, slice_index_or}
use Rattle.std.specs.List.{concat}
use Rattle.std.specs.Hash.FoldHasher as folding
use Rattle.std.specs.Hash.BuildHasherDefault.{initial_hasher}
use Rattle.std.specs.declared.hash.FoldHasher.{FoldHasher}
use Rattle.std.specs.declared.hash.BuildHasherDefault.{BuildHasherDefault}
use Rattle.game_rules.specs.declared.Move.TheVariants.{Deal}
use Rattle.shortest_line.specs.declared.kept.Reached.{Reached}

-- the low 32 bits of the hash of a key
unfoldable pub hash_of : BuildHasherDefault FoldHasher → List ℕ → ℕ
hash_of hasher key = folding.finish (fold folding.write (initial_hasher hasher) (key ∷ [])) % 2 ^ 32

-- how the board after a place's was reached
abbrev pub reached_at : List Reached → ℕ → Reached
reached_at reached i = slice_index_or reached i (record { by = Deal; from = 0 })

-- each key has its hash at its place, and each board but the start was reached from an earlier one
pub record IsTable (hash : List ℕ → ℕ) (keys : List (List ℕ)) (reached : List Reached) (hashes : List ℕ) : Type 0 where
  pub hashed : hashes ≡ map hash keys
  pub count : length keys ≡ length reached + 1
  pub earlier : (i : ℕ) → i < length reached → (reached_at reached i).from ≤ i
  pub few : length keys ≤ 4000000
  pub short : length (concat keys) ≤ 320 * length keys
