-- what each call does to the table
use Rattle.std.proofs.Common.{◌≡◌, ℕ, ◌+◌, ◌<◌, ◌≤◌, ◌^◌, Bool, true, false, List, [], ◌∷◌, ◌++◌, length, get_or, take, sym}
use Rattle.std.proofs.Common.{◌∙◌, subst, arith, Contains, inl, inr}
use Rattle.std.proofs.lemmas.Bool.{cases_eq, cases_lt}
use Rattle.std.proofs.lemmas.List.{length-append, get_or_append_left, get_or_push, length_push, get_or_past}
use Rattle.std.proofs.lemmas.List.Elements.{Contains-get_or, Contains-append_cases}
use Rattle.std.proofs.lemmas.List.Elements.{Contains-append_left, Contains-append_right}
use Rattle.transposition.specs.Table.{IsTable, IsNode, flag_at, keys_at, spare_of}
use Rattle.transposition.proofs.Keys.{decide, length-keys}

pub renewed_sub : (s : ℕ) (before after : List ℕ) (x : ℕ) → Contains (s ∷ (before ++ after)) x
    → Contains (before ++ s ∷ after) x
renewed_sub s before after x c = elim (Contains-append_cases (s ∷ []) (before ++ after) x c) [
  | inl a ↦ Contains-append_right before (s ∷ after) x (Contains-append_left (s ∷ []) after x a)
  | inr b ↦ elim (Contains-append_cases before after x b) [
    | inl a ↦ Contains-append_left before (s ∷ after) x a
    | inr d ↦ Contains-append_right before (s ∷ after) x (Contains-append_right (s ∷ []) after x d)
  ]
]

pub length-renewed : (s : ℕ) (before after : List ℕ) → length (s ∷ (before ++ after)) ≡ length (before ++ s ∷ after)
length-renewed s before after = let a = length-append before after in
    let b = length-append before (s ∷ after) in omega arith

module _ {K : Type 0} (hash : K → ℕ) (keys : List K) (hashes order : List ℕ) (nodes : ℕ) (flags : List Bool)
    (path : List ℕ) (depth capacity : ℕ)
    (table : IsTable hash keys hashes order nodes flags path depth capacity) where
  -- the finished nodes in another order
  pub reordered : (order' : List ℕ) → length order' ≡ length order → ((s : ℕ) → Contains order' s → Contains order s)
      → IsTable hash keys hashes order' nodes flags path depth capacity
  reordered order' e sub = record {
    hashed = table.hashed;
    same = table.same;
    in_order = λ k d lt. let c = sub (get_or order' k d) (Contains-get_or order' k d lt) in
        subst (IsNode (length keys)) c.2 (table.in_order c.0 (get_or order' k d) c.1);
    in_path = table.in_path;
    apart = λ k d lt c. table.apart k d lt (sub (get_or path k d) c);
    once = table.once;
    live = table.live;
    idle = table.idle;
    deep = table.deep;
    full = λ h. table.full (omega arith);
    within = let w = table.within in omega arith;
    some = table.some;
    small = table.small;
    few = table.few;
    noded = table.noded;
    marked = table.marked;
  }

  -- there are at most as many finished keys as the capacity
  pub few_finished : length (keys_at keys order) ≤ capacity
  few_finished = let same = length-keys keys order table.in_order in let w = table.within in omega arith

  -- a flagged node is live
  pub is_live : (s : ℕ) → flag_at flags s ≡ true → Contains (take depth path) s
  is_live s h = elim (decide (take depth path) s) [ inl c ↦ c | inr out ↦ absurd (let e = table.idle s out in cc) ]

  -- more nodes and more flags
  pub widened : (nodes' : ℕ) (flags' : List Bool)
      → nodes ≤ nodes' → nodes' < 2 ^ 32 → length flags ≤ length flags' → ((s : ℕ) → flag_at flags' s ≡ flag_at flags s)
      → IsTable hash keys hashes order nodes' flags' path depth capacity
  widened nodes' flags' le few longer same = record {
    hashed = table.hashed;
    same = table.same;
    in_order = table.in_order;
    in_path = table.in_path;
    apart = table.apart;
    once = table.once;
    live = λ s c. same s ∙ table.live s c;
    idle = λ s out. same s ∙ table.idle s out;
    deep = table.deep;
    full = table.full;
    within = table.within;
    some = table.some;
    small = table.small;
    few = few;
    noded = let n = table.noded in omega arith;
    marked = let m = table.marked in omega arith;
  }

pub flags_push : (flags : List Bool) (s : ℕ) → flag_at (flags ++ false ∷ []) s ≡ flag_at flags s
flags_push flags s = elim (cases_lt s (length flags)) [
  | inl lt ↦ get_or_append_left flags (false ∷ []) false s lt
  | inr ge ↦ elim (cases_eq s (length flags)) [
    | inl e ↦ get_or_push flags false false s (sym e) ∙ sym (get_or_past flags s false ge)
    | inr ne ↦ get_or_past (flags ++ false ∷ []) s false (let l = length_push flags false in omega arith)
        ∙ sym (get_or_past flags s false ge)
  ]
]

-- a table with the same keys, and more nodes and flags
pub kept : {K : Type 0} (hash : K → ℕ) (keys keys' : List K) (hashes hashes' order order' : List ℕ) (nodes nodes' : ℕ)
    (flags flags' : List Bool) (path path' : List ℕ) (depth capacity : ℕ) →
    IsTable hash keys hashes order nodes flags path depth capacity → keys' ≡ keys → hashes' ≡ hashes
    → order' ≡ order → path' ≡ path → nodes ≤ nodes' → nodes' < 2 ^ 32 → length flags ≤ length flags'
    → ((s : ℕ) → flag_at flags' s ≡ flag_at flags s) →
    IsTable hash keys' hashes' order' nodes' flags' path' depth capacity
kept hash keys keys' hashes hashes' order order' nodes nodes' flags flags' path path' depth capacity table ek eh eo el
    le few longer same =
    subst (λ ks. IsTable hash ks hashes' order' nodes' flags' path' depth capacity) (sym ek)
    (subst (λ hs. IsTable hash keys hs order' nodes' flags' path' depth capacity) (sym eh)
    (subst (λ os. IsTable hash keys hashes os nodes' flags' path' depth capacity) (sym eo)
    (subst (λ ls. IsTable hash keys hashes order nodes' flags' ls depth capacity) (sym el)
    (widened hash keys hashes order nodes flags path depth capacity table nodes' flags' le few longer same))))

pub spare_free : (free keys path chains flags nodes : ℕ) → 1 ≤ free → 1 ≤ spare_of free keys path chains flags nodes
unfolding spare_of
spare_free free keys path chains flags nodes h = omega arith

pub spare_new : (free keys path chains flags nodes : ℕ) → 1 ≤ keys → 1 ≤ path → 1 ≤ chains → 1 ≤ flags → 1 ≤ nodes
    → 1 ≤ spare_of free keys path chains flags nodes
unfolding spare_of
spare_new free keys path chains flags nodes a b c d e = omega arith

-- a key that goes into a free slot takes one
pub spare_reused : (free free' keys path chains chains' flags flags' nodes nodes' : ℕ) → free ≤ free' + 1
    → chains ≡ chains' → flags ≡ flags' → nodes ≡ nodes'
    → spare_of free keys path chains flags nodes ≤ spare_of free' keys path chains' flags' nodes' + 1
unfolding spare_of
spare_reused free free' keys path chains chains' flags flags' nodes nodes' a b c d = omega arith

-- a key in a new slot takes the room of one
pub spare_entered : (free free' keys keys' path path' chains chains' flags flags' nodes nodes' : ℕ) → free ≤ free'
    → keys ≤ keys' + 1 → path ≤ path' + 1 → chains ≤ chains' + 1 → flags ≤ flags' + 1 → nodes ≤ nodes' + 1
    → spare_of free keys path chains flags nodes ≤ spare_of free' keys' path' chains' flags' nodes' + 1
unfolding spare_of
spare_entered free free' keys keys' path path' chains chains' flags flags' nodes nodes' a b c d e f = omega arith

pub spare_parts : (free keys path chains flags nodes : ℕ) → 1 ≤ spare_of free keys path chains flags nodes → free ≡ 0
    → (1 ≤ keys) × (1 ≤ path) × (1 ≤ chains) × (1 ≤ flags) × (1 ≤ nodes)
unfolding spare_of
spare_parts free keys path chains flags nodes h e = (omega arith, omega arith, omega arith, omega arith, omega arith)
