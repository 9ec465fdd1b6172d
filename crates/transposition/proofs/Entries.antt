-- what an entry does to the table
use Rattle.std.proofs.Common.{◌≡◌, ◌≢◌, ℕ, ◌+◌, ◌-◌, ◌<◌, ◌≤◌, Bool, true, false, List, [], ◌∷◌, ◌++◌, length, get_or}
use Rattle.std.proofs.Common.{set, take, refl, sym, ap, ◌∙◌, subst, arith, Contains, inl, inr, append-nil}
use Rattle.std.specs.Cmp.{IsEquivalence}
use Rattle.std.specs.List.{All}
use Rattle.std.proofs.lemmas.Bool.{cases_eq, cases_lt}
use Rattle.std.proofs.lemmas.List.{get_or_append_left, get_or_push, length_push, get_or-take, length-take, length-set}
use Rattle.std.proofs.lemmas.List.{get_or-set_same, get_or-set_other, take_more, take_all, get_or_default}
use Rattle.std.proofs.lemmas.List.Elements.{Contains-append_left, Contains-push, Contains-push_cases}
use Rattle.std.proofs.lemmas.List.Elements.{All-weaker, All-push}
use Rattle.std.proofs.lemmas.List.Quantifiers.{all_pairs_push}
use Rattle.transposition.specs.Memo.{IsAbsent, HoldsEachKeyOnce}
use Rattle.transposition.specs.Table.{IsTable, IsNode, flag_at, key_at, keys_at}
use Rattle.transposition.proofs.OnceKept.{once-entered}
use Rattle.transposition.proofs.Keys.{key_is, keys_append, same_keys}

module _ {K : Type 0} (hash : K → ℕ) (keys : List K) (hashes order : List ℕ) (nodes : ℕ) (flags : List Bool)
    (path : List ℕ) (depth capacity : ℕ)
    (table : IsTable hash keys hashes order nodes flags path depth capacity) (key : K) (h : ℕ)
    (h_is : h ≡ hash key) where
  in_front : All (IsNode (length keys)) (take depth path)
  in_front k d lt =
      let lt' : k < length path = (let l = length-take depth path in omega arith) in
      let le : k < depth = (let l = length-take depth path in omega arith) in
      subst (IsNode (length keys)) (sym (get_or-take depth path k d le)) (table.in_path k d lt')

  -- a free slot is used again
  module _ (node : ℕ) (lt : depth < length path) (node_is : node ≡ get_or path depth 0) where
    pub reused_node : IsNode (length keys) node
    reused_node = subst (IsNode (length keys)) (sym node_is) (table.in_path depth 0 lt)

    place : node - 1 < length keys
    place = let a = reused_node.0 in let b = reused_node.1 in omega arith

    flag_in : node < length flags
    flag_in = let b = reused_node.1 in let m = table.marked in omega arith

    front_is : take (depth + 1) path ≡ take depth path ++ node ∷ []
    front_is = take_more path depth 0 lt ∙ ap (λ x. take depth path ++ x ∷ []) (sym node_is)

    not_in_front : Contains (take depth path) node → ⊥
    not_in_front c =
        let le : c.0 < depth = (let l = length-take depth path in let k = c.1 in omega arith) in
        table.once c.0 depth 0 le lt
        (sym (get_or-take depth path c.0 0 le) ∙ get_or_default (take depth path) c.0 0 node c.1 ∙ c.2 ∙ node_is)

    not_in_order : Contains order node → ⊥
    not_in_order c = table.apart depth 0 lt (subst (Contains order) node_is c)

    apart_from : (xs : List ℕ) → (Contains xs node → ⊥) → All (IsNode (length keys)) xs → (s : ℕ) → Contains xs s
        → (d : K) → get_or (set keys (node - 1) key) (s - 1) d ≡ get_or keys (s - 1) d
    apart_from xs out all s c d =
        let is = subst (IsNode (length keys)) c.2 (all c.0 s c.1) in
        let p = is.0 in
        let q = reused_node.0 in
        get_or-set_other keys (node - 1) (s - 1) key d
        (λ e. let same : s ≡ node = omega arith in out (subst (Contains xs) same c))

    pub reused : IsTable hash (set keys (node - 1) key) (set hashes (node - 1) h) order nodes (set flags node true) path
        (depth + 1) capacity
    reused =
        let n : length (set keys (node - 1) key) ≡ length keys = length-set keys (node - 1) key in
        let fl : length (set flags node true) ≡ length flags = length-set flags node true in
        record {
          hashed = λ k d l.
              let l' : k < length keys = omega arith in
              elim (cases_eq k (node - 1)) [
                | inl e ↦ subst
                    (λ i. get_or (set hashes (node - 1) h) i 0 ≡ hash (get_or (set keys (node - 1) key) i d)) (sym e)
                    (get_or-set_same hashes (node - 1) h 0 (let s = table.same in let p = place in omega arith) ∙ h_is
                    ∙ sym (ap hash (get_or-set_same keys (node - 1) key d place)))
                | inr ne ↦ get_or-set_other hashes (node - 1) k h 0 ne ∙ table.hashed k d l'
                    ∙ sym (ap hash (get_or-set_other keys (node - 1) k key d ne))
              ];
          same = length-set hashes (node - 1) h ∙ table.same ∙ sym n;
          in_order = subst (λ m. All (IsNode m) order) (sym n) table.in_order;
          in_path = subst (λ m. All (IsNode m) path) (sym n) table.in_path;
          apart = table.apart;
          once = table.once;
          live = λ s c. elim (cases_eq s node) [
            | inl e ↦ subst (λ x. flag_at (set flags node true) x ≡ true) (sym e)
                (get_or-set_same flags node true false flag_in)
            | inr ne ↦ get_or-set_other flags node s true false ne
                ∙ elim (Contains-push_cases (take depth path) node s (subst (λ xs. Contains xs s) front_is c)) [
                  | inl c' ↦ table.live s c'
                  | inr e ↦ absurd (ne (sym e))
                ]
          ];
          idle = λ s out.
              let ne : s ≢ node = λ e. out (subst (λ xs. Contains xs s) (sym front_is)
              (subst (Contains (take depth path ++ node ∷ [])) (sym e) (Contains-push (take depth path) node))) in
              get_or-set_other flags node s true false ne ∙ table.idle s (λ c. out (subst (λ xs. Contains xs s)
              (sym front_is) (Contains-append_left (take depth path) (node ∷ []) s c)));
          deep = omega arith;
          full = λ few. absurd (let e = table.full few in omega arith);
          within = table.within;
          some = table.some;
          small = table.small;
          few = table.few;
          noded = let m = table.noded in omega arith;
          marked = let m = table.marked in omega arith;
        }

    pub reused_live : keys_at (set keys (node - 1) key) (take (depth + 1) path) ≡ keys_at keys
        (take depth path) ++ key ∷ []
    reused_live =
        let n : length (set keys (node - 1) key) ≡ length keys = length-set keys (node - 1) key in
        ap (keys_at (set keys (node - 1) key)) front_is ∙ keys_append (set keys (node - 1) key)
        (take depth path) (node ∷ [])
        ∙ ap (λ ks. ks ++ keys_at (set keys (node - 1) key) (node ∷ [])) (same_keys keys (set keys (node - 1) key)
        (take depth path) in_front (omega arith) (apart_from (take depth path) not_in_front in_front))
        ∙ ap (λ ks. keys_at keys (take depth path) ++ ks)
        (append-nil (key_at (set keys (node - 1) key) node)
        ∙ key_is (set keys (node - 1) key) node key (subst (λ m. IsNode m node) (sym n) reused_node)
        ∙ ap (λ x. x ∷ []) (get_or-set_same keys (node - 1) key key place))

    pub reused_finished : keys_at (set keys (node - 1) key) order ≡ keys_at keys order
    reused_finished =
        let n : length (set keys (node - 1) key) ≡ length keys = length-set keys (node - 1) key in
        same_keys keys (set keys (node - 1) key) order table.in_order (omega arith)
        (apart_from order not_in_order table.in_order)

    pub reused_once : (eq : K → K → Bool) → IsEquivalence eq → HoldsEachKeyOnce eq (keys_at keys (take depth path))
        (keys_at keys order)
        → IsAbsent eq key (keys_at keys (take depth path)) → IsAbsent eq key (keys_at keys order)
        → HoldsEachKeyOnce eq (keys_at (set keys (node - 1) key) (take (depth + 1) path))
        (keys_at (set keys (node - 1) key) order)
    reused_once eq laws once not_live not_finished =
        subst (λ live. HoldsEachKeyOnce eq live (keys_at (set keys (node - 1) key) order)) (sym reused_live)
        (subst (λ finished. HoldsEachKeyOnce eq (keys_at keys (take depth path) ++ key ∷ []) finished)
        (sym reused_finished)
        (once-entered eq laws (keys_at keys (take depth path)) (keys_at keys order) key once not_live not_finished))

  -- a new slot
  module _ (deep : length path ≤ depth) (node : ℕ) (node_is : node ≡ length keys + 1) (noded : length keys + 1 < nodes)
      (marked : length keys + 1 < length flags) where
    depth_is : depth ≡ length path
    depth_is = let d = table.deep in omega arith

    front_path : take depth path ≡ path
    front_path = take_all depth path deep

    front_new : take (depth + 1) (path ++ node ∷ []) ≡ path ++ node ∷ []
    front_new = take_all (depth + 1) (path ++ node ∷ []) (let l = length_push path node in omega arith)

    longer : length (keys ++ key ∷ []) ≡ length keys + 1
    longer = length_push keys key

    wider : (s : ℕ) → IsNode (length keys) s → IsNode (length (keys ++ key ∷ [])) s
    wider s is = let a = is.0 in let b = is.1 in let q = longer in (omega arith, omega arith)

    not_new : (s : ℕ) → IsNode (length keys) s → s ≢ node
    not_new s is e = let b = is.1 in absurd (omega arith)

    pub entered : IsTable hash (keys ++ key ∷ []) (hashes ++ h ∷ []) order nodes (set flags node true)
        (path ++ node ∷ []) (depth + 1) capacity
    entered =
        let fl : length (set flags node true) ≡ length flags = length-set flags node true in
        record {
          hashed = λ k d l. elim (cases_lt k (length keys)) [
            | inl below ↦ get_or_append_left hashes (h ∷ []) 0 k (let s = table.same in omega arith)
                ∙ table.hashed k d below ∙ sym (ap hash (get_or_append_left keys (key ∷ []) d k below))
            | inr above ↦
                let e : length keys ≡ k = (let q = longer in omega arith) in
                get_or_push hashes h 0 k (table.same ∙ e) ∙ h_is ∙ sym (ap hash (get_or_push keys key d k e))
          ];
          same = length_push hashes h ∙ ap (λ m. m + 1) table.same ∙ sym longer;
          in_order = All-weaker (IsNode (length keys)) (IsNode (length (keys ++ key ∷ []))) wider order table.in_order;
          in_path = All-push (IsNode (length (keys ++ key ∷ []))) path node
              (All-weaker (IsNode (length keys)) (IsNode (length (keys ++ key ∷ []))) wider path table.in_path)
              (let q = longer in (omega arith, omega arith));
          apart = All-push (λ s. Contains order s → ⊥) path node table.apart
              (λ c. not_new node (subst (IsNode (length keys)) c.2 (table.in_order c.0 node c.1)) refl);
          once = all_pairs_push (λ a b. a ≢ b) path node table.once
              (λ k d l. not_new (get_or path k d) (table.in_path k d l));
          live = λ s c. elim (cases_eq s node) [
            | inl e ↦ subst (λ x. flag_at (set flags node true) x ≡ true) (sym e)
                (get_or-set_same flags node true false (omega arith))
            | inr ne ↦ get_or-set_other flags node s true false ne
                ∙ elim (Contains-push_cases path node s (subst (λ xs. Contains xs s) front_new c)) [
                  | inl c' ↦ table.live s (subst (λ xs. Contains xs s) (sym front_path) c')
                  | inr e ↦ absurd (ne (sym e))
                ]
          ];
          idle = λ s out.
              let ne : s ≢ node = λ e. out (subst (λ xs. Contains xs s) (sym front_new)
              (subst (Contains (path ++ node ∷ [])) (sym e) (Contains-push path node))) in
              get_or-set_other flags node s true false ne
              ∙ table.idle s (λ c. out (subst (λ xs. Contains xs s) (sym front_new)
              (Contains-append_left path (node ∷ []) s (subst (λ xs. Contains xs s) front_path c))));
          deep = let l = length_push path node in let d = depth_is in omega arith;
          full = λ few. let l = length_push path node in let d = depth_is in omega arith;
          within = table.within;
          some = table.some;
          small = table.small;
          few = table.few;
          noded = let q = longer in omega arith;
          marked = let q = longer in omega arith;
        }

    same_old : (xs : List ℕ) → All (IsNode (length keys)) xs → keys_at (keys ++ key ∷ []) xs ≡ keys_at keys xs
    same_old xs all = same_keys keys (keys ++ key ∷ []) xs all (let q = longer in omega arith)
        (λ s c d. let is = subst (IsNode (length keys)) c.2 (all c.0 s c.1) in let a = is.0 in
        let b = is.1 in get_or_append_left keys (key ∷ []) d (s - 1) (omega arith))

    pub entered_live : keys_at (keys ++ key ∷ []) (take (depth + 1) (path ++ node ∷ [])) ≡ keys_at keys
        (take depth path) ++ key ∷ []
    entered_live =
        ap (keys_at (keys ++ key ∷ [])) front_new ∙ keys_append (keys ++ key ∷ []) path (node ∷ [])
        ∙ ap (λ ks. ks ++ keys_at (keys ++ key ∷ []) (node ∷ []))
        (same_old path table.in_path ∙ ap (keys_at keys) (sym front_path))
        ∙ ap (λ ks. keys_at keys (take depth path) ++ ks)
        (append-nil (key_at (keys ++ key ∷ []) node) ∙ key_is (keys ++ key ∷ []) node key
        (let q = longer in (omega arith, omega arith))
        ∙ ap (λ x. x ∷ []) (get_or_push keys key key (node - 1) (omega arith)))

    pub entered_finished : keys_at (keys ++ key ∷ []) order ≡ keys_at keys order
    entered_finished = same_old order table.in_order

    pub entered_once : (eq : K → K → Bool) → IsEquivalence eq → HoldsEachKeyOnce eq (keys_at keys (take depth path))
        (keys_at keys order)
        → IsAbsent eq key (keys_at keys (take depth path)) → IsAbsent eq key (keys_at keys order)
        → HoldsEachKeyOnce eq (keys_at (keys ++ key ∷ []) (take (depth + 1) (path ++ node ∷ [])))
        (keys_at (keys ++ key ∷ []) order)
    entered_once eq laws once not_live not_finished =
        subst (λ live. HoldsEachKeyOnce eq live (keys_at (keys ++ key ∷ []) order)) (sym entered_live)
        (subst (λ finished. HoldsEachKeyOnce eq (keys_at keys (take depth path) ++ key ∷ []) finished)
        (sym entered_finished)
        (once-entered eq laws (keys_at keys (take depth path)) (keys_at keys order) key once not_live not_finished))
