-- what leaving the last live key does to the table
use Rattle.std.proofs.Common.{◌≡◌, ◌≢◌, ℕ, ◌+◌, ◌-◌, ◌<◌, ◌≤◌, Bool, true, false, List, [], ◌∷◌, ◌++◌, length, get_or}
use Rattle.std.proofs.Common.{set, take, sym, ap, ◌∙◌, subst, arith, Contains, inl, inr, ◌⊎◌, append-nil}
use Rattle.std.specs.List.{All}
use Rattle.std.proofs.lemmas.Bool.{cases_eq, cases_lt}
use Rattle.std.proofs.lemmas.List.{length_push, get_or-take, length-take, length-set, get_or-set_same, get_or-set_other}
use Rattle.std.proofs.lemmas.List.{take_more, take_all, take-take, take-set, take_at, get_or_default}
use Rattle.std.proofs.lemmas.List.Elements.{All-take, All-cons, All-set, Contains-get_or, Contains-append_cases}
use Rattle.std.proofs.lemmas.List.Elements.{Contains-append_left, Contains-push, Contains-push_cases}
use Rattle.transposition.specs.Memo.{LeavesLast}
use Rattle.transposition.specs.Table.{IsTable, IsNode, flag_at, key_at, keys_at}
use Rattle.transposition.proofs.Cached.{take_cons}
use Rattle.transposition.proofs.Keys.{key_is, keys_append, length-keys}

some_of : {K : Type 0} (keys : List K) → 0 < length keys → K
some_of [] h = absurd (omega arith)
some_of (k ∷ keys) h = k

cons_cases : (x : ℕ) (xs : List ℕ) (s : ℕ) → Contains (x ∷ xs) s → (x ≡ s) ⊎ Contains xs s
cons_cases x xs s c = elim (Contains-append_cases (x ∷ []) xs s c) [
  | inl a ↦ elim (Contains-push_cases [] x s a) [ inl n ↦ (let lt = n.1 in absurd (omega arith)) | inr e ↦ inl e ]
  | inr b ↦ inr b
]

module _ {K : Type 0} (hash : K → ℕ) (keys : List K) (hashes order : List ℕ) (nodes : ℕ) (flags : List Bool)
    (path : List ℕ) (depth capacity : ℕ)
    (table : IsTable hash keys hashes order nodes flags path depth capacity) (d : ℕ) (depth_is : depth ≡ d + 1)
    (node : ℕ) (node_is : node ≡ get_or path d 0) where
  lt : d < length path
  lt = let t = table.deep in omega arith

  pub left_node : IsNode (length keys) node
  left_node = subst (IsNode (length keys)) (sym node_is) (table.in_path d 0 lt)

  flag_in : node < length flags
  flag_in = let b = left_node.1 in let m = table.marked in omega arith

  pub not_in_order : Contains order node → ⊥
  not_in_order c = table.apart d 0 lt (subst (Contains order) node_is c)

  front_is : take depth path ≡ take d path ++ node ∷ []
  front_is = ap (λ n. take n path) depth_is ∙ take_more path d 0 lt ∙ ap (λ x. take d path ++ x ∷ []) (sym node_is)

  not_left : Contains (take d path) node → ⊥
  not_left c =
      let le : c.0 < d = (let l = length-take d path in let k = c.1 in omega arith) in
      table.once c.0 d 0 le lt
      (sym (get_or-take d path c.0 0 le) ∙ get_or_default (take d path) c.0 0 node c.1 ∙ c.2 ∙ node_is)

  live_left : (s : ℕ) → Contains (take d path) s → flag_at (set flags node false) s ≡ true
  live_left s c =
      let ne : s ≢ node = λ e. not_left (subst (Contains (take d path)) e c) in
      get_or-set_other flags node s false false ne ∙ table.live s
      (subst (λ xs. Contains xs s) (sym front_is) (Contains-append_left (take d path) (node ∷ []) s c))

  idle_left : (s : ℕ) → (Contains (take d path) s → ⊥) → flag_at (set flags node false) s ≡ false
  idle_left s out = elim (cases_eq s node) [
    | inl e ↦ subst (λ x. flag_at (set flags node false) x ≡ false) (sym e)
        (get_or-set_same flags node false false flag_in)
    | inr ne ↦ get_or-set_other flags node s false false ne
        ∙ table.idle s (λ c. elim (Contains-push_cases (take d path) node s (subst (λ xs. Contains xs s) front_is c)) [
          | inl c' ↦ out c'
          | inr e ↦ ne (sym e)
        ])
  ]

  -- two places of the path have two nodes
  apart_places : (i j : ℕ) (e : ℕ) → i ≢ j → i < length path → j < length path → get_or path i e ≡ get_or path j e → ⊥
  apart_places i j e ne il jl same = elim (cases_lt i j) [
    | inl less ↦ table.once i j e less jl same
    | inr more ↦ table.once j i e (omega arith) il (sym same)
  ]

  the_key : K
  the_key = get_or keys (node - 1) (some_of keys (let a = left_node.0 in let b = left_node.1 in omega arith))

  -- the keys before and after
  leaves : (order' path' : List ℕ) → take d path' ≡ take d path
      → keys_at keys order' ≡ take (capacity - 1) (keys_at keys order) →
      LeavesLast capacity (keys_at keys (take depth path)) (keys_at keys order) (keys_at keys (take d path'))
      (keys_at keys (node ∷ order'))
  unfolding the_key
  leaves order' path' same_front same_order =
      let one : key_at keys node ≡ the_key ∷ [] = key_is keys node
      (some_of keys (let a = left_node.0 in let b = left_node.1 in omega arith)) left_node in
      record {
        key = the_key;
        live_is = ap (keys_at keys) front_is ∙ keys_append keys (take d path) (node ∷ [])
            ∙ ap (λ ks. keys_at keys (take d path) ++ ks) (append-nil (key_at keys node) ∙ one)
            ∙ ap (λ xs. keys_at keys xs ++ the_key ∷ []) (sym same_front);
        finished_is = ap (λ ks. ks ++ keys_at keys order') one ∙ ap (λ ks. the_key ∷ ks) same_order
            ∙ sym (take_cons capacity the_key (keys_at keys order) table.some);
      }

  -- there is room among the finished keys
  module _ (few : length order < capacity) where
    pub left_room : IsTable hash keys hashes (node ∷ order) nodes (set flags node false) (take d path) d capacity
    left_room =
        let fl : length (set flags node false) ≡ length flags = length-set flags node false in
        let ll : length (take d path) ≡ d = (let l = length-take d path in let t = lt in omega arith) in
        record {
          hashed = table.hashed;
          same = table.same;
          in_order = All-cons (IsNode (length keys)) node order left_node table.in_order;
          in_path = All-take (IsNode (length keys)) d path table.in_path;
          apart = λ k e l c.
              let le : k < d = omega arith in
              let l' : k < length path = (let t = lt in omega arith) in
              elim (cons_cases node order (get_or (take d path) k e) c) [
                | inl same ↦ not_left (k, l, get_or_default (take d path) k node e l ∙ sym same)
                | inr c' ↦ table.apart k e l' (subst (Contains order) (get_or-take d path k e le) c')
              ];
          once = λ i j e ij l.
              let jd : j < d = omega arith in
              let l' : j < length path = (let t = lt in omega arith) in
              λ same. table.once i j e ij l'
              (sym (get_or-take d path i e (omega arith)) ∙ same ∙ get_or-take d path j e jd);
          live = λ s c. live_left s (subst (λ xs. Contains xs s) (take-take d d path (omega arith)) c);
          idle = λ s out.
              idle_left s (λ c. out (subst (λ xs. Contains xs s) (sym (take-take d d path (omega arith))) c));
          deep = omega arith;
          full = λ h. ll;
          within = omega arith;
          some = table.some;
          small = table.small;
          few = table.few;
          noded = table.noded;
          marked = let m = table.marked in omega arith;
        }

    pub leaves_room : LeavesLast capacity (keys_at keys (take depth path)) (keys_at keys order)
        (keys_at keys (take d (take d path))) (keys_at keys (node ∷ order))
    leaves_room = leaves order (take d path) (take-take d d path (omega arith))
        (sym (take_all (capacity - 1) (keys_at keys order)
        (let l = length-keys keys order table.in_order in omega arith)))

  -- the oldest finished key goes
  module _ (many : capacity ≤ length order) (oldest : ℕ) (order' : List ℕ) (old_is : order ≡ order' ++ oldest ∷ [])
      (gone : Contains order' oldest → ⊥) where
    sub : (s : ℕ) → Contains order' s → Contains order s
    sub s c = subst (λ xs. Contains xs s) (sym old_is) (Contains-append_left order' (oldest ∷ []) s c)

    oldest_in : Contains order oldest
    oldest_in = subst (λ xs. Contains xs oldest) (sym old_is) (Contains-push order' oldest)

    node_of : (s : ℕ) → Contains order s → IsNode (length keys) s
    node_of s c = subst (IsNode (length keys)) c.2 (table.in_order c.0 s c.1)

    shorter : length order ≡ length order' + 1
    shorter = ap (λ (xs : List ℕ). length xs) old_is ∙ length_push order' oldest

    differs : (s : ℕ) → Contains path s → s ≢ oldest
    differs s c e = table.apart c.0 s c.1 (subst (Contains order) (sym (c.2 ∙ e)) oldest_in)

    pub not_in_rest : Contains order' node → ⊥
    not_in_rest c = not_in_order (sub node c)

    pub left_full : IsTable hash keys hashes (node ∷ order') nodes (set flags node false) (set path d oldest) d capacity
    left_full =
        let fl : length (set flags node false) ≡ length flags = length-set flags node false in
        let ll : length (set path d oldest) ≡ length path = length-set path d oldest in
        let sh = shorter in
        record {
          hashed = table.hashed;
          same = table.same;
          in_order = All-cons (IsNode (length keys)) node order' left_node
              (λ k e l. node_of (get_or order' k e) (sub (get_or order' k e) (Contains-get_or order' k e l)));
          in_path = All-set (IsNode (length keys)) path d oldest (node_of oldest oldest_in) table.in_path;
          apart = λ k e l c. elim (cases_eq k d) [
            | inl is ↦
                let at : get_or (set path d oldest) k e ≡ oldest = subst (λ i. get_or (set path d oldest) i e ≡ oldest)
                (sym is) (get_or-set_same path d oldest e lt) in
                elim (cons_cases node order' (get_or (set path d oldest) k e) c) [
                  | inl same ↦ not_in_order (subst (Contains order) (sym (same ∙ at)) oldest_in)
                  | inr c' ↦ gone (subst (Contains order') at c')
                ]
            | inr ne ↦
                let at : get_or (set path d oldest) k e ≡ get_or path k e = get_or-set_other path d k oldest e ne in
                let l' : k < length path = omega arith in
                elim (cons_cases node order' (get_or (set path d oldest) k e) c) [
                  | inl same ↦ apart_places k d e ne l' lt (sym (same ∙ at) ∙ node_is ∙ get_or_default path d 0 e lt)
                  | inr c' ↦ table.apart k e l' (sub (get_or path k e) (subst (Contains order') at c'))
                ]
          ];
          once = λ i j e ij l same.
              let jl : j < length path = omega arith in
              let il : i < length path = omega arith in
              elim (cases_eq i d) [
                | inl is ↦
                    let ai : get_or
                    (set path d oldest) i e ≡ oldest = subst (λ x. get_or (set path d oldest) x e ≡ oldest) (sym is)
                    (get_or-set_same path d oldest e lt) in
                    let aj : get_or (set path d oldest) j e ≡ get_or path j e = get_or-set_other path d j oldest e
                    (λ jd. absurd (omega arith)) in
                    differs (get_or path j e) (Contains-get_or path j e jl) (sym aj ∙ sym same ∙ ai)
                | inr ne ↦
                    let ai : get_or (set path d oldest) i e ≡ get_or path i e = get_or-set_other path d i oldest e ne in
                    elim (cases_eq j d) [
                      | inl js ↦
                          let aj : get_or
                          (set path d oldest) j e ≡ oldest = subst (λ x. get_or (set path d oldest) x e ≡ oldest)
                          (sym js) (get_or-set_same path d oldest e lt) in
                          differs (get_or path i e) (Contains-get_or path i e il) (sym ai ∙ same ∙ aj)
                      | inr nj ↦
                          let aj : get_or (set path d oldest) j e ≡ get_or path j e =
                          get_or-set_other path d j oldest e nj in
                          table.once i j e ij jl (sym ai ∙ same ∙ aj)
                    ]
              ];
          live = λ s c. live_left s (subst (λ xs. Contains xs s) (take-set path d oldest) c);
          idle = λ s out. idle_left s (λ c. out (subst (λ xs. Contains xs s) (sym (take-set path d oldest)) c));
          deep = let t = lt in omega arith;
          full = λ h. absurd (omega arith);
          within = let w = table.within in omega arith;
          some = table.some;
          small = table.small;
          few = table.few;
          noded = table.noded;
          marked = let m = table.marked in omega arith;
        }

    pub leaves_full : LeavesLast capacity (keys_at keys (take depth path)) (keys_at keys order)
        (keys_at keys (take d (set path d oldest))) (keys_at keys (node ∷ order'))
    leaves_full = leaves order' (set path d oldest) (take-set path d oldest)
        (let all' : All (IsNode (length keys)) order' =
        (λ k e l. node_of (get_or order' k e) (sub (get_or order' k e) (Contains-get_or order' k e l))) in
        let n = length-keys keys order' all' in
        let w = table.within in
        let sh = shorter in
        sym (ap (λ xs. take (capacity - 1) (keys_at keys xs)) old_is ∙ ap (take (capacity - 1)) (keys_append keys order'
        (oldest ∷ [])) ∙ take_at (keys_at keys order') (keys_at keys (oldest ∷ [])) (capacity - 1) (omega arith)))
