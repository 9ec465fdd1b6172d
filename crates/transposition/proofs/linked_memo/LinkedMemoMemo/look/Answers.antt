use Rattle.std.proofs.Common.{◌≡◌, ℕ, ◌+◌, ◌-◌, ◌<◌, true, false, List, [], ◌∷◌, ◌++◌, length, get_or, take, drop, sym}
use Rattle.std.proofs.Common.{ap, ◌∙◌, subst, arith, Contains}
use Rattle.std.specs.List.{All, Any}
use Rattle.std.proofs.lemmas.List.{get_or_default}
use Rattle.std.proofs.lemmas.List.Elements.{All-take}
use Rattle.transposition.specs.Memo.{BecomesNewest}
use Rattle.transposition.specs.Table.{IsTable, IsNode, hash32, flag_at, keys_at}
use Rattle.transposition.proofs.Hashes.{hash32_same}
use Rattle.transposition.proofs.Keys.{all_keys, any_key, keys_split, keys_append, cut_at, not_true}
use Rattle.transposition.proofs.OnceKept.{once-looked}
use Rattle.transposition.proofs.Tables.{few_finished, is_live, reordered, renewed_sub, length-renewed}
use Rattle.transposition.proofs.linked_memo.LinkedMemoMemo.look.Goals as goal

-- a node with an equal key has the hash that is looked for, so it is not kept
not_kept : (g : _) (c : goal.After-self-1 g) (s : ℕ) → IsNode (length c.args.self.now.keys.items) s
    → (d : g.row.K.Denot) → g.K.PartialEq.eq c.args.key.now (get_or c.args.self.now.keys.items (s - 1) d) ≡ true →
    (Contains c.args.self.now.order.order s → ⊥) × (flag_at c.args.self.now.flags.items s ≡ false)
not_kept g c s is d t =
    let m = c.args.self.now in
    let pos = is.0 in
    let le = is.1 in
    let lt : s - 1 < length c.args.self.now.keys.items = omega arith in
    let back : s - 1 + 1 ≡ s = omega arith in
    let h : get_or c.args.self.now.chains.hashes (s - 1) 0 ≡ c.hash_of-hash.result =
    c.args.self.now.table.hashed (s - 1) d lt
    ∙ sym (hash32_same g.K.Hash.hash_input c.args.self.now.hasher c.args.key.now (get_or c.args.self.now.keys.items
    (s - 1) d) (g.met.K.Hash.respects_eq c.args.key.now (get_or c.args.self.now.keys.items (s - 1) d) t))
    ∙ sym c.hash_of-hash.ensures in
    subst (λ n. (Contains c.args.self.now.order.order n → ⊥) × (flag_at c.args.self.now.flags.items n ≡ false)) back
    (c.find-node.ensures.none c.if-node-eq0.true (s - 1) lt h d t)

pub returns-then-node-eq0-clause-answer : goal.returns-then-node-eq0-clause-answer
returns-then-node-eq0-clause-answer g c =
    let keys = c.args.self.now.keys.items in
    let front_in : All (IsNode (length c.args.self.now.keys.items))
    (take c.args.self.now.depth c.args.self.now.path.items) = All-take (IsNode (length c.args.self.now.keys.items))
    c.args.self.now.depth c.args.self.now.path.items c.args.self.now.table.in_path in
    let order_in = c.args.self.now.table.in_order in (
      all_keys (λ k. g.K.PartialEq.eq c.args.key.now k ≡ false) c.args.self.now.keys.items
          (take c.args.self.now.depth c.args.self.now.path.items) front_in
          (λ s k d. not_true (g.K.PartialEq.eq c.args.key.now (get_or c.args.self.now.keys.items (s - 1) d))
          (λ t. let is = subst (IsNode (length c.args.self.now.keys.items)) k.2 (front_in k.0 s k.1) in
          let f = (not_kept g c s is d t).1 in let l = c.args.self.now.table.live s k in cc)),
      all_keys (λ k. g.K.PartialEq.eq c.args.key.now k ≡ false) c.args.self.now.keys.items
          c.args.self.now.order.order order_in
          (λ s k d. not_true (g.K.PartialEq.eq c.args.key.now (get_or c.args.self.now.keys.items (s - 1) d))
          (λ t. let is = subst (IsNode (length c.args.self.now.keys.items)) k.2 (order_in k.0 s k.1) in
          (not_kept g c s is d t).0 k)),
    )

pub returns-then-index-clause-answer : goal.returns-then-index-clause-answer
returns-then-index-clause-answer g c =
    let node = c.find-node.result in
    let pos : 0 < c.find-node.result = (let f = c.if-node-eq0.false in omega arith) in
    let is : IsNode (length c.args.self.now.keys.items) c.find-node.result = (pos, c.find-node.ensures.within) in
    let in' : c.find-node.result < length c.args.self.now.flags.items =
    (let a = c.find-node.ensures.within in let b = c.args.self.now.table.marked in omega arith) in
    let f : flag_at c.args.self.now.flags.items c.find-node.result ≡ true =
    get_or_default c.args.self.now.flags.items c.find-node.result false c.index.result.now in' ∙ sym c.index.ensures
    ∙ c.if-index.true in
    let k = is_live
    (hash32 g.K.Hash.hash_input c.args.self.now.hasher) c.args.self.now.keys.items c.args.self.now.chains.hashes
    c.args.self.now.order.order c.args.self.now.order.nodes c.args.self.now.flags.items c.args.self.now.path.items
    c.args.self.now.depth c.args.self.now.capacity c.args.self.now.table c.find-node.result f in
    let front = take c.args.self.now.depth c.args.self.now.path.items in
    subst (λ xs. Any (λ x. g.K.PartialEq.eq c.args.key.now x ≡ true) (keys_at c.args.self.now.keys.items xs))
    (sym (cut_at (take c.args.self.now.depth c.args.self.now.path.items) c.find-node.result k))
    (any_key (λ x. g.K.PartialEq.eq c.args.key.now x ≡ true) c.args.self.now.keys.items
    (take k.0 (take c.args.self.now.depth c.args.self.now.path.items)) c.find-node.result
    (drop (k.0 + 1) (take c.args.self.now.depth c.args.self.now.path.items)) c.args.key.now is
    (c.find-node.ensures.equal pos c.args.key.now))

module _ (g : _) (c : goal.After-renew g) where
  pos : 0 < c.find-node.result
  pos = let f = c.if-node-eq0.false in omega arith

  is_node : IsNode (length c.args.self.now.keys.items) c.find-node.result
  is_node = (pos, c.find-node.ensures.within)

  finished_is : (before after : List ℕ) → c.args.self.now.order.order ≡ before ++ c.find-node.result ∷ after
      → c.renew.new.self.order ≡ c.find-node.result ∷ (before ++ after) →
      BecomesNewest g.K.PartialEq.eq c.args.key.now (keys_at c.args.self.now.keys.items c.args.self.now.order.order)
      (keys_at c.args.self.now.keys.items c.renew.new.self.order)
  finished_is before after old_is new_is = record {
    before = keys_at c.args.self.now.keys.items before;
    found = get_or c.args.self.now.keys.items (c.find-node.result - 1) c.args.key.now;
    after = keys_at c.args.self.now.keys.items after;
    old_is = ap (keys_at c.args.self.now.keys.items) old_is
        ∙ keys_split c.args.self.now.keys.items before c.find-node.result after c.args.key.now is_node;
    new_is = ap (keys_at c.args.self.now.keys.items) new_is
        ∙ keys_split c.args.self.now.keys.items [] c.find-node.result (before ++ after) c.args.key.now is_node
        ∙ ap (λ ks. get_or c.args.self.now.keys.items (c.find-node.result - 1) c.args.key.now ∷ ks)
        (keys_append c.args.self.now.keys.items before after);
    equal = c.find-node.ensures.equal pos c.args.key.now;
  }

pub invariant_of-self-2 : goal.invariant_of-self-2
invariant_of-self-2 g c =
    let m = c.args.self.now in
    let o = c.renew.ensures.order in
    let hash = hash32 g.K.Hash.hash_input m.hasher in
    record {
      table = subst (λ n. IsTable hash m.keys.items m.chains.hashes c.renew.new.self.order n m.flags.items m.path.items
          m.depth m.capacity) (sym c.renew.ensures.nodes)
          (reordered hash m.keys.items m.chains.hashes m.order.order m.order.nodes m.flags.items m.path.items m.depth
          m.capacity m.table
          c.renew.new.self.order
          (ap (λ (xs : List ℕ). length xs) o.new_is ∙ length-renewed c.find-node.result o.before o.after
          ∙ ap (λ (xs : List ℕ). length xs) (sym o.old_is))
          (λ x k. subst (λ xs. Contains xs x) (sym o.old_is)
          (renewed_sub c.find-node.result o.before o.after x (subst (λ xs. Contains xs x) o.new_is k))));
      once = once-looked g.K.PartialEq.eq g.met.K.Eq.laws _ _ _ c.args.key.now
          (finished_is g c o.before o.after o.old_is o.new_is) m.once;
    }

pub returns-clause-answer : goal.returns-clause-answer
returns-clause-answer g c =
    let o = c.renew.ensures.order in
    subst (λ xs. Any (λ x. g.K.PartialEq.eq c.args.key.now x ≡ true) (keys_at c.args.self.now.keys.items xs))
    (sym o.old_is)
    (any_key (λ x. g.K.PartialEq.eq c.args.key.now x ≡ true) c.args.self.now.keys.items o.before c.find-node.result
    o.after c.args.key.now (is_node g c.before) (c.find-node.ensures.equal (pos g c.before) c.args.key.now))

pub returns-clause-finished : goal.returns-clause-finished
returns-clause-finished g c = finished_is g c.before c.renew.ensures.order.before c.renew.ensures.order.after
    c.renew.ensures.order.old_is c.renew.ensures.order.new_is

pub returns-then-node-eq0-clause-within_capacity : goal.returns-then-node-eq0-clause-within_capacity
returns-then-node-eq0-clause-within_capacity g c =
    let m = c.args.self.now in
    few_finished (hash32 g.K.Hash.hash_input m.hasher) m.keys.items m.chains.hashes m.order.order m.order.nodes
    m.flags.items m.path.items m.depth m.capacity m.table

pub returns-then-index-clause-within_capacity : goal.returns-then-index-clause-within_capacity
returns-then-index-clause-within_capacity g c =
    let m = c.args.self.now in
    few_finished (hash32 g.K.Hash.hash_input m.hasher) m.keys.items m.chains.hashes m.order.order m.order.nodes
    m.flags.items m.path.items m.depth m.capacity m.table

pub returns-clause-within_capacity : goal.returns-clause-within_capacity
returns-clause-within_capacity g c =
    let m = c.args.self.now in
    few_finished (hash32 g.K.Hash.hash_input m.hasher) m.keys.items m.chains.hashes m.order.order m.order.nodes
    m.flags.items m.path.items m.depth m.capacity m.table
