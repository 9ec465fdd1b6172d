use Rattle.std.proofs.Common.{◌≡◌, ℕ, ◌+◌, ◌-◌, ◌<◌, ◌≤◌, false, List, [], ◌∷◌, length, set, take, sym, ap, ◌∙◌, subst}
use Rattle.std.proofs.Common.{arith, inl, inr}
use Rattle.std.proofs.lemmas.Bool.{cases_eq}
use Rattle.std.proofs.lemmas.List.{get_or_default}
use Rattle.recency.specs.Order.{Order}
use Rattle.transposition.specs.Memo.{HoldsEachKeyOnce, LeavesLast}
use Rattle.transposition.specs.Table.{IsTable, hash32, keys_at}
use Rattle.transposition.proofs.OnceKept.{once-left}
use Rattle.transposition.proofs.Leavings.{left_room, leaves_room, left_full, leaves_full, not_in_rest}
use Rattle.transposition.proofs.linked_memo.LinkedMemoMemo.leave.Goals as goal

positive : {K : Type 0} (keys : List K) (path : List ℕ) (depth : ℕ)
    → (keys_at keys (take depth path) ≡ [] → ⊥) → 1 ≤ depth
positive keys path depth some = elim
    (cases_eq depth 0) [ inl e ↦ absurd (some (ap (λ n. keys_at keys (take n path)) e)) | inr ne ↦ omega arith ]

pub invariant_of-self : goal.invariant_of-self
invariant_of-self g c =
    let m = c.args.self.now in
    let d = m.depth - 1 in
    let node = c.index-node.result.now in
    let hash = hash32 g.K.Hash.hash_input m.hasher in
    let some : 1 ≤ m.depth = positive m.keys.items m.path.items m.depth c.requires in
    let below : m.depth ≡ d + 1 = omega arith in
    let within : d < length m.path.items = (let t = m.table.deep in omega arith) in
    let at = c.index-node.ensures ∙ get_or_default m.path.items d node 0 within in
    let few : length m.order.order < m.capacity =
    (let t = c.if-len-self.true in let e = c.len.ensures in omega arith) in
    let flags = set m.flags.items node false in
    let left = leaves_room hash m.keys.items m.chains.hashes m.order.order m.order.nodes m.flags.items m.path.items
    m.depth m.capacity m.table d below node at few in
    record {
      table = subst (λ (v : Order). IsTable hash m.keys.items m.chains.hashes v.order v.nodes flags
          c.truncate.new.self.items d m.capacity) (sym c.push_newest.ensures)
          (subst (λ ps. IsTable hash m.keys.items m.chains.hashes (node ∷ m.order.order) m.order.nodes flags ps d
          m.capacity) (sym c.truncate.ensures.items)
          (left_room hash m.keys.items m.chains.hashes m.order.order m.order.nodes m.flags.items m.path.items m.depth
          m.capacity m.table d below node at few));
      once = subst (λ (v : Order). HoldsEachKeyOnce g.K.PartialEq.eq
          (keys_at m.keys.items (take d c.truncate.new.self.items)) (keys_at m.keys.items v.order))
          (sym c.push_newest.ensures)
          (subst (λ ps. HoldsEachKeyOnce g.K.PartialEq.eq (keys_at m.keys.items (take d ps))
          (keys_at m.keys.items (node ∷ m.order.order))) (sym c.truncate.ensures.items)
          (once-left g.K.PartialEq.eq g.met.K.Eq.laws m.capacity _ _ _ _ left m.once));
    }

pub returns-then-len-self-clause-only_finished_go : goal.returns-then-len-self-clause-only_finished_go
returns-then-len-self-clause-only_finished_go g c =
    let m = c.args.self.now in
    let d = m.depth - 1 in
    let node = c.index-node.result.now in
    let hash = hash32 g.K.Hash.hash_input m.hasher in
    let some : 1 ≤ m.depth = positive m.keys.items m.path.items m.depth c.requires in
    let below : m.depth ≡ d + 1 = omega arith in
    let within : d < length m.path.items = (let t = m.table.deep in omega arith) in
    let at = c.index-node.ensures ∙ get_or_default m.path.items d node 0 within in
    let few : length m.order.order < m.capacity =
    (let t = c.if-len-self.true in let e = c.len.ensures in omega arith) in
    let live = keys_at m.keys.items (take m.depth m.path.items) in
    let finished = keys_at m.keys.items m.order.order in
    subst (λ (v : Order). LeavesLast m.capacity live finished (keys_at m.keys.items (take d c.truncate.new.self.items))
    (keys_at m.keys.items v.order)) (sym c.push_newest.ensures)
    (subst (λ ps. LeavesLast m.capacity live finished (keys_at m.keys.items (take d ps))
    (keys_at m.keys.items (node ∷ m.order.order))) (sym c.truncate.ensures.items)
    (leaves_room hash m.keys.items m.chains.hashes m.order.order m.order.nodes m.flags.items m.path.items m.depth
    m.capacity m.table d below node at few))

pub push_newest-requires-2-clause-absent : goal.push_newest-requires-2-clause-absent
push_newest-requires-2-clause-absent g c =
    let m = c.args.self.now in
    let d = m.depth - 1 in
    let node = c.index-node.result.now in
    let hash = hash32 g.K.Hash.hash_input m.hasher in
    let some : 1 ≤ m.depth = positive m.keys.items m.path.items m.depth c.requires in
    let below : m.depth ≡ d + 1 = omega arith in
    let within : d < length m.path.items = (let t = m.table.deep in omega arith) in
    let at = c.index-node.ensures ∙ get_or_default m.path.items d node 0 within in
    let many : m.capacity ≤ length m.order.order =
    (let t = c.if-len-self.false in let e = c.len.ensures in omega arith) in
    not_in_rest hash m.keys.items m.chains.hashes m.order.order m.order.nodes m.flags.items m.path.items m.depth
    m.capacity m.table d below node at many
    c.pop_oldest-oldest.result c.pop_oldest-oldest.new.self.order c.pop_oldest-oldest.ensures.order
    c.pop_oldest-oldest.ensures.absent

pub invariant_of-self-2 : goal.invariant_of-self-2
invariant_of-self-2 g c =
    let m = c.args.self.now in
    let d = m.depth - 1 in
    let node = c.index-node.result.now in
    let hash = hash32 g.K.Hash.hash_input m.hasher in
    let some : 1 ≤ m.depth = positive m.keys.items m.path.items m.depth c.requires in
    let below : m.depth ≡ d + 1 = omega arith in
    let within : d < length m.path.items = (let t = m.table.deep in omega arith) in
    let at = c.index-node.ensures ∙ get_or_default m.path.items d node 0 within in
    let many : m.capacity ≤ length m.order.order =
    (let t = c.if-len-self.false in let e = c.len.ensures in omega arith) in
    let flags = set m.flags.items node false in
    let path = set m.path.items d c.pop_oldest-oldest.result in
    let left = leaves_full hash m.keys.items m.chains.hashes m.order.order m.order.nodes m.flags.items m.path.items
    m.depth m.capacity m.table d below node at many
    c.pop_oldest-oldest.result c.pop_oldest-oldest.new.self.order c.pop_oldest-oldest.ensures.order
    c.pop_oldest-oldest.ensures.absent in
    record {
      table = subst (λ (v : Order). IsTable hash m.keys.items m.chains.hashes v.order v.nodes flags path d m.capacity)
          (sym c.push_newest-2.ensures)
          (subst (λ n. IsTable hash m.keys.items m.chains.hashes (node ∷ c.pop_oldest-oldest.new.self.order) n flags
          path d m.capacity) (sym c.pop_oldest-oldest.ensures.nodes)
          (left_full hash m.keys.items m.chains.hashes m.order.order m.order.nodes m.flags.items m.path.items m.depth
          m.capacity m.table d below node at many
          c.pop_oldest-oldest.result c.pop_oldest-oldest.new.self.order c.pop_oldest-oldest.ensures.order
          c.pop_oldest-oldest.ensures.absent));
      once = subst (λ (v : Order). HoldsEachKeyOnce g.K.PartialEq.eq (keys_at m.keys.items (take d path))
          (keys_at m.keys.items v.order)) (sym c.push_newest-2.ensures)
          (once-left g.K.PartialEq.eq g.met.K.Eq.laws m.capacity _ _ _ _ left m.once);
    }

pub returns-clause-only_finished_go : goal.returns-clause-only_finished_go
returns-clause-only_finished_go g c =
    let m = c.args.self.now in
    let d = m.depth - 1 in
    let node = c.index-node.result.now in
    let hash = hash32 g.K.Hash.hash_input m.hasher in
    let some : 1 ≤ m.depth = positive m.keys.items m.path.items m.depth c.requires in
    let below : m.depth ≡ d + 1 = omega arith in
    let within : d < length m.path.items = (let t = m.table.deep in omega arith) in
    let at = c.index-node.ensures ∙ get_or_default m.path.items d node 0 within in
    let many : m.capacity ≤ length m.order.order =
    (let t = c.if-len-self.false in let e = c.len.ensures in omega arith) in
    let live = keys_at m.keys.items (take m.depth m.path.items) in
    let finished = keys_at m.keys.items m.order.order in
    let path = set m.path.items d c.pop_oldest-oldest.result in
    subst (λ (v : Order). LeavesLast m.capacity live finished (keys_at m.keys.items (take d path))
    (keys_at m.keys.items v.order)) (sym c.push_newest-2.ensures)
    (leaves_full hash m.keys.items m.chains.hashes m.order.order m.order.nodes m.flags.items m.path.items m.depth
    m.capacity m.table d below node at many
    c.pop_oldest-oldest.result c.pop_oldest-oldest.new.self.order c.pop_oldest-oldest.ensures.order
    c.pop_oldest-oldest.ensures.absent)
