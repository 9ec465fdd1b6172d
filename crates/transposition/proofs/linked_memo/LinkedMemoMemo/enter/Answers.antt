use Rattle.std.proofs.Common.{◌+◌, ◌-◌, ◌<◌, ◌≤◌, true, [], ◌∷◌, ◌++◌, length, set, take, sym, ap, ◌∙◌, subst, arith}
use Rattle.std.proofs.Common.{length-append}
use Rattle.std.proofs.lemmas.List.{get_or_default, length-set}
use Rattle.hash_chains.specs.Index.{Index}
use Rattle.transposition.specs.Memo.{HoldsEachKeyOnce}
use Rattle.transposition.specs.Table.{IsTable, hash32, keys_at}
use Rattle.transposition.proofs.Tables.{spare_parts, spare_reused, spare_entered}
use Rattle.transposition.proofs.Entries.{reused, reused_live, reused_finished, reused_once, entered, entered_live}
use Rattle.transposition.proofs.Entries.{entered_finished, entered_once}
use Rattle.transposition.proofs.linked_memo.LinkedMemoMemo.enter.Goals as goal

pub invariant_of-self : goal.invariant_of-self
invariant_of-self g c =
    let m = c.args.self.now in
    let node = c.index-node.result.now in
    let hash = hash32 g.K.Hash.hash_input m.hasher in
    let free : m.depth < length m.path.items =
    (let t = c.if-self-len.true in let e = c.len.ensures in let o = m.path.ok.0 in omega arith) in
    let at = c.index-node.ensures ∙ get_or_default m.path.items m.depth node 0 free in
    record {
      table = subst (λ hs. IsTable hash (set m.keys.items (node - 1) c.args.key) hs m.order.order m.order.nodes
          (set m.flags.items node true) m.path.items (m.depth + 1) m.capacity)
          (sym (ap (λ (v : Index). v.hashes) c.replace.ensures))
          (reused hash m.keys.items m.chains.hashes m.order.order m.order.nodes m.flags.items m.path.items m.depth
          m.capacity m.table
          c.args.key c.hash_of-hash.result c.hash_of-hash.ensures node free at);
      once = reused_once hash m.keys.items m.chains.hashes m.order.order m.order.nodes m.flags.items m.path.items
          m.depth m.capacity m.table
          c.args.key c.hash_of-hash.result c.hash_of-hash.ensures node free at
          g.K.PartialEq.eq g.met.K.Eq.laws m.once c.requires.not_live c.requires.not_finished;
    }

pub returns-then-self-len-clause-live : goal.returns-then-self-len-clause-live
returns-then-self-len-clause-live g c =
    let m = c.args.self.now in
    let node = c.index-node.result.now in
    let free : m.depth < length m.path.items =
    (let t = c.if-self-len.true in let e = c.len.ensures in let o = m.path.ok.0 in omega arith) in
    reused_live (hash32 g.K.Hash.hash_input m.hasher) m.keys.items m.chains.hashes m.order.order m.order.nodes
    m.flags.items m.path.items m.depth m.capacity m.table
    c.args.key c.hash_of-hash.result c.hash_of-hash.ensures node free
    (c.index-node.ensures ∙ get_or_default m.path.items m.depth node 0 free)

pub returns-then-self-len-clause-finished : goal.returns-then-self-len-clause-finished
returns-then-self-len-clause-finished g c =
    let m = c.args.self.now in
    let node = c.index-node.result.now in
    let free : m.depth < length m.path.items =
    (let t = c.if-self-len.true in let e = c.len.ensures in let o = m.path.ok.0 in omega arith) in
    reused_finished (hash32 g.K.Hash.hash_input m.hasher) m.keys.items m.chains.hashes m.order.order m.order.nodes
    m.flags.items m.path.items m.depth m.capacity m.table
    c.args.key c.hash_of-hash.result c.hash_of-hash.ensures node free
    (c.index-node.ensures ∙ get_or_default m.path.items m.depth node 0 free)

pub push-requires-clause-room : goal.push-requires-clause-room
push-requires-clause-room g c = (spare_parts _ _ _ _ _ _ c.requires.room
    (let t = c.if-self-len.false in let e = c.len.ensures in let o = c.args.self.now.path.ok.0 in omega arith)).2

pub unreachable-requires : goal.unreachable-requires
unreachable-requires g c =
    let room = spare_parts _ _ _ _ _ _ c.requires.room
    (let t = c.if-self-len.false in let e = c.len.ensures in let o = c.args.self.now.path.ok.0 in omega arith) in
    let some = room.0 in
    let none = c.in-Err.ensures.full in
    absurd (omega arith)

pub unreachable-requires-in-Err-push : goal.unreachable-requires-in-Err-push
unreachable-requires-in-Err-push g c =
    let room = spare_parts _ _ _ _ _ _ c.requires.room
    (let t = c.if-self-len.false in let e = c.len.ensures in let o = c.args.self.now.path.ok.0 in omega arith) in
    let some = room.1 in
    let none = c.in-Err-push.ensures.full in
    absurd (omega arith)

pub index_mut-requires-2 : goal.index_mut-requires-2
index_mut-requires-2 g c =
    let node_is = c.len-node.ensures ∙ c.in-Ok.ensures.len ∙ ap (λ m. m + 1) c.args.self.now.keys.ok.0 in
    let room = spare_parts _ _ _ _ _ _ c.requires.room
    (let t = c.if-self-len.false in let e = c.len.ensures in let o = c.args.self.now.path.ok.0 in omega arith) in
    let flags = room.3 in
    let o = c.args.self.now.flags.ok.0 in
    omega arith

pub invariant_of-self-2 : goal.invariant_of-self-2
invariant_of-self-2 g c =
    let m = c.args.self.now in
    let node = c.len-node.result in
    let hash = hash32 g.K.Hash.hash_input m.hasher in
    let node_is = c.len-node.ensures ∙ c.in-Ok.ensures.len ∙ ap (λ n. n + 1) m.keys.ok.0 in
    let none_free : length m.path.items ≤ m.depth =
    (let t = c.if-self-len.false in let e = c.len.ensures in let o = m.path.ok.0 in omega arith) in
    let room = spare_parts _ _ _ _ _ _ c.requires.room
    (let t = c.if-self-len.false in let e = c.len.ensures in let o = m.path.ok.0 in omega arith) in
    let noded : length m.keys.items + 1 < m.order.nodes = (let some = room.4 in omega arith) in
    let marked : length m.keys.items + 1 < length m.flags.items = (let some = room.3 in omega arith) in
    let flags = set m.flags.items node true in
    record {
      table = subst (λ ks. IsTable hash ks c.push.new.self.hashes m.order.order m.order.nodes flags
          c.push-3.new.self.items (m.depth + 1) m.capacity) (sym c.in-Ok.ensures.items)
          (subst (λ hs. IsTable hash (m.keys.items ++ c.args.key ∷ []) hs m.order.order m.order.nodes flags
          c.push-3.new.self.items (m.depth + 1) m.capacity) (sym c.push.ensures.hashes)
          (subst (λ ps. IsTable hash (m.keys.items ++ c.args.key ∷ []) (m.chains.hashes ++ c.hash_of-hash.result ∷ [])
          m.order.order m.order.nodes flags ps (m.depth + 1) m.capacity) (sym c.in-Ok-push.ensures.items)
          (entered hash m.keys.items m.chains.hashes m.order.order m.order.nodes m.flags.items m.path.items m.depth
          m.capacity m.table
          c.args.key c.hash_of-hash.result c.hash_of-hash.ensures none_free node node_is noded marked)));
      once = subst (λ ks. HoldsEachKeyOnce g.K.PartialEq.eq (keys_at ks (take (m.depth + 1) c.push-3.new.self.items))
          (keys_at ks m.order.order)) (sym c.in-Ok.ensures.items)
          (subst (λ ps. HoldsEachKeyOnce g.K.PartialEq.eq (keys_at (m.keys.items ++ c.args.key ∷ []) (take (m.depth + 1)
          ps)) (keys_at (m.keys.items ++ c.args.key ∷ []) m.order.order)) (sym c.in-Ok-push.ensures.items)
          (entered_once hash m.keys.items m.chains.hashes m.order.order m.order.nodes m.flags.items m.path.items m.depth
          m.capacity m.table
          c.args.key c.hash_of-hash.result c.hash_of-hash.ensures none_free node node_is noded marked
          g.K.PartialEq.eq g.met.K.Eq.laws m.once c.requires.not_live c.requires.not_finished));
    }

pub returns-clause-live : goal.returns-clause-live
returns-clause-live g c =
    let m = c.args.self.now in
    let node = c.len-node.result in
    let hash = hash32 g.K.Hash.hash_input m.hasher in
    let node_is = c.len-node.ensures ∙ c.in-Ok.ensures.len ∙ ap (λ n. n + 1) m.keys.ok.0 in
    let none_free : length m.path.items ≤ m.depth =
    (let t = c.if-self-len.false in let e = c.len.ensures in let o = m.path.ok.0 in omega arith) in
    let room = spare_parts _ _ _ _ _ _ c.requires.room
    (let t = c.if-self-len.false in let e = c.len.ensures in let o = m.path.ok.0 in omega arith) in
    let noded : length m.keys.items + 1 < m.order.nodes = (let some = room.4 in omega arith) in
    let marked : length m.keys.items + 1 < length m.flags.items = (let some = room.3 in omega arith) in
    ap (λ ks. keys_at ks (take (m.depth + 1) c.push-3.new.self.items)) c.in-Ok.ensures.items
    ∙ ap (λ ps. keys_at (m.keys.items ++ c.args.key ∷ []) (take (m.depth + 1) ps)) c.in-Ok-push.ensures.items
    ∙ entered_live hash m.keys.items m.chains.hashes m.order.order m.order.nodes m.flags.items m.path.items m.depth
    m.capacity m.table
    c.args.key c.hash_of-hash.result c.hash_of-hash.ensures none_free node node_is noded marked

pub returns-clause-finished : goal.returns-clause-finished
returns-clause-finished g c =
    let m = c.args.self.now in
    let node = c.len-node.result in
    let hash = hash32 g.K.Hash.hash_input m.hasher in
    let node_is = c.len-node.ensures ∙ c.in-Ok.ensures.len ∙ ap (λ n. n + 1) m.keys.ok.0 in
    let none_free : length m.path.items ≤ m.depth =
    (let t = c.if-self-len.false in let e = c.len.ensures in let o = m.path.ok.0 in omega arith) in
    let room = spare_parts _ _ _ _ _ _ c.requires.room
    (let t = c.if-self-len.false in let e = c.len.ensures in let o = m.path.ok.0 in omega arith) in
    let noded : length m.keys.items + 1 < m.order.nodes = (let some = room.4 in omega arith) in
    let marked : length m.keys.items + 1 < length m.flags.items = (let some = room.3 in omega arith) in
    ap (λ ks. keys_at ks m.order.order) c.in-Ok.ensures.items
    ∙ entered_finished hash m.keys.items m.chains.hashes m.order.order m.order.nodes m.flags.items m.path.items m.depth
    m.capacity m.table
    c.args.key c.hash_of-hash.result c.hash_of-hash.ensures none_free node node_is noded marked

pub returns-then-self-len-clause-spare : goal.returns-then-self-len-clause-spare
returns-then-self-len-clause-spare g c =
    let m = c.args.self.now in
    let free : m.depth < length m.path.items =
    (let t = c.if-self-len.true in let e = c.len.ensures in let o = m.path.ok.0 in omega arith) in
    let room = ap (λ (v : Index). v.room) c.replace.ensures in
    let flags = length-set m.flags.items c.index-node.result.now true in
    let keys = length-set m.keys.items (c.index-node.result.now - 1) c.args.key in
    spare_reused _ _ _ _ _ _ _ _ _ _ (omega (arith, free)) (sym room) (omega (arith, flags, keys))
    (omega (arith, keys))

pub returns-clause-spare : goal.returns-clause-spare
returns-clause-spare g c =
    let m = c.args.self.now in
    let flags = length-set m.flags.items c.len-node.result true in
    let key = length-append m.keys.items (c.args.key ∷ []) in
    let keys = ap length c.in-Ok.ensures.items in
    let node = length-append m.path.items (c.len-node.result ∷ []) in
    let path = ap length c.in-Ok-push.ensures.items in
    let none_free : length m.path.items ≤ m.depth =
    (let t = c.if-self-len.false in let e = c.len.ensures in let o = m.path.ok.0 in omega arith) in
    spare_entered _ _ _ _ _ _ _ _ _ _ _ _ (omega (arith, none_free))
    (omega (arith, c.in-Ok.ensures.capacity, c.in-Ok.ensures.upper_bound))
    (omega (arith, c.in-Ok-push.ensures.capacity, c.in-Ok-push.ensures.upper_bound))
    c.push.ensures.room
    (omega (arith, flags, key, keys))
    (omega (arith, key, keys))
