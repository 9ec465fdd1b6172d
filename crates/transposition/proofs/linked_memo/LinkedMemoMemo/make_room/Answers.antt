use Rattle.std.proofs.Common.{◌≡◌, ◌+◌, ◌-◌, length, vec_len, vec_capacity, ap, arith, refl}
use Rattle.transposition.specs.Table.{hash32}
use Rattle.transposition.proofs.Tables.{kept, spare_free, spare_new}
use Rattle.transposition.proofs.linked_memo.LinkedMemoMemo.make_room.Goals as goal

pub returns-then-self-len-clause-room : goal.returns-then-self-len-clause-room
returns-then-self-len-clause-room g c =
    let t = c.if-self-len.true in let e = c.len.ensures in
    let o = c.args.self.now.path.ok in spare_free _ _ _ _ _ _ (omega arith)

pub invariant_of-self-in-Break-branch-4 : goal.invariant_of-self-in-Break-branch-4
invariant_of-self-in-Break-branch-4 g c =
    let m = c.args.self.now in
    record {
      table = kept (hash32 g.K.Hash.hash_input m.hasher) m.keys.items c.reserve.new.self.items m.chains.hashes
          c.make_room.new.self.hashes m.order.order m.order.order
          m.order.nodes m.order.nodes m.flags.items c.add_flag.new.flags.items m.path.items c.reserve-2.new.self.items
          m.depth m.capacity m.table
          c.reserve.ensures.items c.make_room.ensures.hashes refl c.reserve-2.ensures.items
          (omega arith) m.table.few c.add_flag.ensures.longer c.add_flag.ensures.same;
      once = rw (c.reserve.ensures.items, c.reserve-2.ensures.items) m.once;
    }

pub invariant_of-self-2 : goal.invariant_of-self-2
invariant_of-self-2 g c =
    let m = c.args.self.now in
    record {
      table = kept (hash32 g.K.Hash.hash_input m.hasher) m.keys.items c.reserve.new.self.items m.chains.hashes
          c.make_room.new.self.hashes m.order.order c.add_node.new.order.order
          m.order.nodes c.add_node.new.order.nodes m.flags.items c.add_flag.new.flags.items m.path.items
          c.reserve-2.new.self.items m.depth m.capacity m.table
          c.reserve.ensures.items c.make_room.ensures.hashes c.add_node.ensures.same c.reserve-2.ensures.items
          c.add_node.ensures.longer (c.add_node.ensures.few m.table.few) c.add_flag.ensures.longer
          c.add_flag.ensures.same;
      once = rw (c.reserve.ensures.items, c.reserve-2.ensures.items, c.add_node.ensures.same) m.once;
    }

pub returns-clause-room : goal.returns-clause-room
returns-clause-room g c =
    let n : length c.reserve.new.self.items + 1 ≡ c.len-last.result + 1 =
    (let a = ap (λ xs. length xs) c.reserve.ensures.items in let b = c.args.self.now.keys.ok.0 in
    let e = c.len-last.ensures in omega arith) in
    let a = c.in_ok-reserve.ensures.ok in
    let b = c.in_ok-reserve-2.ensures.ok in
    let d = c.in_ok-add_flag.ensures.there in
    let e = c.in_ok-add_node.ensures.there in
    spare_new (length c.reserve-2.new.self.items - c.args.self.now.depth)
    (vec_capacity c.reserve.new.self - vec_len c.reserve.new.self)
    (vec_capacity c.reserve-2.new.self - vec_len c.reserve-2.new.self) c.make_room.new.self.room
    (length c.add_flag.new.flags.items - 1 - length c.reserve.new.self.items)
    (c.add_node.new.order.nodes - 1 - length c.reserve.new.self.items)
    (omega arith) (omega arith) c.in_ok-make_room.ensures.room (omega arith) (omega arith)
