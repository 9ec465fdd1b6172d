use Rattle.std.proofs.Common.{arith}
use Rattle.packed_state.proofs.Home.{home_room, home_more, home_all}
use Rattle.packed_state.proofs.Packed.put_home.Goals as goal

pub put_home_card-requires-clause-room : goal.put_home_card-requires-clause-room
put_home_card-requires-clause-room c =
    home_room c.args.rules.now c.args.f c.args.height c.loop-k.k c.args.self.now c.loop-k.self c.requires.foundation
    c.requires.room c.loop-k.invariant c.loop-k-test.true

pub loop-k-preserved : goal.loop-k-preserved
loop-k-preserved c =
    home_more c.args.rules.now c.args.f c.args.height c.loop-k.k c.args.self.now c.loop-k.self c.requires.foundation
    c.requires.room c.loop-k.invariant c.put_home_card.new.self c.order_of.result c.takes_complete_runs-runs.result
    c.keep.ensures c.loop-k-test.true c.requires.inside c.takes_complete_runs-runs.ensures c.order_of.ensures
    c.put_home_card.ensures

pub returns : goal.returns
returns c =
    home_all c.args.rules.now c.args.f c.args.height c.loop-k.k c.args.self.now c.loop-k.self (omega arith)
    c.loop-k.invariant
