use Rattle.packed_state.specs.Packed.{face_at}
use Rattle.packed_state.proofs.Unpacked.{more_listed}
use Rattle.packed_state.proofs.Packed.face_down_of.Goals as goal

pub loop-i-preserved : goal.loop-i-preserved
loop-i-preserved c =
    more_listed (face_at c.args.self.now) c.loop-i.i c.loop-i.out c.push.new.self
    c.face.result c.loop-i.invariant c.in_ok-push.ensures.ok
    (c.face.ensures)
