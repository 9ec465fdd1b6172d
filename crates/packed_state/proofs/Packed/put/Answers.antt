use Rattle.packed_state.proofs.Filling.{put_made}
use Rattle.packed_state.proofs.Packed.put.Goals as goal

pub invariant_of-self : goal.invariant_of-self
invariant_of-self c =
    let r = c.requires in
    put_made _ _ c.self.view_is c.self.invariant c.args.place c.args.card r.place r.inside r.single r.room _ _
    c.used-slot.result c.used-slot.ensures.value c.push.ensures c.write_card.ensures
