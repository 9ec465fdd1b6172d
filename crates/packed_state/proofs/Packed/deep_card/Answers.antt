use Rattle.packed_state.proofs.Depths.{reads_some, reads_none}
use Rattle.packed_state.proofs.Packed.deep_card.Goals as goal

pub returns-then-depth-size : goal.returns-then-depth-size
returns-then-depth-size c =
    reads_some _ _ c.self.view_is c.args.place c.args.depth c.size.result c.slot.result _ c.size.ensures
    c.if-depth-size.true c.slot.ensures.value c.card_of.ensures

pub returns-else-depth-size : goal.returns-else-depth-size
returns-else-depth-size c =
    reads_none _ _ c.self.view_is c.args.place c.args.depth c.size.result c.size.ensures c.if-depth-size.false
