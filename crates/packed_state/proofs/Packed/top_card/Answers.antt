use Rattle.packed_state.proofs.Tops.{top_inside, top_none, top_some}
use Rattle.packed_state.proofs.Packed.top_card.Goals as goal

pub card_of-requires : goal.card_of-requires
card_of-requires c =
    top_inside _ _ c.self.view_is c.self.invariant c.args.place c.requires c.top-slot.result c.top-slot.ensures
    c.if-slot.false

pub returns-then-slot : goal.returns-then-slot
returns-then-slot c =
    top_none _ _ c.self.view_is c.self.invariant c.args.place c.requires c.top-slot.result c.top-slot.ensures
    c.if-slot.true

pub returns-else-slot : goal.returns-else-slot
returns-else-slot c =
    top_some _ _ c.self.view_is c.self.invariant c.args.place c.requires c.top-slot.result _ c.top-slot.ensures
    c.if-slot.false c.card_of.ensures
