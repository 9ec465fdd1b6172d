use Rattle.packed_state.proofs.Depths.{made_single, made_list, made_past, made_none}
use Rattle.packed_state.proofs.Packed.reserve_card.Goals as goal
use Rattle.packed_state.proofs.Packed.reserve_card.Goals.{else-i-eq0-via-then-i-eq0+else-depth-self}
use Rattle.packed_state.proofs.Packed.reserve_card.Goals.{else-i-eq0-via-else-i-eq0}

pub returns-then-not-self : goal.returns-then-not-self
returns-then-not-self c =
    made_single _ _ c.self.view_is c.args.i c.args.depth _ c.if-not-self.true c.entry_card.ensures

pub returns-then-depth-self : goal.returns-then-depth-self
returns-then-depth-self c =
    made_list _ _ c.self.view_is c.args.i c.args.depth _ c.from.result c.if-not-self.false c.if-i-eq0.true
    c.if-depth-self.true c.from.ensures c.top_card.ensures

pub returns-else-i-eq0 : goal.returns-else-i-eq0
returns-else-i-eq0 c = elim c.else-i-eq0.branch [
  | else-i-eq0-via-then-i-eq0+else-depth-self w ↦
      made_past _ _ c.self.view_is c.args.i c.args.depth c.if-not-self.false w.if-depth-self.false
  | else-i-eq0-via-else-i-eq0 w ↦
      made_none _ _ c.self.view_is c.args.i c.args.depth c.if-not-self.false w.if-i-eq0.false
]
