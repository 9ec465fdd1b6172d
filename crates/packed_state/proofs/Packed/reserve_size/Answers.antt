use Rattle.std.proofs.Common.{refl}
use Rattle.packed_state.proofs.Counts.{made_entry, made_list, made_past}
use Rattle.packed_state.proofs.Packed.reserve_size.Goals as goal

pub returns-then-not-self : goal.returns-then-not-self
returns-then-not-self c = made_entry _ _ c.self.view_is c.keep.ensures c.args.i _ c.if-not-self.true c.count_at.ensures

pub returns-then-i-eq0 : goal.returns-then-i-eq0
returns-then-i-eq0 c = made_list _ _ c.self.view_is c.keep.ensures c.args.i _ c.if-not-self.false c.if-i-eq0.true refl

pub returns-else-i-eq0 : goal.returns-else-i-eq0
returns-else-i-eq0 c = made_past _ _ c.self.view_is c.keep.ensures c.args.i 0 c.if-not-self.false c.if-i-eq0.false
