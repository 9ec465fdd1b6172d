use Rattle.packed_state.proofs.Downward.{made_entry, made_list}
use Rattle.packed_state.proofs.Packed.reserve_cards.Goals as goal

pub returns-then-not-self : goal.returns-then-not-self
returns-then-not-self c =
    made_entry _ _ c.self.view_is c.keep.ensures c.args.i _ c.if-not-self.true c.chain_at.ensures

pub returns-then-i-eq0 : goal.returns-then-i-eq0
returns-then-i-eq0 c =
    made_list _ _ c.self.view_is c.keep.ensures c.args.i _ c.if-not-self.false c.if-i-eq0.true c.last_entries.ensures
