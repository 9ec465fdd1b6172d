use Rattle.std.proofs.Common.{◌-◌, sym, subst}
use Rattle.packed_state.specs.CardsLeft.{IsLeft}
use Rattle.packed_state.proofs.Downward.{others_left}
use Rattle.packed_state.proofs.part_cards.CardsIterator.next.Goals as goal

pub invariant_of-self : goal.invariant_of-self
invariant_of-self c =
    let old = c.self.inside in
    subst (λ slot. IsLeft old.packed.now slot (old.left - 1) old.entries) (sym c.slot_under-self-inside.ensures)
    (others_left old.packed.now old.slot old.entries old.left c.if-self-gt0.true c.self.invariant)
