use Rattle.packed_state.proofs.laws.slots_are_apart.Goals as goal

pub returns : goal.returns
returns c = λ l p q j k h lp lq lj lk e. h.chained.apart p q j k lp lq lj lk e
