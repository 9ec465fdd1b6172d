use Rattle.packed_state.proofs.Depths.{deep_some, deep_none}
use Rattle.packed_state.proofs.laws.slots_have_the_cards.Goals as goal

pub returns-clause-some : goal.returns-clause-some
returns-clause-some c = deep_some

pub returns-clause-none : goal.returns-clause-none
returns-clause-none c = deep_none
