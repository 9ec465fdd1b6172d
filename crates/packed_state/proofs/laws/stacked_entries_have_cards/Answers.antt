use Rattle.packed_state.proofs.Followed.{entries_of}
use Rattle.packed_state.proofs.laws.stacked_entries_have_cards.Goals as goal

pub returns : goal.returns
returns c = λ rules l h belongs alike. entries_of rules l h belongs alike
