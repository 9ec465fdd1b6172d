use Rattle.packed_state.proofs.Followed.{followed}
use Rattle.packed_state.proofs.laws.slots_follow_a_part.Goals as goal

pub returns : goal.returns
returns c = λ l spot h full. followed l h spot full
