use Rattle.safe_moves.proofs.NotNeeded.{not_needed-by_heights}
use Rattle.safe_moves.proofs.laws.heights_tell_the_need.Goals as goal

pub returns : goal.returns
returns c = not_needed-by_heights
