use Rattle.safe_moves.proofs.FirstSafe.{first_safe-found, first_safe-none}
use Rattle.safe_moves.proofs.laws.first_safe_move_is_fixed.Goals as goal

pub returns : goal.returns
returns c = record { found = first_safe-found; none = first_safe-none }
