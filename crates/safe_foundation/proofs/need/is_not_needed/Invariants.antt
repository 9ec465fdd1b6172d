use Rattle.std.proofs.Common.{◌≡◌, ℕ, ◌<◌, true}
use Rattle.safe_moves.specs.Need.{is_no_bar}
use Rattle.safe_foundation.proofs.need.is_not_needed.Given as goal

abbrev pub invariant-loop-suit : goal.invariant-loop-suit
invariant-loop-suit g l = (suit : ℕ) → suit < l.suit
    → is_no_bar l.rules (g.T.Table.board l.table) l.card l.place suit ≡ true
