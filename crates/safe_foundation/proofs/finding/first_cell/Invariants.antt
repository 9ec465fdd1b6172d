use Rattle.std.proofs.Common.{◌≡◌, ℕ, ◌<◌, false}
use Rattle.game_rules.specs.declared.Place.TheVariants.{Cell}
use Rattle.safe_foundation.specs.Giving.{gives}
use Rattle.safe_foundation.proofs.finding.first_cell.Given as goal

abbrev pub invariant-loop-i : goal.invariant-loop-i
invariant-loop-i g l = (k : ℕ) → k < l.i → gives l.rules (g.T.Table.board l.table) l.card (Cell k) ≡ false
