use Rattle.std.proofs.Common.{◌≡◌, ◌-◌, take}
use Rattle.game_rules.specs.Belonging.{copies_in}
use Rattle.pile_symmetry.proofs.filling.less_entries.Given as goal

abbrev pub invariant-loop-entry : goal.invariant-loop-entry
invariant-loop-entry l = l.left ≡ l.due - copies_in l.card (take l.entry-index l.entries)
