use Rattle.std.proofs.Common.{◌≡◌, ◌-◌, take}
use Rattle.game_rules.specs.Belonging.{copies_of}
use Rattle.pile_symmetry.proofs.filling.less.Given as goal

abbrev pub invariant-loop-other : goal.invariant-loop-other
invariant-loop-other l = l.left ≡ l.due - copies_of l.card (take l.other-index l.cards)
