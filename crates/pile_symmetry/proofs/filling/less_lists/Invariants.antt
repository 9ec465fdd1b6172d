use Rattle.std.proofs.Common.{◌≡◌, ◌-◌, take}
use Rattle.pile_symmetry.specs.Reading.{copies_in_lists}
use Rattle.pile_symmetry.proofs.filling.less_lists.Given as goal

abbrev pub invariant-loop-cards : goal.invariant-loop-cards
invariant-loop-cards l = l.left ≡ l.due - copies_in_lists l.card (take l.cards-index l.lists)
