use Rattle.std.proofs.Common.{◌≡◌, ◌++◌, replicate}
use Rattle.pile_symmetry.proofs.filling.push_copies.Given as goal

abbrev pub invariant-loop-i : goal.invariant-loop-i
invariant-loop-i l = l.cards ≡ l.initial.cards ++ replicate l.i l.card
