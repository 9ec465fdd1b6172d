use Rattle.std.proofs.Common.{◌≡◌, ◌+◌, ◌*◌, ◌++◌, take, drop, length}
use Rattle.pile_symmetry.proofs.copying.copy_line.Given as goal

abbrev pub invariant-loop-k : goal.invariant-loop-k
invariant-loop-k l =
    (take (l.at + 8 * l.k) l.out ≡ take l.at l.initial.out ++ take (8 * l.k) (drop l.from l.bytes))
    × (length l.out ≡ length l.initial.out)
