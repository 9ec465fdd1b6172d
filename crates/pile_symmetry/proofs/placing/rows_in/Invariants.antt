use Rattle.std.proofs.Common.{◌≡◌, ◌*◌, map, drop}
use Rattle.std.specs.List.{range_with_len}
use Rattle.pile_symmetry.specs.Reading.{row_in}
use Rattle.pile_symmetry.proofs.placing.rows_in.Given as goal

abbrev pub invariant-loop-r : goal.invariant-loop-r
invariant-loop-r l = (l.rows ≡ map (row_in l.rules l.bytes) (range_with_len 0 l.r))
    × (l.after ≡ drop (l.r * l.rules.max_rank) l.bytes)
