use Rattle.std.proofs.Common.{◌≡◌, map}
use Rattle.std.specs.List.{range_with_len}
use Rattle.pile_symmetry.specs.Reading.{height_in}
use Rattle.pile_symmetry.proofs.placing.heights_in.Given as goal

abbrev pub invariant-loop-f : goal.invariant-loop-f
invariant-loop-f l = l.heights ≡ map (height_in l.rules l.bytes) (range_with_len 0 l.f)
