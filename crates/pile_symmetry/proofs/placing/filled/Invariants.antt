use Rattle.std.proofs.Common.{◌≡◌, ◌++◌, map, replicate}
use Rattle.std.specs.Prelude.{None}
use Rattle.pile_symmetry.specs.Reading.{card_entry}
use Rattle.pile_symmetry.proofs.placing.filled.Given as goal

abbrev pub invariant-loop-gap : goal.invariant-loop-gap
invariant-loop-gap l = l.entries ≡ map card_entry l.bytes ++ replicate l.gap None
