use Rattle.std.proofs.Common.{◌≡◌, ◌++◌, take}
use Rattle.pile_symmetry.specs.Reading.{lacking_cards}
use Rattle.pile_symmetry.proofs.filling.filled.Given as goal

abbrev pub invariant-loop-card : goal.invariant-loop-card
invariant-loop-card l = l.hole ≡ lacking_cards l.rules l.parts ++ take l.card-index l.parts.hole
