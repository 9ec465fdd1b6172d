use Rattle.std.proofs.Common.{◌≡◌, map}
use Rattle.pile_symmetry.specs.Reading.{piles_in, after_piles}
use Rattle.pile_symmetry.proofs.placing.piles_in.Given as goal

abbrev pub invariant-loop-i : goal.invariant-loop-i
invariant-loop-i l =
    (l.tableau ≡ map (λ pile. pile.cards) (piles_in l.i l.bytes))
    × (l.downs ≡ map (λ pile. pile.face_down) (piles_in l.i l.bytes))
    × (l.after ≡ after_piles l.i l.bytes)
