use Rattle.same_boards.proofs.SameLaws.{SameColours-refl, SameColours-sym, SameColours-trans}
use Rattle.same_boards.proofs.laws.same_colours_are_an_equivalence.Goals as goal

pub returns : goal.returns
returns c = record { itself = SameColours-refl; back = SameColours-sym; onward = SameColours-trans }
