use Rattle.game_rules.specs.Belonging.{Belongs}
use Rattle.pile_symmetry.proofs.played.game_is_right.Given as goal

abbrev pub invariant-loop-round : goal.invariant-loop-round
invariant-loop-round l = Belongs l.rules l.board
