use Rattle.game_rules.specs.Belonging.{Belongs}
use Rattle.stock_moves.proofs.tests.is_told_along.Given as goal

abbrev pub invariant-loop-turn : goal.invariant-loop-turn
invariant-loop-turn l = Belongs l.rules l.board
