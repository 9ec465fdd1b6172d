use Rattle.game_rules.specs.Belonging.{Belongs}
use Rattle.stock_moves.proofs.tests.slow_steps.Given as goal

abbrev pub invariant-loop-deals : goal.invariant-loop-deals
invariant-loop-deals l = Belongs l.rules l.board
