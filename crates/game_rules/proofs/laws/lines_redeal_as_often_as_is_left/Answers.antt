use Rattle.std.proofs.Common.{arith}
use Rattle.game_rules.proofs.Redealing.{line_redeals}
use Rattle.game_rules.proofs.laws.lines_redeal_as_often_as_is_left.Goals as goal

pub returns-clause-left : goal.returns-clause-left
returns-clause-left c = line_redeals

pub returns-clause-allowed : goal.returns-clause-allowed
returns-clause-allowed c = λ rules board moves end limited belongs line.
    omega (arith, line_redeals rules board moves end limited line, belongs.redeals_left)
