use Rattle.play_session.proofs.Orders.{after_one}
use Rattle.play_session.proofs.Running.{on_err}
use Rattle.play_session.proofs.run.run_order.Goals as goal

pub returns-in_ok-said-in-Make-clause-refused : goal.returns-in_ok-said-in-Make-clause-refused
returns-in_ok-said-in-Make-clause-refused c =
    rw c.in-Make.is (on_err c.push_line.result (after_one _ _ _ _ _ c.in_ok-said-in-Make.ensures.moves))

pub returns-in-Undo-clause-refused : goal.returns-in-Undo-clause-refused
returns-in-Undo-clause-refused c =
    rw (c.in-Undo.is, c.requires.rules) (on_err c.push_line-in-Undo.result (after_one _ _ _ _ _ c.undo.ensures.moves))

pub returns-in-Redo-clause-refused : goal.returns-in-Redo-clause-refused
returns-in-Redo-clause-refused c =
    rw c.in-Redo.is (on_err c.push_line-in-Redo.result (after_one _ _ _ _ _ c.redo.ensures.moves))
