use Rattle.play_session.proofs.Orders.{undone_is}
use Rattle.play_session.proofs.run.undo.Goals as goal

pub returns-in-Ok-clause-moves : goal.returns-in-Ok-clause-moves
returns-in-Ok-clause-moves c = undone_is _ _ _ c.in-Ok.ensures.last c.in-Ok.ensures.next
