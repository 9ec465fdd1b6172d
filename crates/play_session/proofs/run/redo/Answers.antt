use Rattle.play_session.proofs.Orders.{redone_is}
use Rattle.play_session.proofs.run.redo.Goals as goal

pub returns-in-Ok-clause-moves : goal.returns-in-Ok-clause-moves
returns-in-Ok-clause-moves c = redone_is _ _ _ c.in-Ok.ensures.next c.in-Ok.ensures.last
