use Rattle.play_session.proofs.Steps.{read_more, read_bad}
use Rattle.play_session.proofs.read.orders_of.Goals as goal

pub returns-in_default-order_of : goal.returns-in_default-order_of
returns-in_default-order_of c =
    read_bad _ _ _ _ c.in-Some.part.now c.in-Some.after.now c.loop-part.invariant c.in-Some.ensures.parts
    c.in_default-order_of.ensures

pub loop-part-preserved : goal.loop-part-preserved
loop-part-preserved c =
    rw c.in_ok-push.ensures.items
    (read_more _ _ _ _ c.in-Some.part.now c.in-Some.after.now _ c.loop-part.invariant c.in-Some.ensures.parts
    c.in-Some.ensures.shorter c.in-Some-order_of.ensures)
