use Rattle.play_session.proofs.Running.{run_more, run_stopped, run_all, on_err, begins_on_err}
use Rattle.play_session.proofs.run.run_orders.Goals as goal

pub returns-in_err-run_order-clause-prefix : goal.returns-in_err-run_order-clause-prefix
returns-in_err-run_order-clause-prefix c =
    let e = c.in_err-run_order.ensures in
    let stopped = run_stopped _ _ _ _ c.loop-order.order-index _ _ c.run_order.new.session _ _ c.loop-order-test.true
    c.loop-order.invariant e.begun e.refused e.keeps in
    on_err c.from_residual.result stopped.1

pub loop-order-preserved : goal.loop-order-preserved
loop-order-preserved c =
    let e = c.in_ok-run_order.ensures in
    run_more _ _ _ _ c.loop-order.order-index _ _ _ _ _ c.loop-order-test.true c.loop-order.invariant e.pushed e.moves
    e.keeps

pub returns-clause-begun : goal.returns-clause-begun
returns-clause-begun c =
    begins_on_err c.push_standing.result _ _ _ c.loop-order.invariant.begun c.push_standing.ensures.begun

pub returns-clause-prefix : goal.returns-clause-prefix
returns-clause-prefix c =
    on_err c.push_standing.result (run_all _ _ _ _ _ _ _ c.loop-order-test.false c.loop-order.invariant).2
