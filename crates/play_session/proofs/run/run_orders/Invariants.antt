use Rattle.play_session.proofs.Running.{RunSoFar}
use Rattle.play_session.proofs.run.run_orders.Given as goal

abbrev pub invariant-loop-order : goal.invariant-loop-order
invariant-loop-order l =
    RunSoFar l.rules l.initial.session l.initial.out.items l.orders l.order-index l.session l.out.items
