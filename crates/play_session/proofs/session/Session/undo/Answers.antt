use Rattle.std.proofs.Common.{◌≤◌, arith}
use Rattle.play_session.proofs.Holding.{held_less, room_kept}
use Rattle.play_session.proofs.session.Session.undo.Goals as goal

pub invariant_of-self-2 : goal.invariant_of-self-2
invariant_of-self-2 c =
    let a = c.pop-2.ensures.capacity in
    let b = c.pop.ensures.capacity in
    let d = c.push_within.ensures.capacity in
    let last = c.push_within.ensures.items in (
      held_less _ _ _ _ _ _ c.in-Some-pop.m c.in-Some.undo _ _ _ _ c.self.invariant.0 c.back.ensures
          c.in-Some-pop.ensures.items c.in-Some.ensures.items last,
      room_kept _ _ _ _ c.in-Some-pop.m _ _ _ _ _ _ c.self.invariant.1 c.in-Some-pop.ensures.items last (omega arith)
          (omega arith) d,
    )

pub returns-clause-stands : goal.returns-clause-stands
returns-clause-stands c = (invariant_of-self-2 c).0.stands
