use Rattle.std.proofs.Common.{◌∙◌, arith, ap, length, Result, Ok, Err, OnErr}
use Rattle.std.proofs.lemmas.List.{length-take}
use Rattle.dfs_core.specs.Laid.{memory_of, left_of}
use Rattle.dfs_core.proofs.Laying.{left_of-push}
use Rattle.dfs_core.proofs.Showing.{shown_live, shown_over, shown_back, shown_leads_left, shown_left}
use Rattle.dfs_core.proofs.advance.advance.Goals as goal

on_err : {A E : Type 0} (r : Result A E) (P : Type 0) → P → OnErr r P
on_err (Ok x) P p = tt
on_err (Err e) P p = p

pub try_step-requires-clause-searching : goal.try_step-requires-clause-searching
try_step-requires-clause-searching g c =
    let r = c.requires in
    record { first = r.first; walk = r.walk; shown = c.turns.invariant.goes_on r.first r.walk r.shown }

pub returns-in-Some-clause-met : goal.returns-in-Some-clause-met
returns-in-Some-clause-met g c = λ first walk h. c.in-Some.ensures.met first walk
    (c.turns.invariant.goes_on first walk h)

pub turns-preserved-in_default : goal.turns-preserved-in_default
turns-preserved-in_default g c = record {
  capacity = c.in_default.ensures.capacity ∙ c.turns.invariant.capacity;
  goes_on = λ first walk h. c.in_default.ensures.known first walk (c.turns.invariant.goes_on first walk h);
}

pub returns-in_default-pop-clause-met : goal.returns-in_default-pop-clause-met
returns-in_default-pop-clause-met g c = λ first walk h.
    shown_over (c.turns.invariant.goes_on first walk h) c.pop.new.self.items c.in_default-pop.ensures.items
    (omega (arith, c.in_default-pop.ensures.cases, c.pop.new.self.ok.0))
    (omega (arith, c.if-stack-len.false, c.len.ensures))

pub back-requires : goal.back-requires
back-requires g c =
    let r = c.requires in
    shown_back (c.turns.invariant.goes_on r.first r.walk r.shown) c.pop.new.self.items c.in-Some-pop.frame
    c.in-Some-pop.ensures.items

pub leave-requires : goal.leave-requires
leave-requires g c = let r = c.requires in shown_live (c.turns.invariant.goes_on r.first r.walk r.shown)

pub turns-preserved : goal.turns-preserved
turns-preserved g c = record {
  capacity = c.in_ok-leave.ensures.capacity ∙ c.turns.invariant.capacity;
  goes_on = λ first walk h. shown_left (c.turns.invariant.goes_on first walk h) c.pop.new.self.items
      c.in-Some-pop.frame c.in-Some-pop.ensures.items g.met.S.Key.Eq.laws c.back.new.self c.truncate.new.self.items
      (memory_of g.M.Memo c.leave.new.self) c.truncate.ensures.items c.back.ensures.undone
      (omega (arith, c.if-stack-len.false, c.len.ensures)) c.in_ok-leave.ensures.only_finished_go
      c.in_ok-leave.ensures.capacity;
}

pub returns-in_err-leave-clause-err : goal.returns-in_err-leave-clause-err
returns-in_err-leave-clause-err g c = on_err c.from_residual.result _ (λ first walk h.
    shown_leads_left (c.turns.invariant.goes_on first walk h)
    c.pop.new.self.items c.in-Some-pop.frame c.in-Some-pop.ensures.items c.back.new.self c.back.ensures.undone)

pub turns-smaller : goal.turns-smaller
turns-smaller g c =
    let popped = ap (λ fs. left_of fs c.turns.stack.top.begin) c.in-Some-pop.ensures.items in
    let left = left_of-push c.pop.new.self.items c.in-Some-pop.frame c.turns.stack.top.begin in
    let cut = length-take c.turns.stack.top.begin c.turns.stack.steps.items in
    omega (arith, popped, left, ap length c.truncate.ensures.items, cut)
