use Rattle.std.proofs.Common.{◌∙◌, sym, subst, [], ◌∷◌, ◌++◌, Bool, true, false}
use Rattle.std.specs.Bool.{OnTrue}
use Rattle.std.proofs.lemmas.Result.{IfOk-weaker}
use Rattle.dfs_core.specs.Standing.{IsExpanded, IsSearch}
use Rattle.dfs_core.specs.Laid.{Shows, stack_view, memory_of, values, steps_of}
use Rattle.dfs_core.proofs.Showing.{new_room, new_undo, new_refused, new_leads_back, shown_expanded}
use Rattle.dfs_core.proofs.expand.step_on.Goals as goal

on_true : {A B : Type 0} (b : Bool) → (A → B) → OnTrue b A → OnTrue b B
on_true true f h = f h
on_true false f h = h

pub descend-requires-clause-room : goal.descend-requires-clause-room
descend-requires-clause-room g c = new_room g.met.S.Key.Eq.laws c.requires.shown

pub descend-requires-clause-back : goal.descend-requires-clause-back
descend-requires-clause-back g c = new_undo g.met.S.Key.Eq.laws c.requires.shown

pub returns-in_err-descend-clause-leads : goal.returns-in_err-descend-clause-leads
returns-in_err-descend-clause-leads g c = λ first walk h.
    let e = c.in_err-descend.ensures in
    rw e.err_frames (new_refused g.met.S.Key.Eq.laws h c.descend.new.space e.err)

pub returns-clause-leads : goal.returns-clause-leads
returns-clause-leads g c = λ first walk h.
    rw (c.expand.ensures.same ∙ c.in_ok-descend.ensures.ok_space)
    (new_leads_back g.met.S.Key.Eq.laws h c.in_ok-descend.ensures.ok)

pub returns-clause-expands : goal.returns-clause-expands
returns-clause-expands g c =
    let old = values g.M.Memo c.args.space.now c.args.stack.now c.args.memo.now in
    let descended = stack_view c.descend.new.stack in
    let memory = memory_of g.M.Memo c.expand.new.memo in
    IfOk-weaker c.expand.result _ _ (λ b. on_true b (λ e first walk h.
    let x = subst (λ sp. IsExpanded ((g.S.Space.play sp).steps (g.S.Space.state sp)) c.args.met.key descended.steps
    old.memory c.expand.new.steps.items memory) c.in_ok-descend.ensures.ok_space e in
    subst (λ sp. Shows (IsSearch g.S.Space g.S.Key.PartialEq.eq) first
    (walk ++ (steps_of old.stack.frames ++ c.args.met.step ∷ []) ∷ [])
    (record { space = sp; stack = record descended { steps = c.expand.new.steps.items }; memory = memory }))
    (sym (c.expand.ensures.same ∙ c.in_ok-descend.ensures.ok_space))
    (shown_expanded g.met.S.Key.Eq.laws h c.in_ok-descend.ensures.ok c.expand.new.steps.items memory x
    c.expand.ensures.capacity))) c.expand.ensures.expanded
