use Rattle.std.proofs.Common.{◌∙◌, sym, ap, subst, [], ◌∷◌, ◌++◌, length-append, arith}
use Rattle.dfs_core.specs.Search.{IsFreshIn}
use Rattle.dfs_core.specs.Standing.{problem_from, IsSearch}
use Rattle.dfs_core.specs.Laid.{Shows, values, steps_of}
use Rattle.dfs_core.proofs.Moves.{clean_none, follows_none, walk_none}
use Rattle.dfs_core.proofs.Keeping.{fresh_none, fresh_one}
use Rattle.dfs_core.proofs.Showing.{shown_started, shown_leads_back, shown_ends, shown_win_ends, before_new, new_trail}
use Rattle.dfs_core.proofs.Showing.{new_trail_fresh}
use Rattle.dfs_core.proofs.Answering.{as_met, before_win, before_end, answered, told, won_not_spent, end_not_spent}
use Rattle.dfs_core.proofs.depth_first.run.Goals as goal

pub returns-then-not-branch-clause-answer : goal.returns-then-not-branch-clause-answer
returns-then-not-branch-clause-answer g c =
    let s = rw c.if-not-branch.true at c.in_ok-expand.ensures.spent in
    let about = problem_from g.S.Space g.S.Key.PartialEq.eq c.args.space.now in
    let capacity = g.M.Memo.capacity c.args.memo.now in
    record {
      walk = [];
      is_walk = walk_none about;
      fresh = fresh_none about capacity;
      count = omega (arith, s.0);
      spent_all = λ e. s.1;
      ends = ([], clean_none about c.requires.not_won, follows_none about, fresh_one about capacity []);
    }

pub boards-init : goal.boards-init
boards-init g c =
    let x = told c.if-not-branch.false c.in_ok-expand.ensures.expanded in
    let s = rw c.if-not-branch.false at c.in_ok-expand.ensures.spent in
    let items = (g.S.Space.play c.args.space.now).steps (g.S.Space.state c.args.space.now) in
    let started = record (values g.M.Memo c.args.space.now c.args.stack.now c.expand.new.memo) {
      stack = record {
        frames = c.args.stack.now.frames.items;
        steps = c.expand.new.steps.items;
        top = c.args.stack.now.top;
      };
    } in
    record {
      walk = [] ∷ [];
      shown = subst (λ sp. Shows (IsSearch g.S.Space g.S.Key.PartialEq.eq) c.args.space.now ([] ∷ [])
          (record started { space = sp })) (sym c.in_ok-expand.ensures.same)
          (shown_started g.S.Space g.S.Key.PartialEq.eq started c.requires.not_won c.requires.no_frames
          (x.appended ∙ ap (λ xs. xs ++ items) c.requires.no_steps) x.differ c.requires.at_begin c.requires.none_tried
          (x.live_is ∙ (ap (λ ks. ks ++ c.key-key.result ∷ []) c.requires.not_live
          ∙ ap (λ k. k ∷ []) c.key-key.ensures)) (x.finished_is ∙ c.requires.not_finished));
      count = sym s.0;
      limit = c.in_ok-expand.ensures.limit;
      capacity = c.in_ok-expand.ensures.capacity;
    }

pub returns-in_err-step-clause-leads : goal.returns-in_err-step-clause-leads
returns-in_err-step-clause-leads g c =
    let i = c.boards.invariant in c.in_err-step.ensures.err c.args.space.now i.walk i.shown

pub returns-in_err-trail-in-Won-clause-leads : goal.returns-in_err-trail-in-Won-clause-leads
returns-in_err-trail-in-Won-clause-leads g c =
    let met = c.in_ok-step.ensures.met c.args.space.now c.boards.invariant.walk c.boards.invariant.shown in
    shown_leads_back (before_win (as_met g.S.Space g.S.Key.PartialEq.eq c.in-Won.is met))

pub returns-in-Won : goal.returns-in-Won
returns-in-Won g c =
    let i = c.boards.invariant in
    let met = c.in_ok-step.ensures.met c.args.space.now i.walk i.shown in
    let w = as_met g.S.Space g.S.Key.PartialEq.eq c.in-Won.is met in
    let trail = c.in_ok-trail-in-Won.ensures ∙ ap (λ fs. steps_of fs ++ c.in-Won.step ∷ []) c.deref.ensures.value in
    record {
      leads = shown_leads_back (before_win w);
      limit = i.limit;
      answer = answered (before_win w) (c.in_ok-step.ensures.capacity ∙ i.capacity) i.count won_not_spent
          (shown_win_ends c.in-Won.step w _ trail);
    }

pub step_on-requires : goal.step_on-requires
step_on-requires g c =
    let i = c.boards.invariant in
    let met = c.in_ok-step.ensures.met c.args.space.now i.walk i.shown in
    record { first = c.args.space.now; walk = i.walk; shown = as_met g.S.Space g.S.Key.PartialEq.eq c.in-New.is met }

pub returns-in_err-step_on-in-New-clause-leads : goal.returns-in_err-step_on-in-New-clause-leads
returns-in_err-step_on-in-New-clause-leads g c =
    let i = c.boards.invariant in
    let met = c.in_ok-step.ensures.met c.args.space.now i.walk i.shown in
    c.step_on.ensures.leads c.args.space.now i.walk (as_met g.S.Space g.S.Key.PartialEq.eq c.in-New.is met)

pub returns-then-not-branch-2 : goal.returns-then-not-branch-2
returns-then-not-branch-2 g c =
    let i = c.boards.invariant in
    let about = problem_from g.S.Space g.S.Key.PartialEq.eq c.args.space.now in
    let met = c.in_ok-step.ensures.met c.args.space.now i.walk i.shown in
    let n = as_met g.S.Space g.S.Key.PartialEq.eq c.in-New.is met in
    let s = rw c.if-not-branch-2.true at c.in_ok-step_on-in-New.ensures.spent in
    let z = steps_of c.advance.new.stack.frames.items ++ c.in-New.met.step ∷ [] in
    let follows = new_trail g.met.S.Key.Eq.laws n in
    let capacity = c.in_ok-step.ensures.capacity ∙ i.capacity in
    let fresh = subst (λ k. IsFreshIn about k (i.walk ++ z ∷ [])) capacity (new_trail_fresh g.met.S.Key.Eq.laws n) in
    record {
      leads = c.step_on.ensures.leads c.args.space.now i.walk n;
      limit = c.in_ok-step_on-in-New.ensures.limit ∙ i.limit;
      answer = answered (before_new n) capacity (i.count ∙ sym s.0) (λ e. s.1) (z, follows.0, follows.1, fresh);
    }

pub boards-preserved : goal.boards-preserved
boards-preserved g c =
    let i = c.boards.invariant in
    let s = rw c.if-not-branch-2.false at c.in_ok-step_on-in-New.ensures.spent in
    let z = steps_of c.advance.new.stack.frames.items ++ c.in-New.met.step ∷ [] in
    let met = c.in_ok-step.ensures.met c.args.space.now i.walk i.shown in
    let expands = told c.if-not-branch-2.false c.in_ok-step_on-in-New.ensures.expands in
    record {
      walk = i.walk ++ z ∷ [];
      shown = expands c.args.space.now i.walk (as_met g.S.Space g.S.Key.PartialEq.eq c.in-New.is met);
      count = omega (arith, i.count, s.0, length-append i.walk (z ∷ []));
      limit = c.in_ok-step_on-in-New.ensures.limit ∙ i.limit;
      capacity = c.in_ok-step_on-in-New.ensures.capacity ∙ (c.in_ok-step.ensures.capacity ∙ i.capacity);
    }

pub returns-in-Exhausted : goal.returns-in-Exhausted
returns-in-Exhausted g c =
    let i = c.boards.invariant in
    let met = c.in_ok-step.ensures.met c.args.space.now i.walk i.shown in
    let o = as_met g.S.Space g.S.Key.PartialEq.eq c.in-Exhausted.is met in
    record {
      leads = shown_leads_back (before_end o);
      limit = i.limit;
      answer = answered (before_end o) (c.in_ok-step.ensures.capacity ∙ i.capacity) i.count end_not_spent
          (shown_ends o);
    }

pub boards-smaller : goal.boards-smaller
boards-smaller g c =
    let s = rw c.if-not-branch-2.false at c.in_ok-step_on-in-New.ensures.spent in
    omega (arith, s.0, s.1, c.in_ok-step_on-in-New.ensures.limit)
