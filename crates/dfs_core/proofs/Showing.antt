-- What the values of a call show, before and after it.
use Rattle.std.proofs.Common.{◌≡◌, ◌≢◌, ◌+◌, ◌<◌, ◌≤◌, Bool, true, false, Some, refl, ap, sym, ◌∙◌, subst, List, []}
use Rattle.std.proofs.Common.{◌∷◌, ◌++◌, length, append-nil, Contains, AllPairs, get_or, take, IsSome}
use Rattle.std.specs.Cmp.{IsEquivalence}
use Rattle.trails.specs.Trails.{IsTrail}
use Rattle.trails.specs.Walks.{IsClosed}
use Rattle.trails.proofs.Lists.{empty_of}
use Rattle.trails.proofs.TrailLaws.{end-push, IsTrail-push}
use Rattle.transposition.specs.Memo.{IsAbsent, IsKnownAs, IsLookedAt, LeavesLast}
use Rattle.transposition.specs.declared.memo.Known.{Known}
use Rattle.transposition.specs.declared.memo.Known.TheVariants.{New}
use Rattle.dfs_core.specs.Search.{Problem, Memory, Search, Progress, path_of, IsNext, game, end_at, key_at, after}
use Rattle.dfs_core.specs.Search.{IsCleanIn, FollowsIn, IsFreshIn}
use Rattle.dfs_core.specs.Kept.{IsKept}
use Rattle.dfs_core.specs.Standing.{IsStepped, LeadsTo, IsMade, problem_from, IsSearch, IsNew, IsWin, IsOver}
use Rattle.dfs_core.specs.Standing.{IsExpanded}
use Rattle.dfs_core.specs.Laid.{StackView, Values, steps_of, IsLaid, Descends, Shows, LeadsBack}
use Rattle.dfs_core.specs.declared.space.Space.{Ghosts}
use Rattle.dfs_core.specs.declared.stack.Level.{Level}
use Rattle.dfs_core.specs.declared.stack.Frame.{Frame}
use Rattle.dfs_core.specs.declared.advance.NewState.{NewState}
use Rattle.dfs_core.proofs.Moves.{path_of-push, passed_by, frame_by, descended, started, tried_one, leaving, closed}
use Rattle.dfs_core.proofs.Moves.{what_is_known_is_settled, look_takes_none_in, entered, follows, next_clean, path_is}
use Rattle.dfs_core.proofs.Moves.{differ_on_path, next_place, last_place, last_key}
use Rattle.dfs_core.proofs.Passed.{IsNextAt, DifferOnPath, entered_at}
use Rattle.dfs_core.proofs.Keeping.{kept_started, kept_tried, kept_entered, kept_left, fresh_next}
use Rattle.dfs_core.proofs.Standings.{some_same, states_some, same_play, at_path, leads_push, leads_pop}
use Rattle.dfs_core.proofs.Standings.{leads_back}
use Rattle.dfs_core.proofs.Laying.{laid_path, laid_back, laid_next, laid_room, laid_done, laid_tried, laid_pushed, Pops}
use Rattle.dfs_core.proofs.Laying.{laid_popped, laid_none}

pub memory_same : {Key : Type 0} (old new : Memory Key) → new.live ≡ old.live → new.finished ≡ old.finished
    → new.capacity ≡ old.capacity → new ≡ old
memory_same old new l f c =
    ap (λ ls. record new { live = ls }) l
    ∙ (ap (λ fs. record { live = old.live; finished = fs; capacity = new.capacity }) f
    ∙ ap (λ n. record old { capacity = n }) c)

module _ {S State Step Key Undo : Type 0} (space : Ghosts S Key Step Undo State) (eq : Key → Key → Bool) where
  -- the search begins
  pub shown_started : (now : Values S Step Key Undo) → (space.play now.space).won (space.state now.space) ≡ false
      → now.stack.frames ≡ [] → now.stack.steps ≡ (space.play now.space).steps (space.state now.space)
      → AllPairs (λ a b. a ≢ b) ((space.play now.space).steps (space.state now.space)) → now.stack.top.begin ≡ 0
      → now.stack.top.next ≡ 0 → now.memory.live ≡ (space.play now.space).key (space.state now.space) ∷ []
      → now.memory.finished ≡ [] → Shows (IsSearch space eq) now.space ([] ∷ []) now
  shown_started now w none items differ begin_is next_is live_is finished_is =
      let about = problem_from space eq now.space in
      let differ' = subst (AllPairs (λ a b. a ≢ b)) (sym items) differ in
      record {
        line = record { frames = []; top = record { items = now.stack.steps; tried = 0 } };
        laid = record { frames_is = none; steps_is = refl; begin_is = begin_is; next_is = next_is };
        is = record {
          leads = refl;
          underway = started about now.stack.steps now.memory w items differ' live_is finished_is;
          kept = kept_started about now.memory live_is finished_is;
        };
      }

module _ {S State Step Key Undo : Type 0} {space : Ghosts S Key Step Undo State} {eq : Key → Key → Bool} {first : S}
    {walk : List (List Step)} {now : Values S Step Key Undo} where
  module _ (h : Shows (IsSearch space eq) first walk now) where
    abbrev problem : Problem State Step Key
    problem = problem_from space eq first

    abbrev path : List Step
    path = path_of h.line.frames

    abbrev at : Progress Step
    at = record { walk = walk; path = path; tried = h.line.top.tried }

    abbrev search : Search S Step Key Undo
    search = record { first = first; walk = walk; space = now.space; line = h.line; memory = now.memory }

    play_is : space.play now.space ≡ space.play first
    play_is = same_play space eq h.line.frames first now.space h.is.leads

    state_is : space.state now.space ≡ end_at problem path
    state_is = at_path space eq h.line.frames first now.space h.is.leads

    differ : DifferOnPath problem at
    differ = differ_on_path problem h.is.underway

    next_at : (s : Step) → IsNext h.line.top s → IsNextAt problem at s
    next_at = next_place problem h.is.underway

    pub shown_leads_back : LeadsBack space now.stack.frames now.space first
    shown_leads_back = laid_back h.laid space.before now.space
        ∙ leads_back space eq h.line.frames first now.space h.is.leads

    -- the current state is live
    pub shown_live : now.memory.live ≢ []
    shown_live e = states_some (game problem) problem.play.key problem.start path (sym h.is.underway.live_is ∙ e)

    -- no step is left at the start
    pub shown_over : (fs : List (Frame Step Undo)) → now.stack.frames ≡ fs ++ [] → length fs ≡ 0
        → length now.stack.steps ≤ now.stack.top.next
        → Shows (IsOver space eq) first walk (record now { stack = record now.stack { frames = fs } })
    shown_over fs e none le =
        let same : now.stack.frames ≡ fs = e ∙ append-nil fs in
        let start = laid_none h.laid (same ∙ empty_of fs none) in
        let over : IsOver space eq search =
        record { before = h.is; at_start = start; all_tried = laid_done h.laid le } in
        subst (λ gs. Shows (IsOver space eq) first walk (record now { stack = record now.stack { frames = gs } })) same
        (record { line = h.line; laid = h.laid; is = over })

    -- what is known of the next state, if the next step was made
    module _ {new : NewState Step Undo Key} {next : S} (made : IsMade space search new next) where
      new_play : space.play next ≡ space.play first
      new_play = made.stepped.same_play ∙ play_is

      new_state : space.state next ≡ after problem path new.step
      new_state = made.stepped.state_is ∙ (ap (λ p. p.after (space.state now.space) new.step) play_is
          ∙ ap (λ t. problem.play.after t new.step) state_is)

      new_won : problem.play.won (after problem path new.step) ≡ false
      new_won = ap problem.play.won (sym new_state) ∙ (ap (λ p. p.won (space.state next)) (sym new_play) ∙ made.not_won)

      new_key : new.key ≡ problem.play.key (after problem path new.step)
      new_key = made.key_is ∙ (ap (λ p. p.key (space.state next)) new_play ∙ ap problem.play.key new_state)

      new_end : new.key ≡ key_at problem (path ++ new.step ∷ [])
      new_end = new_key ∙ ap problem.play.key (sym (end-push (game problem) problem.start path new.step))

    -- the next step
    module _ (step : Step) (room : now.stack.top.next < length now.stack.steps)
        (here : get_or now.stack.steps now.stack.top.next step ≡ step) where
      is_next : IsNext h.line.top step
      is_next = laid_next h.laid step room here

      pub shown_step : Contains ((space.play now.space).steps (space.state now.space)) step
      shown_step =
          let items = h.is.underway.at_top.steps ∙ (ap (λ s. (space.play first).steps s) (sym state_is)
          ∙ ap (λ p. p.steps (space.state now.space)) (sym play_is)) in
          subst (λ xs. Contains xs step) items (h.line.top.tried, is_next.room, is_next.here)

      module _ (undo : Undo) (next : S) (stepped : IsStepped space step undo now.space next) where
        -- it led to a won state, and was taken back
        pub shown_win : (space' : S) → space.before undo next ≡ Some space'
            → (space.play next).won (space.state next) ≡ true
            → Shows (IsWin space eq step) first walk (record now { space = space' })
        shown_win space' back w =
            let wins = ap (space.play now.space).won (sym stepped.state_is)
            ∙ (ap (λ p. p.won (space.state next)) (sym stepped.same_play) ∙ w) in
            subst (λ sp. Shows (IsWin space eq step) first walk (record now { space = sp }))
            (some_same (sym stepped.undone ∙ back))
            (record { line = h.line; laid = h.laid; is = record { before = h.is; is_next = is_next; wins = wins } })

        -- it led to a state that is not won, and this is its key
        module _ (not_won : (space.play next).won (space.state next) ≡ false) (key : Key)
            (key_is : key ≡ (space.play next).key (space.state next)) where
          abbrev new : NewState Step Undo Key
          new = record { step = step; undo = undo; key = key }

          made : IsMade space search new next
          made = record { is_next = is_next; stepped = stepped; not_won = not_won; key_is = key_is }

          -- the key is new
          pub shown_new : (memory' : Memory Key) → IsAbsent eq key now.memory.live
              → IsAbsent eq key now.memory.finished → memory' ≡ now.memory
              → Shows (IsNew space eq new) first walk (record now { space = next; memory = memory' })
          shown_new memory' not_live not_finished memory_is =
              let at = now.space in
              let is : IsNew space eq new (record search { space = next }) =
              record { from = at; before = h.is; made = made; not_live = not_live; not_finished = not_finished } in
              subst (λ m. Shows (IsNew space eq new) first walk (record now { space = next; memory = m }))
              (sym memory_is) (record { line = h.line; laid = h.laid; is = is })

          -- the key is known, and the step was taken back
          pub shown_passes : IsEquivalence eq → (space' : S) (top : Level) (known : Known) (memory' : Memory Key)
              → space.before undo next ≡ Some space' → top.begin ≡ now.stack.top.begin
              → top.next ≡ now.stack.top.next + 1 → IsKnownAs eq now.memory.live now.memory.finished key known
              → known ≢ New → memory'.live ≡ now.memory.live
              → IsLookedAt eq key now.memory.finished memory'.finished known → memory'.capacity ≡ now.memory.capacity
              → Shows (IsSearch space eq) first walk
              (record { space = space'; stack = record now.stack { top = top }; memory = memory' })
          shown_passes laws space' top known memory' back begin_is next_is known_is other live' looked capacity' =
              let u = h.is.underway in
              let known_is' = subst (λ k. IsKnownAs eq now.memory.live now.memory.finished k known) (new_key made)
              known_is in
              let settled = what_is_known_is_settled problem walk (after problem path step) now.memory known
              u.live_known u.finished_known known_is' other (new_won made) in
              let looked' = subst (λ k. IsLookedAt eq k now.memory.finished memory'.finished known) (new_key made)
              looked in
              let taken = look_takes_none_in problem walk key now.memory.finished memory'.finished known
              u.finished_known looked in
              subst (λ sp. Shows (IsSearch space eq) first walk
              (record { space = sp; stack = record now.stack { top = top }; memory = memory' }))
              (some_same (sym stepped.undone ∙ back))
              (record {
                line = passed_by h.line;
                laid = laid_tried h.laid top begin_is next_is;
                is = record {
                  leads = h.is.leads;
                  underway = tried_one problem u step memory' is_next settled live' taken;
                  kept = kept_tried problem laws h.is.kept u.live_is differ step (next_at step is_next) known
                      memory' live' looked' capacity';
                };
              })

    -- the last frame is left
    module _ (fs : List (Frame Step Undo)) (f : Frame Step Undo) (e : now.stack.frames ≡ fs ++ f ∷ []) where
      abbrev pops : Pops h.laid fs f
      pops = laid_popped h.laid fs f e

      popped : (mid : S) × LeadsTo space first pops.below mid × IsStepped space pops.frame.step f.undo mid now.space
      popped =
          let p = leads_pop space eq pops.below pops.frame first now.space
          (subst (λ fs. LeadsTo space first fs now.space) pops.frames_is h.is.leads) in
          (p.0, p.1, subst (λ u. IsStepped space pops.frame.step u p.0 now.space) (sym pops.undo_is) p.2)

      leads_left : (space' : S) → space.before f.undo now.space ≡ Some space' → LeadsTo space first pops.below space'
      leads_left space' back = subst (LeadsTo space first pops.below) (some_same (sym popped.2.undone ∙ back)) popped.1

      pub shown_back : IsSome (space.before f.undo now.space)
      shown_back = subst (λ o. IsSome o) (sym popped.2.undone) refl

      pub shown_leads_left : (space' : S) → space.before f.undo now.space ≡ Some space'
          → LeadsBack space fs space' first
      shown_leads_left space' back = laid_back pops.laid_below space.before space'
          ∙ leads_back space eq pops.below first space' (leads_left space' back)

      pub shown_left : IsEquivalence eq → (space' : S) (steps' : List Step) (memory' : Memory Key)
          → steps' ≡ take now.stack.top.begin now.stack.steps → space.before f.undo now.space ≡ Some space'
          → length now.stack.steps ≤ now.stack.top.next
          → LeavesLast now.memory.capacity now.memory.live now.memory.finished memory'.live memory'.finished
          → memory'.capacity ≡ now.memory.capacity → Shows (IsSearch space eq) first walk (record {
            space = space';
            stack = record { frames = fs; steps = steps'; top = f.level };
            memory = memory';
          })
      shown_left laws space' steps' memory' cut back le leaves capacity' =
          let u = h.is.underway in
          let level = pops.frame.level in
          let below : Progress Step = record { walk = walk; path = path_of pops.below; tried = level.tried } in
          record {
            line = record { frames = pops.below; top = level };
            laid = subst (λ xs. IsLaid (record { frames = fs; steps = xs; top = f.level })
                (record { frames = pops.below; top = level })) (sym cut) pops.laid_below;
            is = record {
              leads = leads_left space' back;
              underway = leaving problem u pops.below pops.frame pops.frames_is memory' (laid_done h.laid le) leaves;
              kept = kept_left problem laws h.is.kept u.live_is differ below pops.frame.step refl
                  (path_is problem u pops.below pops.frame pops.frames_is)
                  (last_place problem u pops.below pops.frame pops.frames_is) memory' leaves
                  (last_key problem u pops.below pops.frame pops.frames_is memory'.live leaves.key leaves.live_is)
                  capacity';
            };
          }

  -- every step was tried
  pub shown_ends : Shows (IsOver space eq) first walk now
      → IsClosed (game (problem_from space eq first)) (space.state first) walk
  shown_ends h = closed (problem_from space eq first) h.is.before.underway h.is.at_start h.is.all_tried

  -- the won trail
  pub shown_win_ends : (step : Step) → Shows (IsWin space eq step) first walk now → (z : List Step)
      → z ≡ steps_of now.stack.frames ++ step ∷ [] → FollowsIn (problem_from space eq first) walk z
      × IsTrail (game (problem_from space eq first)) (space.state first) z
      × ((space.play first).won (end_at (problem_from space eq first) z) ≡ true)
  shown_win_ends step h z z_is =
      let b : Shows (IsSearch space eq) first walk now = record { line = h.line; laid = h.laid; is = h.is.before } in
      let about = problem_from space eq first in
      let path = path_of h.line.frames in
      let u = h.is.before.underway in
      let w : about.play.won (after about path step) ≡ true =
      ap (λ t. about.play.won (about.play.after t step)) (sym (state_is b))
      ∙ (ap (λ q. q.won (q.after (space.state now.space) step)) (sym (play_is b)) ∙ h.is.wins) in
      let n = h.is.is_next in
      let a_step = subst (λ xs. Contains xs step) u.at_top.steps (h.line.top.tried, n.room, n.here) in
      subst (λ l. FollowsIn about walk l × IsTrail (game about) about.start l
      × (about.play.won (end_at about l) ≡ true)) (sym (z_is ∙ ap (λ l. l ++ step ∷ []) (laid_path h.laid))) (
        follows about u step n,
        IsTrail-push (game about) about.start path step u.at_top.clean.steps a_step,
        ap about.play.won (end-push (game about) about.start path step) ∙ w,
      )

module _ {S State Step Key Undo : Type 0} {space : Ghosts S Key Step Undo State} {eq : Key → Key → Bool} {first : S}
    {walk : List (List Step)} {now : Values S Step Key Undo} where
  -- the search that met a new state
  abbrev pub before_new : {new : NewState Step Undo Key} → (h : Shows (IsNew space eq new) first walk now)
      → Shows (IsSearch space eq) first walk (record now { space = h.is.from })
  before_new h = record { line = h.line; laid = h.laid; is = h.is.before }

  module _ (laws : IsEquivalence eq) {new : NewState Step Undo Key}
      (h : Shows (IsNew space eq new) first walk now) where
    abbrev about : Problem State Step Key
    about = problem_from space eq first

    abbrev b : Shows (IsSearch space eq) first walk (record now { space = h.is.from })
    b = before_new h

    abbrev z : List Step
    z = path_of h.line.frames ++ new.step ∷ []

    z_is : steps_of now.stack.frames ++ new.step ∷ [] ≡ z
    z_is = ap (λ l. l ++ new.step ∷ []) (laid_path h.laid)

    key_absent : IsAbsent eq (about.play.key (after about (path_of h.line.frames) new.step)) now.memory.live
    key_absent = subst (λ k. IsAbsent eq k now.memory.live) (new_key b h.is.made) h.is.not_live

    end_not_live : IsAbsent eq (key_at about z) now.memory.live
    end_not_live = subst (λ k. IsAbsent eq k now.memory.live) (new_end b h.is.made) h.is.not_live

    end_not_finished : IsAbsent eq (key_at about z) now.memory.finished
    end_not_finished = subst (λ k. IsAbsent eq k now.memory.finished) (new_end b h.is.made) h.is.not_finished

    -- the next trail is clean and follows the walk
    pub new_trail : IsCleanIn about (steps_of now.stack.frames ++ new.step ∷ [])
        × FollowsIn about walk (steps_of now.stack.frames ++ new.step ∷ [])
    new_trail = let u = h.is.before.underway in
        let clean = next_clean about u laws new.step h.is.made.is_next (new_won b h.is.made) key_absent in
        subst (λ l. IsCleanIn about l × FollowsIn about walk l) (sym z_is)
        (clean, follows about u new.step h.is.made.is_next)

    -- the walk with the next trail is fresh
    pub new_trail_fresh : IsFreshIn about now.memory.capacity
        (walk ++ (steps_of now.stack.frames ++ new.step ∷ []) ∷ [])
    new_trail_fresh = subst (λ l. IsFreshIn about now.memory.capacity (walk ++ l ∷ [])) (sym z_is)
        (fresh_next about laws h.is.before.kept h.is.before.underway.live_is (differ b) new.step
        (next_at b new.step h.is.made.is_next) end_not_live end_not_finished)

    -- a step is left, and its undo leads back
    pub new_room : now.stack.top.next < length now.stack.steps
    new_room = laid_room h.laid h.is.made.is_next.room

    pub new_undo : IsSome (space.before new.undo now.space)
    new_undo = subst (λ o. IsSome o) (sym h.is.made.stepped.undone) refl

    -- the step is taken back
    pub new_refused : (space' : S) → space.before new.undo now.space ≡ Some space'
        → LeadsBack space now.stack.frames space' first
    new_refused space' back = subst (λ sp. LeadsBack space now.stack.frames sp first)
        (some_same (sym h.is.made.stepped.undone ∙ back)) (shown_leads_back b)

    -- a frame was pushed
    module _ {stack' : StackView Step Undo} (d : Descends now.stack new.step new.undo stack') where
      new_leads : LeadsTo space first (h.line.frames ++ frame_by h.line.top new.step new.undo ∷ []) now.space
      new_leads = leads_push space eq h.line.frames (frame_by h.line.top new.step new.undo) first h.is.from now.space
          h.is.before.leads h.is.made.stepped

      pub new_leads_back : LeadsBack space stack'.frames now.space first
      new_leads_back = laid_back (laid_pushed h.laid [] stack'.steps d (sym (append-nil stack'.steps)))
          space.before now.space
          ∙ leads_back space eq (h.line.frames ++ frame_by h.line.top new.step new.undo ∷ []) first now.space new_leads

      -- and the state is expanded
      pub shown_expanded : (steps' : List Step) (memory' : Memory Key)
          → IsExpanded ((space.play now.space).steps (space.state now.space)) new.key stack'.steps now.memory
          steps' memory' → memory'.capacity ≡ now.memory.capacity
          → Shows (IsSearch space eq) first (walk ++ (steps_of now.stack.frames ++ new.step ∷ []) ∷ [])
          (record { space = now.space; stack = record stack' { steps = steps' }; memory = memory' })
      shown_expanded steps' memory' x capacity' =
          let items = (space.play now.space).steps (space.state now.space) in
          let items_is = ap (λ p. p.steps (space.state now.space)) (new_play b h.is.made)
          ∙ ap about.play.steps (new_state b h.is.made) in
          let u = h.is.before.underway in
          let underway = entered about u laws new.step h.is.made.is_next (new_won b h.is.made) key_absent new.undo items
          memory' items_is x.differ (x.live_is ∙ ap (λ k. now.memory.live ++ k ∷ []) (new_key b h.is.made))
          x.finished_is in
          let kept = subst (λ q. IsKept about (record (entered_at (at b) new.step) { path = q }) memory')
          (sym (path_of-push h.line.frames (frame_by h.line.top new.step new.undo)))
          (kept_entered about laws h.is.before.kept u.live_is (differ b) new.step (next_at b new.step h.is.made.is_next)
          memory' end_not_live end_not_finished
          (x.live_is ∙ ap (λ k. now.memory.live ++ k ∷ []) (new_end b h.is.made)) x.finished_is capacity') in
          let line = descended h.line new.step new.undo items in
          record {
            line = line;
            laid = laid_pushed h.laid items steps' d x.appended;
            is = subst (λ l. IsSearch space eq
                (record { first = first; walk = walk ++ l ∷ []; space = now.space; line = line; memory = memory' }))
                (sym z_is) (record { leads = new_leads; underway = underway; kept = kept });
          }
