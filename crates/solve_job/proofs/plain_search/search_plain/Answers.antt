use Rattle.std.proofs.Common.{◌≡◌, ◌≢◌, ◌∙◌, ℕ, List, inl, inr, ap, sym, subst}
use Rattle.dfs_core.specs.declared.trail.Found.TheVariants as found
use Rattle.dfs_core.specs.Answer.{IsAnswer}
use Rattle.game_rules.specs.declared.RuleParts.{RuleParts}
use Rattle.game_rules.specs.Board.{Board}
use Rattle.game_rules.specs.Winning.{Won}
use Rattle.stock_steps.specs.declared.Step.{Step}
use Rattle.stock_steps.specs.Steps.{expand_trail, steps}
use Rattle.stock_steps.specs.Making.{CanAllBeMade}
use Rattle.search_space.specs.Game.{plain_game}
use Rattle.search_space.specs.Narrow.{narrow_game}
use Rattle.search_space.proofs.Agreeing.{agrees, keyed_game}
use Rattle.solve_job.specs.declared.limits.Limits.{Limits}
use Rattle.solve_job.specs.Verdicts.{FindsWin, IsPassed, IsUndecided}
use Rattle.solve_job.proofs.Lines.{trail_made, plain_made}
use Rattle.solve_job.proofs.Answering.{answer_of, never_wins, winnable, won_start, lost_start, unwinnable}
use Rattle.solve_job.proofs.Answering.{undecided, not_small}
use Rattle.solve_job.proofs.plain_search.search_plain.Goals as goal

-- the restricted search would have found a won start
not_won_yet : (rules : RuleParts) (start : Board) (limits : Limits) (nodes : ℕ) → IsPassed rules start limits nodes
    → limits.narrow ≢ 0 → ¬ Won rules start
not_won_yet rules start limits nodes (inl none) restricted = absurd (restricted none.0)
not_won_yet rules start limits nodes (inr some) restricted =
    lost_start (narrow_game rules limits.way) start limits.cache limits.narrow nodes some.1

-- what the search answered where it found a win
won_here : (c : goal.After-items) → IsAnswer (keyed_game c.args.rules.now) c.args.start.now c.args.limits.now.cache 0
    c.in-Ok.searched.nodes c.args.limits.now.nodes (found.Won c.in-Won.trail)
won_here c =
    answer_of c.args.rules.now _ c.args.start.now _ c.args.limits.now.cache c.args.limits.now.nodes
    c.in-Ok.searched.nodes
    (found.Won c.in-Won.trail) _ c.new-space.ensures.rules c.new-space.ensures.stands c.in-Won.is c.in-Ok.ensures.answer

pub line_of-requires-clause-made : goal.line_of-requires-clause-made
line_of-requires-clause-made c =
    subst (λ (trail : List Step). CanAllBeMade c.args.rules.now c.args.start.now trail) (sym c.items.ensures)
    (trail_made c.args.rules.now (steps c.args.rules.now) (Won c.args.rules.now)
    (keyed_game c.args.rules.now).Same c.args.start.now c.in-Won.trail
    (plain_made c.args.rules.now c.parts.ensures.playable) (won_here c).ends.1)

pub returns-in_ok-line_of-in-Won-clause-verdict : goal.returns-in_ok-line_of-in-Won-clause-verdict
returns-in_ok-line_of-in-Won-clause-verdict c =
    let rules : RuleParts = c.args.rules.now in
    let start : Board = c.args.start.now in
    let agree = agrees rules start c.parts.ensures.playable c.requires.belongs in
    let answer = answer_of rules _ start _ c.args.limits.now.cache c.args.limits.now.nodes c.in-Ok.searched.nodes
    (found.Won c.in-Won.trail) _ c.new-space.ensures.rules c.new-space.ensures.stands c.in-Won.is
    c.in-Ok.ensures.answer in
    let wins = winnable rules start c.args.limits.now.cache c.args.limits.now.nodes c.in-Ok.searched.nodes agree
    c.in-Ok.ensures.within
    c.in-Won.trail c.parts.ensures.playable answer in
    let finds = subst (λ line. FindsWin (plain_game rules) rules start c.args.limits.now.cache c.args.limits.now.nodes
    line c.in-Ok.searched.nodes)
    (sym (c.in_ok-line_of-in-Won.ensures ∙ ap (expand_trail rules start) c.items.ensures)) wins in
    inl (record {
      passed = c.requires.passed;
      some_node = λ restricted. won_start rules (plain_game rules) start c.args.limits.now.cache c.args.limits.now.nodes
          _ c.in-Ok.searched.nodes finds
          (not_won_yet rules start c.args.limits.now c.args.narrow_nodes c.requires.passed restricted);
      finds = finds;
    })

pub returns-in-Exhausted-clause-verdict : goal.returns-in-Exhausted-clause-verdict
returns-in-Exhausted-clause-verdict c =
    let agree = agrees c.args.rules.now c.args.start.now c.parts.ensures.playable c.requires.belongs in
    let answer = answer_of c.args.rules.now _ c.args.start.now _ c.args.limits.now.cache c.args.limits.now.nodes
    c.in-Ok.searched.nodes
    found.Exhausted _ c.new-space.ensures.rules c.new-space.ensures.stands c.in-Exhausted.is c.in-Ok.ensures.answer in
    let never = never_wins c.args.rules.now _ c.args.start.now _ c.new-space.ensures.rules c.new-space.ensures.stands
    c.new-space.ensures.complete
    (c.in-Ok.ensures.no_win c.in-Exhausted.is) in (
      unwinnable c.args.rules.now c.args.start.now c.args.limits.now.cache c.args.limits.now.nodes
          c.in-Ok.searched.nodes
          agree c.in-Ok.ensures.within answer never,
      c.requires.passed,
    )

-- the nodes ran out
undecided_here : (c : goal.In-SpentAll) → IsUndecided c.args.rules.now c.args.start.now c.args.limits.now.cache
    c.args.limits.now.nodes c.in-Ok.searched.nodes
undecided_here c =
    let agree = agrees c.args.rules.now c.args.start.now c.parts.ensures.playable c.requires.belongs in
    let answer = answer_of c.args.rules.now _ c.args.start.now _ c.args.limits.now.cache c.args.limits.now.nodes
    c.in-Ok.searched.nodes
    found.SpentAll _ c.new-space.ensures.rules c.new-space.ensures.stands c.in-SpentAll.is c.in-Ok.ensures.answer in
    undecided c.args.rules.now c.args.start.now c.args.limits.now.cache c.args.limits.now.nodes c.in-Ok.searched.nodes
    agree c.in-Ok.ensures.within answer

pub returns-in-SpentAll-clause-verdict : goal.returns-in-SpentAll-clause-verdict
returns-in-SpentAll-clause-verdict c = (undecided_here c, c.requires.passed)

pub returns-in-SpentAll-clause-decides : goal.returns-in-SpentAll-clause-decides
returns-in-SpentAll-clause-decides c = not_small c.args.rules.now c.args.start.now c.args.limits.now.cache
    c.args.limits.now.nodes c.in-Ok.searched.nodes (undecided_here c)
