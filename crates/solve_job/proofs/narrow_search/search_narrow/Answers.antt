use Rattle.std.proofs.Common.{◌≢◌, ◌∙◌, List, inr, ap, sym, subst}
use Rattle.dfs_core.specs.declared.trail.Found.TheVariants as found
use Rattle.game_rules.specs.declared.RuleParts.{RuleParts}
use Rattle.game_rules.specs.Board.{Board}
use Rattle.stock_steps.specs.declared.Step.{Step}
use Rattle.stock_steps.specs.Steps.{expand_trail}
use Rattle.stock_steps.specs.Making.{CanAllBeMade}
use Rattle.search_space.specs.Narrow.{narrow_game}
use Rattle.solve_job.specs.declared.limits.Limits.{Limits}
use Rattle.solve_job.specs.Verdicts.{FindsWin}
use Rattle.solve_job.proofs.Narrowing.{narrow_answer_of, narrow_made, narrow_win, narrow_closed, narrow_spent}
use Rattle.solve_job.proofs.narrow_search.search_narrow.Goals as goal

pub line_of-requires-clause-made : goal.line_of-requires-clause-made
line_of-requires-clause-made c =
    let rules : RuleParts = c.args.rules.now in
    let start : Board = c.args.start.now in
    let limits : Limits = c.args.limits.now in
    let answer = narrow_answer_of rules _ limits.way _ start _ limits.cache limits.narrow c.in-Ok.searched.nodes
    (found.Won c.in-Won.trail) _ c.new-space.ensures.rules c.new-space.ensures.way c.new-space.ensures.stands
    c.in-Won.is c.in-Ok.ensures.answer in
    subst (CanAllBeMade rules start) (sym c.items.ensures)
    (narrow_made rules limits.way start c.parts.ensures.playable c.requires.belongs limits.cache limits.narrow
    c.in-Ok.searched.nodes c.in-Won.trail answer)

pub returns-in_ok-line-in-Won : goal.returns-in_ok-line-in-Won
returns-in_ok-line-in-Won c =
    let rules : RuleParts = c.args.rules.now in
    let start : Board = c.args.start.now in
    let limits : Limits = c.args.limits.now in
    let answer = narrow_answer_of rules _ limits.way _ start _ limits.cache limits.narrow c.in-Ok.searched.nodes
    (found.Won c.in-Won.trail) _ c.new-space.ensures.rules c.new-space.ensures.way c.new-space.ensures.stands
    c.in-Won.is c.in-Ok.ensures.answer in
    let win = narrow_win rules limits.way start c.parts.ensures.playable c.requires.belongs limits.cache limits.narrow
    c.in-Ok.searched.nodes
    c.in-Ok.ensures.within c.in-Won.trail answer in (
      c.if-limits-eq0.false,
      subst (λ line.
          FindsWin (narrow_game rules limits.way) rules start limits.cache limits.narrow line c.in-Ok.searched.nodes)
          (sym (c.in_ok-line-in-Won.ensures ∙ ap (expand_trail rules start) c.items.ensures)) win,
    )

pub returns-in-Exhausted : goal.returns-in-Exhausted
returns-in-Exhausted c =
    let rules : RuleParts = c.args.rules.now in
    let start : Board = c.args.start.now in
    let limits : Limits = c.args.limits.now in
    let answer = narrow_answer_of rules _ limits.way _ start _ limits.cache limits.narrow c.in-Ok.searched.nodes
    found.Exhausted _ c.new-space.ensures.rules c.new-space.ensures.way c.new-space.ensures.stands c.in-Exhausted.is
    c.in-Ok.ensures.answer in
    inr (
      c.if-limits-eq0.false,
      narrow_closed rules limits.way start c.parts.ensures.playable c.requires.belongs limits.cache limits.narrow
          c.in-Ok.searched.nodes c.in-Ok.ensures.within answer,
    )

pub returns-in-SpentAll : goal.returns-in-SpentAll
returns-in-SpentAll c =
    let rules : RuleParts = c.args.rules.now in
    let start : Board = c.args.start.now in
    let limits : Limits = c.args.limits.now in
    let answer = narrow_answer_of rules _ limits.way _ start _ limits.cache limits.narrow c.in-Ok.searched.nodes
    found.SpentAll _ c.new-space.ensures.rules c.new-space.ensures.way c.new-space.ensures.stands c.in-SpentAll.is
    c.in-Ok.ensures.answer in
    inr (
      c.if-limits-eq0.false,
      narrow_spent rules limits.way start c.parts.ensures.playable c.requires.belongs limits.cache limits.narrow
          c.in-Ok.searched.nodes c.in-Ok.ensures.within answer,
    )
