-- What the nodes of a verdict tell.
use Rattle.std.proofs.Common.{◌≡◌, ◌≢◌, ℕ, ◌≤◌, inl, inr, refl, subst, List, [], ◌∷◌, length, arith}
use Rattle.trails.specs.Many.{HasMoreTrails}
use Rattle.trails.proofs.Many.{more_trails}
use Rattle.game_rules.specs.declared.RuleParts.{RuleParts}
use Rattle.game_rules.specs.declared.Move.{Move}
use Rattle.game_rules.specs.Board.{Board}
use Rattle.game_rules.specs.Winning.{Won}
use Rattle.stock_steps.specs.declared.Step.{Step}
use Rattle.stock_steps.specs.Steps.{after_steps}
use Rattle.line_printer.specs.declared.verdict.Verdict.{Verdict}
use Rattle.line_printer.specs.declared.verdict.Verdict.TheVariants as verdict
use Rattle.search_space.specs.Game.{plain_game}
use Rattle.search_space.specs.Narrow.{narrow_game}
use Rattle.solve_job.specs.declared.limits.Limits.{Limits}
use Rattle.solve_job.specs.Verdicts.{FindsWin, IsVerdict}
use Rattle.solve_job.specs.Nodes.{narrow_nodes_of}
use Rattle.solve_job.proofs.Fixed.{plain_steps, passed_none}

-- the walk of an undecided verdict and the trail that follows it are more trails than its nodes
pub many_trails : (rules : RuleParts) (start : Board) (limits : Limits) (nodes narrow_nodes : ℕ)
    → IsVerdict rules start limits (verdict.Undecided nodes narrow_nodes) → HasMoreTrails (plain_game rules) start nodes
many_trails rules start limits nodes narrow_nodes is =
    let it = is.0 in
    subst (HasMoreTrails (plain_game rules) start) it.searched.count
    (more_trails (plain_game rules) start it.walk it.ends.further (plain_steps rules start) it.searched.is_walk
    it.ends.clean it.ends.follows)

-- without a restricted search no node of one is counted
pub none_asked : (rules : RuleParts) (start : Board) (limits : Limits) (v : Verdict) → limits.narrow ≡ 0
    → IsVerdict rules start limits v → narrow_nodes_of v ≡ 0
none_asked rules start limits (verdict.Winnable line nodes narrow_nodes) none (inl plain) =
    passed_none rules start limits narrow_nodes plain.passed none
none_asked rules start limits (verdict.Winnable line nodes narrow_nodes) none (inr narrow) =
    absurd (narrow.restricted none)
none_asked rules start limits (verdict.Unwinnable nodes narrow_nodes) none is =
    passed_none rules start limits narrow_nodes is.1 none
none_asked rules start limits (verdict.Undecided nodes narrow_nodes) none is =
    passed_none rules start limits narrow_nodes is.1 none

-- a win with a node is one of the plain search
pub won_plainly : (rules : RuleParts) (start : Board) (limits : Limits) (line : List Move) (nodes narrow_nodes : ℕ)
    → IsVerdict rules start limits (verdict.Winnable line nodes narrow_nodes) → 1 ≤ nodes
    → FindsWin (plain_game rules) rules start limits.cache limits.nodes line nodes
won_plainly rules start limits line nodes narrow_nodes (inl plain) some = plain.finds
won_plainly rules start limits line nodes narrow_nodes (inr narrow) some = absurd (omega (arith, narrow.no_node, some))

no_trails : (trails : List (List Step)) → length trails ≡ 0 → trails ≡ []
no_trails [] none = refl
no_trails (trail ∷ trails) none = absurd (omega (arith, none))

-- a plain win without a node is the start
won_at_once : (rules : RuleParts) (start : Board) (cache limit : ℕ) (line : List Move)
    → FindsWin (plain_game rules) rules start cache limit line 0 → Won rules start
won_at_once rules start cache limit line finds =
    let none : finds.trail ≡ [] = finds.follows.first (no_trails finds.walk finds.searched.count) in
    subst (λ (trail : List Step). Won rules (after_steps rules start trail)) none finds.won

-- a win without a node, of a start that is not won, is one of the restricted search
pub won_narrowly : (rules : RuleParts) (start : Board) (limits : Limits) (line : List Move) (narrow_nodes : ℕ)
    → IsVerdict rules start limits (verdict.Winnable line 0 narrow_nodes) → ¬ Won rules start
    → (limits.narrow ≢ 0) × FindsWin (narrow_game rules limits.way) rules start limits.cache limits.narrow line
    narrow_nodes
won_narrowly rules start limits line narrow_nodes (inl plain) not_won =
    absurd (not_won (won_at_once rules start limits.cache limits.nodes line plain.finds))
won_narrowly rules start limits line narrow_nodes (inr narrow) not_won = (narrow.restricted, narrow.finds)
