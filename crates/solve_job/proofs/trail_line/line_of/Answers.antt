use Rattle.std.proofs.Common.{◌≡◌, ℕ, ◌+◌, List, ◌∷◌, drop, get_or, ap, sym, ◌∙◌, subst}
use Rattle.game_rules.specs.declared.RuleParts.{RuleParts}
use Rattle.game_rules.specs.declared.Move.TheVariants.{Carry}
use Rattle.game_rules.specs.declared.Place.TheVariants.{Tableau}
use Rattle.game_rules.specs.Board.{Board}
use Rattle.game_rules.specs.Play.{Legal, after}
use Rattle.packed_state.specs.Packed.{board_of}
use Rattle.stock_steps.specs.declared.Step.{Step}
use Rattle.stock_steps.specs.Steps.{after_step, expand_trail}
use Rattle.stock_steps.specs.Making.{CanAllBeMade}
use Rattle.solve_job.proofs.Lines.{drop-step, moves-more}
use Rattle.solve_job.proofs.trail_line.line_of.Goals as goal

-- a step to name what lies past the end of a trail
abbrev blank : Step
blank = record { deals = 0; last = Carry (Tableau 0) (Tableau 0) 0 }

pub go-requires-clause-legal : goal.go-requires-clause-legal
go-requires-clause-legal c =
    let made = subst (λ (ts : List Step). CanAllBeMade c.args.rules.now (board_of c.loop-step.packed) ts)
    (drop-step c.args.trail.now c.loop-step.step-index blank c.loop-step-test.true) c.loop-step.invariant.1 in
    subst (λ (b : Board). Legal c.args.rules.now b (get_or c.args.trail.now c.loop-step.step-index blank).last)
    (sym c.run_stock.ensures.moved) made.0.last

pub loop-step-preserved : goal.loop-step-preserved
loop-step-preserved c =
    let rules : RuleParts = c.args.rules.now in
    let trail : List Step = c.args.trail.now in
    let i : ℕ = c.loop-step.step-index in
    let step : Step = get_or trail i blank in
    let rest : List Step = drop (i + 1) trail in
    let here : Board = board_of c.loop-step.packed in
    let split : drop i trail ≡ step ∷ rest = drop-step trail i blank c.loop-step-test.true in
    let made : CanAllBeMade rules here (step ∷ rest) = subst (λ (ts : List Step). CanAllBeMade rules here ts) split
    c.loop-step.invariant.1 in
    let there : board_of c.go.new.self ≡ after_step rules here step =
    c.go.ensures.moved ∙ ap (λ (b : Board). after rules b step.last) c.run_stock.ensures.moved in (
      c.go.ensures.belongs,
      subst (λ (b : Board). CanAllBeMade rules b rest) (sym there) made.1,
      moves-more rules here (board_of c.go.new.self) step rest
          (drop i trail) c.loop-step.moves.items c.expand.new.out.items
          (expand_trail rules c.args.start.now trail) split there c.in_ok-expand.ensures.expanded
          c.loop-step.invariant.2,
    )
