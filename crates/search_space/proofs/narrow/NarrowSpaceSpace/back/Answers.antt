use Rattle.std.proofs.Common.{ap, sym, subst, ◌∙◌}
use Rattle.std.specs.Prelude.{IsSome, ◌↔◌}
use Rattle.game_rules.specs.Winning.{Wins}
use Rattle.search_space.specs.NarrowPlay.{NarrowStanding, before_narrow}
use Rattle.search_space.proofs.NarrowReturning.{narrow_belongs-before, before_narrow-some}
use Rattle.search_space.proofs.narrow.NarrowSpaceSpace.back.Goals as goal

pub invariant_of-self : goal.invariant_of-self
invariant_of-self c =
    let some = subst (λ (s : NarrowStanding). IsSome (before_narrow c.args.undo s)) (sym c.self.view_is) c.requires in (
      c.self.invariant.0,
      narrow_belongs-before c.self.inside.rules.now c.self.inside.way c.args.undo
          c.self.inside.packed c.back_step.new.packed c.self.invariant.0 some c.back_step.ensures,
    )

pub returns-clause-undone : goal.returns-clause-undone
returns-clause-undone c =
    let some = subst (λ (s : NarrowStanding). IsSome (before_narrow c.args.undo s)) (sym c.self.view_is) c.requires in
    let belongs = narrow_belongs-before c.self.inside.rules.now c.self.inside.way c.args.undo c.self.inside.packed
    c.back_step.new.packed
    c.self.invariant.0 some c.back_step.ensures in
    sym (ap (before_narrow c.args.undo) c.self.view_is)
    ∙ before_narrow-some c.self.inside.rules.now c.self.inside.way c.args.undo c.self.inside.packed
    c.back_step.new.packed
    c.self.invariant.0 belongs c.back_step.ensures

pub returns-clause-wins : goal.returns-clause-wins
returns-clause-wins c = λ n board.
    subst (λ (s : NarrowStanding). Wins c.self.inside.rules.now n board ↔ Wins s.rules n board) c.self.view_is
    (λ wins. wins, λ wins. wins)
