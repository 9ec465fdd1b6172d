use Rattle.std.proofs.Common.{ap, sym, subst, ◌∙◌, Contains}
use Rattle.std.specs.Prelude.{Some, ◌↔◌}
use Rattle.game_rules.specs.Winning.{Wins}
use Rattle.stock_steps.specs.Steps.{after_step}
use Rattle.packed_state.specs.Packed.{board_of}
use Rattle.search_space.specs.Narrow.{narrow_steps}
use Rattle.search_space.specs.NarrowPlay.{NarrowStanding}
use Rattle.search_space.proofs.NarrowSteps.{narrow_steps-made}
use Rattle.search_space.proofs.NarrowReturning.{before_narrow-some}
use Rattle.search_space.proofs.narrow.NarrowSpaceSpace.go.Goals as goal

pub go_step-requires-clause-made : goal.go_step-requires-clause-made
go_step-requires-clause-made c =
    narrow_steps-made c.self.inside.rules.now c.self.inside.way
    (board_of c.self.inside.packed) c.args.step c.self.invariant.0
    (subst (λ (s : NarrowStanding). Contains (narrow_steps s.rules s.way (board_of s.packed)) c.args.step)
    (sym c.self.view_is) c.requires)

pub returns-clause-undo : goal.returns-clause-undo
returns-clause-undo c =
    before_narrow-some c.self.inside.rules.now c.self.inside.way c.go_step.result c.go_step.new.packed
    c.self.inside.packed c.self.invariant.0 c.self.invariant.1 c.go_step.ensures.can_go_back
    ∙ ap (λ (s : NarrowStanding). Some s) c.self.view_is

pub returns-clause-wins : goal.returns-clause-wins
returns-clause-wins c = λ n board.
    subst (λ (s : NarrowStanding). Wins c.self.inside.rules.now n board ↔ Wins s.rules n board) c.self.view_is
    (λ wins. wins, λ wins. wins)

pub returns-clause-state : goal.returns-clause-state
returns-clause-state c =
    c.go_step.ensures.moved
    ∙ ap (λ (s : NarrowStanding). after_step s.rules (board_of s.packed) c.args.step) c.self.view_is
