use Rattle.std.proofs.Common.{ap, sym, subst, ◌∙◌, Contains}
use Rattle.std.specs.Prelude.{Some, ◌↔◌}
use Rattle.game_rules.specs.Winning.{Wins}
use Rattle.stock_steps.specs.Steps.{after_step, steps}
use Rattle.stock_steps.proofs.StepLines.{playable_draw, steps-made}
use Rattle.packed_state.specs.Packed.{board_of}
use Rattle.search_space.specs.Plain.{Standing}
use Rattle.search_space.proofs.Returning.{before_of-some}
use Rattle.search_space.proofs.space.PlainSpaceSpace.go.Goals as goal

pub go_step-requires-clause-made : goal.go_step-requires-clause-made
go_step-requires-clause-made c =
    steps-made c.self.inside.rules.now (board_of c.self.inside.packed) c.args.step
    (playable_draw c.self.inside.rules.now c.self.invariant.0)
    (subst (λ (s : Standing). Contains (steps s.rules (board_of s.packed)) c.args.step) (sym c.self.view_is) c.requires)

pub returns-clause-undo : goal.returns-clause-undo
returns-clause-undo c =
    before_of-some c.self.inside.rules.now c.go_step.result c.go_step.new.packed c.self.inside.packed c.self.invariant.0
    c.self.invariant.1 c.go_step.ensures.can_go_back
    ∙ ap (λ (s : Standing). Some s) c.self.view_is

pub returns-clause-wins : goal.returns-clause-wins
returns-clause-wins c = λ n board.
    subst (λ (s : Standing). Wins c.self.inside.rules.now n board ↔ Wins s.rules n board) c.self.view_is
    (λ wins. wins, λ wins. wins)

pub returns-clause-state : goal.returns-clause-state
returns-clause-state c =
    c.go_step.ensures.moved
    ∙ ap (λ (s : Standing). after_step s.rules (board_of s.packed) c.args.step) c.self.view_is
