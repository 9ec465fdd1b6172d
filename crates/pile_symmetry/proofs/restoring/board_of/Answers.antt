use Rattle.std.proofs.Common.{ap, ◌∙◌}
use Rattle.game_rules.specs.Position.{board_of_parts}
use Rattle.pile_symmetry.proofs.Restored.{found-if, none-if, fault-if}
use Rattle.pile_symmetry.proofs.restoring.board_of.Goals as goal

pub returns-in-Ok-clause-in_order : goal.returns-in-Ok-clause-in_order
returns-in-Ok-clause-in_order c =
    found-if c.args.rules.now c.args.key.now c.in-Ok.board c.with_key.result c.parts.ensures.playable
    c.in-Ok.ensures.belongs
    (c.in-Ok.ensures.board ∙ ap (board_of_parts c.args.rules.now) c.in_ok-parts.ensures) c.with_key.ensures

pub returns-in-Ok-clause-none : goal.returns-in-Ok-clause-none
returns-in-Ok-clause-none c =
    none-if c.args.rules.now c.args.key.now c.in-Ok.board c.with_key.result c.parts.ensures.playable
    (c.in-Ok.ensures.board ∙ ap (board_of_parts c.args.rules.now) c.in_ok-parts.ensures) c.with_key.ensures

pub returns-in_ok-refused-in-Err-clause-none : goal.returns-in_ok-refused-in-Err-clause-none
returns-in_ok-refused-in-Err-clause-none c = λ empty other belongs same.
    fault-if c.args.rules.now c.args.key.now c.in_ok-parts.parts c.in-Err.fault c.parts.ensures.playable
    c.in_ok-parts.ensures
    c.in-Err.ensures.fault c.in_ok-refused-in-Err.ensures other belongs same
