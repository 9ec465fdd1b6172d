use Rattle.std.proofs.Common.{◌∙◌, ap}
use Rattle.game_rules.specs.Position.{board_of_parts}
use Rattle.game_rules.proofs.BelongingExactly.{board-of_its_parts}
use Rattle.packed_state.specs.Packed.{board_of}
use Rattle.packed_state.proofs.Packed.to_board.Goals as goal

pub returns-in-Ok : goal.returns-in-Ok
returns-in-Ok c =
    c.in-Ok.ensures.board
    ∙ ap (board_of_parts c.args.rules.now) c.in_ok-parts.ensures
    ∙ board-of_its_parts c.args.rules.now (board_of c.args.self.now) c.requires
