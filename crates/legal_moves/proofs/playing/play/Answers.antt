use Rattle.std.proofs.Common.{◌≡◌, true, arith}
use Rattle.game_rules.specs.Play.{is_legal_move}
use Rattle.game_rules.proofs.KeepsBelonging.{belongs-after}
use Rattle.legal_moves.proofs.playing.play.Goals as goal

pub returns-in-Ok-clause-belongs : goal.returns-in-Ok-clause-belongs
returns-in-Ok-clause-belongs c =
    let legal : is_legal_move c.args.rules.now c.args.board.now c.args.m ≡ true = grind arith in
    rw c.in-Ok.ensures.moved
    (belongs-after c.args.rules.now c.args.board.now c.args.m c.parts.ensures.playable c.requires legal)
