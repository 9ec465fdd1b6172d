use Rattle.game_rules.specs.Winning.{row_at}
use Rattle.packed_state.specs.Packed.{board_of}
use Rattle.packed_state.proofs.Unpacked.{more_listed}
use Rattle.packed_state.proofs.Packed.rows_of.Goals as goal

pub loop-r-preserved : goal.loop-r-preserved
loop-r-preserved c =
    more_listed (row_at c.args.rules.now (board_of c.args.self.now)) c.loop-r.r c.loop-r.out c.push.new.self
    c.in_ok-row_of.field-0 c.loop-r.invariant c.in_ok-push.ensures.ok
    (c.in_ok-row_of.ensures)
