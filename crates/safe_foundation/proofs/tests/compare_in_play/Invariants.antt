use Rattle.game_rules.specs.Belonging.{Belongs}
use Rattle.packed_state.specs.Packed.{board_of}
use Rattle.safe_foundation.proofs.tests.compare_in_play.Given as goal

abbrev pub invariant-loop : goal.invariant-loop
invariant-loop l = Belongs l.rules (board_of l.packed)
