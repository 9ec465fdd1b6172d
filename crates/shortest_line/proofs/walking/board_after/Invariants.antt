use Rattle.std.proofs.Common.{◌≡◌, take}
use Rattle.game_rules.specs.Belonging.{Belongs}
use Rattle.packed_state.specs.Packed.{board_of}
use Rattle.shortest_line.specs.Levels.{end_of}
use Rattle.shortest_line.proofs.walking.board_after.Given as goal

-- the moves before this one were made
abbrev pub invariant-loop-m : goal.invariant-loop-m
invariant-loop-m l = record {
  stands : board_of l.packed ≡ end_of l.rules l.start (take l.m-index l.moves);
  belongs : Belongs l.rules (board_of l.packed);
}
