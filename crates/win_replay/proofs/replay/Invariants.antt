use Rattle.win_replay.proofs.Plays.{PlayedSoFar}
use Rattle.win_replay.proofs.replay.Given as goal

abbrev pub invariant-loop-at : goal.invariant-loop-at
invariant-loop-at l = PlayedSoFar l.rules l.fn.start l.line l.at l.board
