use Rattle.std.proofs.Common.{◌≡◌, take}
use Rattle.deal_reader.proofs.write.heights_of.Given as goal

abbrev pub invariant-loop-f : goal.invariant-loop-f
invariant-loop-f l = l.heights.items ≡ take l.f l.board.heights
