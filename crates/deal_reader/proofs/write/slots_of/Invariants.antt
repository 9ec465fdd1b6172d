use Rattle.std.proofs.Common.{◌≡◌, take}
use Rattle.deal_reader.proofs.write.slots_of.Given as goal

abbrev pub invariant-loop-i : goal.invariant-loop-i
invariant-loop-i l = l.slots.items ≡ take l.i l.board.slots
