use Rattle.std.proofs.Common.{◌≡◌, take, map}
use Rattle.deal_reader.proofs.write.face_down_of.Given as goal

abbrev pub invariant-loop-i : goal.invariant-loop-i
invariant-loop-i l = l.numbers.items ≡ map (λ pile. pile.face_down) (take l.i l.board.piles)
