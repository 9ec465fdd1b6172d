use Rattle.std.proofs.Common.{◌≡◌, ◌-◌, map, take, length}
use Rattle.deal_reader.specs.Bytes.{narrow}
use Rattle.deal_reader.proofs.read.all_but_tops.Given as goal

abbrev pub invariant-loop-cards : goal.invariant-loop-cards
invariant-loop-cards l = l.bytes ≡ map narrow (map (λ cards. length cards - 1) (take l.cards-index l.tableau))
