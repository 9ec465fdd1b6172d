use Rattle.std.proofs.Common.{◌≡◌, map, take}
use Rattle.seed_deal.specs.Layout.{turned}
use Rattle.seed_deal.proofs.piles.face_down_of.Given as goal

abbrev pub invariant-loop-cards : goal.invariant-loop-cards
invariant-loop-cards l = l.numbers ≡ map (λ cards. (turned l.face cards).face_down) (take l.cards-index l.tableau)
