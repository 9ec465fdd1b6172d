use Rattle.std.proofs.Common.{◌≡◌, ◌++◌, take, drop}
use Rattle.seed_deal.specs.Layout.{without_first}
use Rattle.seed_deal.proofs.layout.first_place.Given as goal

abbrev pub invariant-loop-at : goal.invariant-loop-at
invariant-loop-at l = without_first l.card l.cards ≡ take l.at l.cards ++ without_first l.card (drop l.at l.cards)
