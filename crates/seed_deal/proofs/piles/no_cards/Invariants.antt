use Rattle.std.proofs.Common.{◌≡◌, [], replicate}
use Rattle.seed_deal.proofs.piles.no_cards.Given as goal

abbrev pub invariant-loop : goal.invariant-loop
invariant-loop l = l.tableau.items ≡ replicate l.counter []
