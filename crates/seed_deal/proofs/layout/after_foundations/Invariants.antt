use Rattle.std.proofs.Common.{◌≡◌, not, take}
use Rattle.std.specs.Prelude.{◌==◌}
use Rattle.std.specs.List.{filter}
use Rattle.seed_deal.proofs.layout.after_foundations.Given as goal

abbrev pub invariant-loop-card : goal.invariant-loop-card
invariant-loop-card l = l.cards.items ≡ filter (λ card. not (card.rank == l.base)) (take l.card-index l.deck)
