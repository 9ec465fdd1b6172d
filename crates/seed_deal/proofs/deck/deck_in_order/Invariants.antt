use Rattle.std.proofs.Common.{◌≡◌}
use Rattle.std.specs.List.{flat_map, range_with_len}
use Rattle.seed_deal.specs.Shuffle.{one_deck}
use Rattle.seed_deal.proofs.deck.deck_in_order.Given as goal

abbrev pub invariant-loop : goal.invariant-loop
invariant-loop l = l.deck.items ≡ flat_map (λ copy. one_deck l.rules.max_rank) (range_with_len 0 l.counter)
