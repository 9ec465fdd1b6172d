use Rattle.std.proofs.Common.{◌≡◌, ◌+◌, ◌++◌, map}
use Rattle.std.specs.List.{range_with_len}
use Rattle.seed_deal.proofs.deck.push_suit.Given as goal

abbrev pub invariant-loop-place : goal.invariant-loop-place
invariant-loop-place l = l.deck.items ≡ l.initial.deck.items
    ++ map (λ place. record { suit = l.suit; rank = place + 1 }) (range_with_len 0 l.place)
