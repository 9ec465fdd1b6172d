use Rattle.std.proofs.Common.{◌≡◌, true, take}
use Rattle.std.specs.List.{All}
use Rattle.card_sets.specs.Sets.{has_bit}
use Rattle.legal_moves.proofs.order.free.Given as goal

abbrev pub invariant-loop-offer : goal.invariant-loop-offer
invariant-loop-offer l = All (λ offer. has_bit l.set offer.bit ≡ true) (take l.offer-index l.offers)
