use Rattle.std.proofs.Common.{◌≡◌, ◌++◌, take}
use Rattle.legal_moves.specs.Offers.{legal_of}
use Rattle.legal_moves.proofs.order.list_offers.Given as goal

abbrev pub invariant-loop-offer : goal.invariant-loop-offer
invariant-loop-offer g l =
    l.out.items ≡ l.initial.out.items ++ legal_of l.rules (g.T.Table.board l.table)
    (take l.offer-index l.offers) l.fn.to
