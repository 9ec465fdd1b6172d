use Rattle.std.proofs.Common.{◌≡◌, ◌++◌}
use Rattle.std.specs.Prelude.{map}
use Rattle.std.specs.List.{flat_map, range_with_len}
use Rattle.legal_moves.specs.Kinds.{place_in}
use Rattle.legal_moves.specs.Offers.{legal_of}
use Rattle.legal_moves.proofs.order.list_onto.Given as goal

abbrev pub invariant-loop-i : goal.invariant-loop-i
invariant-loop-i g l =
    l.out.items ≡ l.initial.out.items ++ flat_map (legal_of l.rules (g.T.Table.board l.table) l.offers)
    (map (place_in l.fn.kind) (range_with_len 0 l.i))
