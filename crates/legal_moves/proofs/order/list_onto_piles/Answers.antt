use Rattle.std.proofs.Common.{◌≡◌, [], sym, append-nil}
use Rattle.std.specs.Prelude.{map}
use Rattle.std.specs.List.{flat_map, range_with_len}
use Rattle.game_rules.specs.declared.Place.TheVariants.{Tableau}
use Rattle.game_rules.specs.Board.{Board}
use Rattle.legal_moves.specs.Offers.{legal_of}
use Rattle.legal_moves.proofs.Offered.{legal_of-closed, flat_map-none}
use Rattle.legal_moves.proofs.order.list_onto_piles.Goals as goal

pub returns-then-are_piles_closed-clause-ok : goal.returns-then-are_piles_closed-clause-ok
returns-then-are_piles_closed-clause-ok g c =
    let rules = c.args.rules.now in
    let board : Board = g.T.Table.board c.args.table.now in
    let closed = c.are_piles_closed.ensures c.if-are_piles_closed.true in
    let none : flat_map (legal_of rules board c.args.offers.now) (map Tableau (range_with_len 0 rules.piles)) ≡ [] =
    flat_map-none (legal_of rules board c.args.offers.now) Tableau (range_with_len 0 rules.piles)
    (legal_of-closed rules board c.args.offers.now closed) in
    rw none (sym (append-nil c.args.out.now.items))
