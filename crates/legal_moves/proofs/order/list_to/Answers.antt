use Rattle.std.proofs.Common.{sym, append-nil}
use Rattle.game_rules.specs.Board.{Board}
use Rattle.legal_moves.proofs.Offered.{legal_of-none}
use Rattle.legal_moves.proofs.order.list_to.Goals as goal

pub returns-then-not-meets-clause-ok : goal.returns-then-not-meets-clause-ok
returns-then-not-meets-clause-ok g c =
    let board : Board = g.T.Table.board c.args.table.now in
    rw
    (legal_of-none c.args.rules.now board c.args.offers.now c.args.to c.fit_of-set.result c.args.free c.requires.given
    c.requires.free c.requires.here c.fit_of-set.ensures
    (c.meets.ensures c.if-not-meets.true))
    (sym (append-nil c.args.out.now.items))
