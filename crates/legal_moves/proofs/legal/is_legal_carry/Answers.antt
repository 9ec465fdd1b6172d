use Rattle.std.proofs.Common.{sym, ◌∙◌}
use Rattle.std.specs.Prelude.{not}
use Rattle.game_rules.specs.Board.{Board, has_place}
use Rattle.game_rules.specs.Play.{same_place}
use Rattle.game_rules.specs.Taking.{can_take, taken}
use Rattle.game_rules.specs.Putting.{can_put}
use Rattle.legal_moves.proofs.Offered.{given-taken, not-taken, not_given}
use Rattle.legal_moves.proofs.legal.is_legal_carry.Goals as goal

pub can_go-requires-clause-given : goal.can_go-requires-clause-given
can_go-requires-clause-given g c =
    given-taken c.args.rules.now (g.T.Table.board c.args.table.now) c.args.from c.args.count
    c.in-Some.card c.of-bit.result
    (sym c.has_place.ensures ∙ c.if-not-has_place.false)
    (sym c.first_taken.ensures ∙ c.in-Some.is) c.of-bit.ensures.ranked c.of-bit.ensures.value

pub returns-in-None : goal.returns-in-None
returns-in-None g c =
    let rules = c.args.rules.now in
    let board : Board = g.T.Table.board c.args.table.now in
    sym (not_given (has_place rules board c.args.from) (has_place rules board c.args.to)
    (not (same_place c.args.from c.args.to))
    (can_take rules board c.args.from c.args.count)
    (can_put rules board c.args.to (taken rules board c.args.from c.args.count))
    (not-taken rules board c.args.from c.args.count (sym c.first_taken.ensures ∙ c.in-None.is)))
