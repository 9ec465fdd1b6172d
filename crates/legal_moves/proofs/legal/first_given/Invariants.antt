use Rattle.game_rules.specs.Board.{pile_at}
use Rattle.legal_moves.proofs.Runs.{Reached}
use Rattle.legal_moves.proofs.legal.first_given.Given as goal

abbrev pub invariant-loop-given : goal.invariant-loop-given
invariant-loop-given g l = record {
  stands : g.T.Table.stands l.table l.left;
  reached : Reached l.rules (pile_at (g.T.Table.board l.table) l.fn.i).cards
      (g.T.Table.cards l.table l.left) l.card l.given;
}
