use Rattle.std.proofs.Common.{◌≡◌, true}
use Rattle.game_rules.specs.Board.{pile_at, top_part, below_top}
use Rattle.game_rules.specs.Putting.{falls_in_suit}
use Rattle.legal_moves.proofs.put.falls_in_suit.Given as goal

abbrev pub invariant-loop-depth : goal.invariant-loop-depth
invariant-loop-depth g l = record {
  stands : g.T.Table.stands l.table l.left;
  left : g.T.Table.cards l.table l.left ≡ below_top l.depth (pile_at (g.T.Table.board l.table) l.fn.i).cards;
  falls : falls_in_suit l.fn.f l.depth (top_part l.depth (pile_at (g.T.Table.board l.table) l.fn.i).cards) ≡ true;
}
