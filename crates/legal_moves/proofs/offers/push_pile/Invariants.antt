use Rattle.std.proofs.Common.{◌≡◌, ◌+◌, ◌++◌}
use Rattle.std.specs.List.{All}
use Rattle.arrayvec.specs.ArrayVec.{array_vec_len}
use Rattle.game_rules.specs.declared.Place.{Place}
use Rattle.game_rules.specs.declared.Place.TheVariants.{Tableau}
use Rattle.game_rules.specs.Board.{pile_at}
use Rattle.legal_moves.specs.Offers.{IsGiven, legal_of}
use Rattle.legal_moves.proofs.Offered.{legal_up_to}
use Rattle.legal_moves.proofs.Runs.{Reached}
use Rattle.legal_moves.proofs.offers.push_pile.Given as goal

abbrev pub invariant-loop-count : goal.invariant-loop-count
invariant-loop-count g l = record {
  stands : g.T.Table.stands l.table l.left;
  reached : Reached l.rules (pile_at (g.T.Table.board l.table) l.fn.i).cards
      (g.T.Table.cards l.table l.left) l.card l.count;
  legal : (to : Place) → legal_of l.rules (g.T.Table.board l.table) l.offers.items to
      ≡ legal_of l.rules (g.T.Table.board l.table) l.fn.offers.items to
      ++ legal_up_to l.rules (g.T.Table.board l.table) to (Tableau l.fn.i) l.count;
  given : All (IsGiven l.rules (g.T.Table.board l.table)) l.offers.items;
  len : array_vec_len l.offers ≡ array_vec_len l.fn.offers + l.count;
}
