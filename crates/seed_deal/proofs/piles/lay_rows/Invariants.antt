use Rattle.std.proofs.Common.{◌≡◌, length}
use Rattle.seed_deal.proofs.Laying.{LaysAs, rows_from, row_from}
use Rattle.seed_deal.proofs.piles.lay_rows.Given as goal

abbrev pub invariant-loop-row : goal.invariant-loop-row
invariant-loop-row l = record {
  all : length l.tableau.items ≡ l.piles;
  lays : LaysAs (rows_from l.piles l.row) l.rest l.tableau.items (rows_from l.piles 0) l.fn.cards l.fn.tableau.items;
}

abbrev pub invariant-loop-pile : goal.invariant-loop-pile
invariant-loop-pile l = record {
  all : length l.tableau.items ≡ l.piles;
  lays : LaysAs (row_from l.piles l.row l.pile) l.rest l.tableau.items
      (rows_from l.piles 0) l.fn.cards l.fn.tableau.items;
}
