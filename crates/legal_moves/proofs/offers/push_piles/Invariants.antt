use Rattle.std.proofs.Common.{◌≡◌, ◌≤◌, length, take}
use Rattle.std.specs.Prelude.{map}
use Rattle.std.specs.List.{All, range_with_len, sum_by}
use Rattle.arrayvec.specs.ArrayVec.{array_vec_len}
use Rattle.game_rules.specs.declared.Place.{Place}
use Rattle.game_rules.specs.declared.Place.TheVariants.{Tableau}
use Rattle.game_rules.specs.ByPlace.{legal_to}
use Rattle.legal_moves.specs.Offers.{IsGiven, legal_of}
use Rattle.legal_moves.proofs.offers.push_piles.Given as goal

abbrev pub invariant-loop-i : goal.invariant-loop-i
invariant-loop-i g l = record {
  legal : (to : Place) → legal_of l.rules (g.T.Table.board l.table) l.offers.items to
      ≡ legal_to l.rules (g.T.Table.board l.table) (map Tableau (range_with_len 0 l.i)) to;
  given : All (IsGiven l.rules (g.T.Table.board l.table)) l.offers.items;
  len : array_vec_len l.offers ≤ sum_by (λ pile. length pile.cards) (take l.i (g.T.Table.board l.table).piles);
}
