use Rattle.std.proofs.Common.{◌≡◌, true, take}
use Rattle.std.specs.Prelude.{not}
use Rattle.std.specs.List.{list_all}
use Rattle.game_rules.specs.Play.{is_empty}
use Rattle.legal_moves.proofs.legal.has_no_empty_pile.Given as goal

abbrev pub invariant-loop-i : goal.invariant-loop-i
invariant-loop-i g l = list_all (λ pile. not (is_empty pile.cards)) (take l.i (g.T.Table.board l.table).piles) ≡ true
