use Rattle.std.proofs.Common.{◌≡◌, true, take}
use Rattle.std.specs.Prelude.{is_none}
use Rattle.std.specs.List.{list_all}
use Rattle.game_rules.specs.Play.{is_empty}
use Rattle.game_model.proofs.winning.are_piles_empty.Given as goal

abbrev pub invariant-loop-i : goal.invariant-loop-i
invariant-loop-i g l = list_all (λ pile. is_empty pile.cards) (take l.i (g.T.Table.board l.table).piles) ≡ true
