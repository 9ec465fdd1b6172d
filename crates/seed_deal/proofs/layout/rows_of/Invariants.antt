use Rattle.std.proofs.Common.{◌≡◌, ◌*◌, map, drop}
use Rattle.std.specs.List.{range_with_len}
use Rattle.game_rules.specs.Winning.{row_at}
use Rattle.seed_deal.specs.Layout.{laid_in_rows, slot_for}
use Rattle.seed_deal.proofs.layout.rows_of.Given as goal

abbrev pub invariant-loop : goal.invariant-loop
invariant-loop l = record {
  rows : l.rows ≡ map (row_at l.rules (laid_in_rows l.rules l.deck)) (range_with_len 0 l.counter);
  rest : l.rest ≡ drop (l.counter * l.rules.max_rank) (map slot_for l.deck);
}
