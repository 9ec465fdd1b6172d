use Rattle.std.proofs.Common.{◌≡◌, ◌-◌, ◌%◌, map, length, drop}
use Rattle.std.specs.List.{range_with_len}
use Rattle.seed_deal.specs.Layout.{laid_on, round_order}
use Rattle.seed_deal.proofs.piles.lay_in_turn.Given as goal

abbrev pub invariant-loop-k : goal.invariant-loop-k
invariant-loop-k l = record {
  all : length l.tableau.items ≡ l.piles;
  laid : laid_on (map (λ j. j % l.piles) (range_with_len l.k (length l.cards - l.k))) (drop l.k l.cards) l.tableau.items
      ≡ laid_on (round_order l.piles (length l.cards)) l.cards l.fn.tableau.items;
}
