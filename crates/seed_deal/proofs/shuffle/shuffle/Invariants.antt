use Rattle.std.proofs.Common.{◌≡◌, ◌-◌, ◌≤◌, length}
use Rattle.std.specs.List.Sorted.{IsPermutation}
use Rattle.seed_deal.specs.Shuffle.{shuffled}
use Rattle.seed_deal.proofs.shuffle.shuffle.Given as goal

abbrev pub invariant-loop-last : goal.invariant-loop-last
invariant-loop-last g l = record {
  order : shuffled (g.R.Rng.stream l.words) (l.last - 1) l.cards ≡ shuffled (g.R.Rng.stream l.initial.words)
      (length l.initial.cards - 1) l.initial.cards;
  cards : IsPermutation l.initial.cards l.cards;
  within : l.last ≤ length l.cards;
}

abbrev pub decreases-loop-last : goal.decreases-loop-last
decreases-loop-last g l = l.last
