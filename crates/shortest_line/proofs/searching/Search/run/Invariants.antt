use Rattle.std.proofs.Common.{◌≡◌, ◌-◌}
use Rattle.shortest_line.specs.Levels.{IsLevel}
use Rattle.shortest_line.proofs.searching.Search.run.Given as goal

abbrev pub invariant-loop-from : goal.invariant-loop-from
invariant-loop-from l = record {
  level : IsLevel l.rules l.start l.self l.from l.depth;
  limit : l.self.budget.limit ≡ l.fn.self.budget.limit;
}

abbrev pub decreases-loop-from : goal.decreases-loop-from
decreases-loop-from l = l.self.budget.limit - l.from
