use Rattle.std.proofs.Common.{◌≡◌, ◌+◌, ◌-◌, List, length}
use Rattle.dfs_core.specs.Standing.{IsSearch}
use Rattle.dfs_core.specs.Laid.{Shows, values}
use Rattle.dfs_core.proofs.depth_first.run.Given as goal

-- there is a walk of as many trails as were spent, and the search stands after it
abbrev pub invariant-boards : goal.invariant-boards
invariant-boards g l = record {
  walk : List (List g.row.S-Step.Denot);
  shown : Shows (IsSearch g.S.Space g.S.Key.PartialEq.eq) l.fn.space walk (values g.M.Memo l.space l.stack l.memo);
  count : l.fn.budget.spent + length walk ≡ l.budget.spent;
  limit : l.budget.limit ≡ l.fn.budget.limit;
  capacity : g.M.Memo.capacity l.memo ≡ g.M.Memo.capacity l.fn.memo;
}

abbrev pub decreases-boards : goal.decreases-boards
decreases-boards g l = l.budget.limit - l.budget.spent
