use Rattle.std.proofs.Common.{◌≡◌, ◌+◌, ◌-◌, length}
use Rattle.dfs_core.specs.Laid.{GoesOn, values, left_of}
use Rattle.dfs_core.proofs.advance.advance.Given as goal

abbrev pub invariant-turns : goal.invariant-turns
invariant-turns g l = record {
  capacity : g.M.Memo.capacity l.memo ≡ g.M.Memo.capacity l.fn.memo;
  goes_on : GoesOn g.S.Space g.S.Key.PartialEq.eq (values g.M.Memo l.fn.space l.fn.stack l.fn.memo)
      (values g.M.Memo l.space l.stack l.memo);
}

-- the steps that are left on the stack, and its states
abbrev pub decreases-turns : goal.decreases-turns
decreases-turns g l = left_of l.stack.frames.items l.stack.top.begin + (length l.stack.steps.items - l.stack.top.next)
