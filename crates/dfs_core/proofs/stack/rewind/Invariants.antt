use Rattle.std.proofs.Common.{◌≡◌}
use Rattle.dfs_core.specs.Undoing.{taken_back, before_frame}
use Rattle.dfs_core.proofs.stack.rewind.Given as goal

abbrev pub invariant-loop-frame : goal.invariant-loop-frame
invariant-loop-frame g l =
    taken_back (before_frame g.S.Space.before) l.frames.items l.space ≡ taken_back
    (before_frame g.S.Space.before) l.fn.frames.items l.fn.space

abbrev pub decreases-loop-frame : goal.decreases-loop-frame
decreases-loop-frame g l = goal.left-loop-frame g l
