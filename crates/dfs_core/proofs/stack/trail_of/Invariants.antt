use Rattle.std.proofs.Common.{◌≡◌, take}
use Rattle.dfs_core.specs.Laid.{steps_of}
use Rattle.dfs_core.proofs.stack.trail_of.Given as goal

abbrev pub invariant-loop-frame : goal.invariant-loop-frame
invariant-loop-frame g l = l.steps.items ≡ steps_of (take l.frame-index l.frames)
