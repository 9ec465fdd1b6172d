use Rattle.std.proofs.lemmas.List.{map_more, take_all}
use Rattle.dfs_core.proofs.stack.trail_of.Goals as goal

pub loop-frame-preserved : goal.loop-frame-preserved
loop-frame-preserved g c = rw (
  c.in_ok-push.ensures.items,
  c.loop-frame.invariant,
  map_more (λ f. f.step) c.args.frames.now c.loop-frame.frame-index c.frame-item.result c.loop-frame-test.true,
  ← c.frame-item.is,
)

pub returns : goal.returns
returns g c = rw (
  c.from_vec.ensures,
  c.in_ok-push-2.ensures.items,
  c.loop-frame.invariant,
  take_all c.loop-frame.frame-index c.args.frames.now c.loop-frame-test.false,
)
