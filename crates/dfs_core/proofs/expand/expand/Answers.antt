use Rattle.std.proofs.Common.{◌∙◌}
use Rattle.dfs_core.proofs.expand.expand.Goals as goal

pub returns-clause-expanded : goal.returns-clause-expanded
returns-clause-expanded g c = record {
  appended = c.in_ok-steps.ensures.ok;
  differ = c.in_ok-steps.ensures.differ;
  live_is = rw c.make_room.ensures.live at c.enter.ensures.live;
  finished_is = c.enter.ensures.finished ∙ c.make_room.ensures.finished;
}
