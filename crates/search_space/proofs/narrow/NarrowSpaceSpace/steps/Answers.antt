use Rattle.std.proofs.Common.{◌≡◌, ◌++◌, subst}
use Rattle.std.specs.Prelude.{OnOk}
use Rattle.packed_state.specs.Packed.{board_of}
use Rattle.search_space.specs.Narrow.{narrow_steps}
use Rattle.search_space.specs.NarrowPlay.{NarrowStanding}
use Rattle.search_space.proofs.NarrowSteps.{narrow_steps-once}
use Rattle.search_space.proofs.narrow.NarrowSpaceSpace.steps.Goals as goal

pub returns-clause-ok : goal.returns-clause-ok
returns-clause-ok c =
    subst (λ (s : NarrowStanding). OnOk c.list_narrow_or_leave.result
    (c.list_narrow_or_leave.new.out.items ≡ c.args.out.now.items ++ narrow_steps s.rules s.way (board_of s.packed)))
    c.self.view_is c.list_narrow_or_leave.ensures.listed

pub returns-clause-differ : goal.returns-clause-differ
returns-clause-differ c = narrow_steps-once c.args.self.now.rules c.args.self.now.way (board_of c.args.self.now.packed)
