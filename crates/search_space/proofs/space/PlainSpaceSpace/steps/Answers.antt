use Rattle.std.proofs.Common.{◌≡◌, ◌++◌, subst}
use Rattle.std.specs.Prelude.{OnOk}
use Rattle.packed_state.specs.Packed.{board_of}
use Rattle.stock_steps.specs.Steps.{steps}
use Rattle.stock_steps.proofs.StepsOnce.{steps-apart}
use Rattle.search_space.specs.Plain.{Standing}
use Rattle.search_space.proofs.space.PlainSpaceSpace.steps.Goals as goal

pub returns-clause-ok : goal.returns-clause-ok
returns-clause-ok c =
    subst (λ (s : Standing). OnOk c.list_or_leave.result
    (c.list_or_leave.new.out.items ≡ c.args.out.now.items ++ steps s.rules (board_of s.packed)))
    c.self.view_is c.list_or_leave.ensures.listed

pub returns-clause-differ : goal.returns-clause-differ
returns-clause-differ c = steps-apart c.args.self.now.rules (board_of c.args.self.now.packed)
