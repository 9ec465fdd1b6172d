use Rattle.std.proofs.Common.{◌++◌, List, ap, sym, subst, ◌∙◌, arith, Contains}
use Rattle.stock_steps.specs.declared.Step.{Step}
use Rattle.stock_steps.specs.Steps.{steps}
use Rattle.packed_state.specs.Packed.{board_of}
use Rattle.search_space.specs.Plain.{Standing}
use Rattle.search_space.proofs.space_tests.comes_back.Goals as goal

pub go-undo-requires : goal.go-undo-requires
go-undo-requires c =
    let all = c.in_ok-steps.ensures.ok
    ∙ ap (λ (xs : List Step). xs ++ steps c.args.space.now.rules (board_of c.args.space.now.packed))
    c.new-steps.ensures.items in
    let listed : Contains c.steps.new.out.items c.index.result.now = (c.args.place, omega arith, sym c.index.ensures) in
    subst (λ (s : Standing). Contains (steps s.rules (board_of s.packed)) c.index.result.now) (sym c.steps.ensures.same)
    (subst (λ (found : List Step). Contains found c.index.result.now) all listed)
