use Rattle.std.proofs.Common.{◌++◌, List, ap, sym, subst, ◌∙◌, arith, Contains}
use Rattle.packed_state.specs.Packed.{Linked, board_of}
use Rattle.stock_steps.specs.declared.Step.{Step}
use Rattle.stock_steps.specs.Steps.{stock_steps}
use Rattle.stock_steps.specs.Making.{CanBeMade}
use Rattle.stock_steps.proofs.StepLines.{stock_steps-made}
use Rattle.stock_moves.proofs.tests.expansions.Goals as goal

pub expand-requires-clause-made : goal.expand-requires-clause-made
expand-requires-clause-made c =
    let all = c.in_ok-list_stock_steps.ensures.listed
    ∙ ap (λ (xs : List Step). xs ++ stock_steps c.args.rules.now (board_of c.from_board-packed.result))
    c.new-steps.ensures.items in
    let listed : Contains c.list_stock_steps.new.out.items c.index.result.now =
    (c.loop-place.place, omega arith, sym c.index.ensures) in
    subst (λ (packed : Linked). CanBeMade c.args.rules.now (board_of packed) c.index.result.now)
    (sym c.list_stock_steps.ensures.as_before)
    (stock_steps-made c.args.rules.now (board_of c.from_board-packed.result) c.index.result.now c.parts.ensures.playable
    (subst (λ (found : List Step). Contains found c.index.result.now) all listed))
