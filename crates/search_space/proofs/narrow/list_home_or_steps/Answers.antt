use Rattle.std.proofs.Common.{◌≡◌, ◌++◌, List, ap, sym, ◌∙◌, subst}
use Rattle.std.specs.Prelude.{OnOk, Option, None}
use Rattle.std.specs.List.{find}
use Rattle.game_rules.specs.declared.Move.{Move}
use Rattle.game_rules.specs.Order.{legal_moves}
use Rattle.packed_state.specs.Packed.{board_of}
use Rattle.stock_steps.specs.declared.Step.{Step}
use Rattle.stock_steps.specs.Steps.{forced_or, free_steps, steps}
use Rattle.streamliner.specs.declared.Streamliner.TheVariants.{AutoFoundations}
use Rattle.streamliner.specs.Narrow.{is_carry_home}
use Rattle.search_space.specs.Narrow.{narrow_steps}
use Rattle.search_space.proofs.NoHome.{steps-free}
use Rattle.search_space.proofs.narrow.list_home_or_steps.Goals as goal

pub returns-clause-listed : goal.returns-clause-listed
returns-clause-listed c =
    let rules = c.args.rules.now in
    let board = board_of c.args.packed.now in
    let listed : c.as_slice.result.now ≡ legal_moves rules board = c.as_slice.ensures.value ∙ c.in_ok-moves.ensures in
    let none : find is_carry_home (legal_moves rules board) ≡ None = ap (find is_carry_home) (sym listed)
    ∙ sym c.in-None.ensures in
    let free : free_steps rules board ≡ narrow_steps rules AutoFoundations board =
    sym (ap (λ (o : Option Move). forced_or o (steps rules board)) none ∙ steps-free rules board none) in
    subst (λ (xs : List Step). OnOk c.list_free_steps.result
    (c.list_free_steps.new.out.items ≡ c.args.out.now.items ++ xs)) free c.list_free_steps.ensures.listed
