use Rattle.std.proofs.Common.{◌≡◌, List, [], ◌++◌, sym, ap, ◌∙◌, append-nil, rules}
use Rattle.std.proofs.lemmas.List.{nil_from_length}
use Rattle.packed_state.specs.Packed.{board_of}
use Rattle.stock_steps.specs.declared.Step.{Step}
use Rattle.legal_moves.proofs.Offered.{StartsWith-append}
use Rattle.stock_moves.proofs.WasteCarries.{waste_carries-empty, waste_carries-listed}
use Rattle.stock_moves.proofs.onto.push_waste_carries.Goals as goal

pub returns-then-size-eq0-clause-ok : goal.returns-then-size-eq0-clause-ok
returns-then-size-eq0-clause-ok c =
    let empty : (board_of c.args.packed.now).waste ≡ [] =
    nil_from_length (board_of c.args.packed.now).waste (sym c.size.ensures ∙ c.if-size-eq0.true) in
    sym (ap (λ (steps : List Step). c.args.out.now.items ++ steps)
    (waste_carries-empty c.args.rules.now (board_of c.args.packed.now) c.args.deals empty)
    ∙ append-nil c.args.out.now.items)

pub returns-clause-ok : goal.returns-clause-ok
returns-clause-ok c =
    waste_carries-listed c.args.rules.now (board_of c.args.packed.now) c.args.deals _ _ _ _ _ _ _ _ _ _
    (c.foundation_count-foundations.ensures ∙ sym c.requires.foundations)
    (c.slot_count.ensures ∙ sym c.requires.slots)
    (c.piles.ensures ∙ sym c.requires.piles)
    (c.cells.ensures ∙ sym c.requires.cells)
    c.in_ok-push_onto_each.ensures.ok c.in_ok-push_into_hole.ensures.ok c.in_ok-push_onto_each-2.ensures.ok
    c.in_ok-push_onto_each-3.ensures.ok c.in_ok-push_onto_each-4.ensures.ok

pub returns-in_err-push_onto_each-4-clause-err : goal.returns-in_err-push_onto_each-4-clause-err
returns-in_err-push_onto_each-4-clause-err c =
    let old : List Step = c.args.out.now.items in
    let some : List Step = c.push_onto_each.new.out.items in
    let more : List Step = c.push_into_hole.new.out.items in
    let most : List Step = c.push_onto_each-2.new.out.items in
    let all : List Step = c.push_onto_each-3.new.out.items in
    let last : List Step = c.push_onto_each-4.new.out.items in
    search (
      rules,
      StartsWith-append old _ some last c.in_ok-push_onto_each.ensures.ok
          (StartsWith-append some _ more last c.in_ok-push_into_hole.ensures.ok
          (StartsWith-append more _ most last c.in_ok-push_onto_each-2.ensures.ok
          (StartsWith-append most _ all last c.in_ok-push_onto_each-3.ensures.ok
          c.in_err-push_onto_each-4.ensures.err))),
    )
