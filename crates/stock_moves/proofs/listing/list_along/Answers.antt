use Rattle.std.proofs.Common.{rules, ◌≡◌, ◌≤◌, ℕ, ◌+◌, ◌<◌, suc, ◌||◌, ◌==◌, List, ◌++◌, length, arith, refl, ap, sym}
use Rattle.std.proofs.Common.{◌∙◌, subst, append-nil}
use Rattle.game_rules.specs.declared.RuleParts.{RuleParts}
use Rattle.game_rules.specs.Board.{Board}
use Rattle.packed_state.specs.Packed.{board_of}
use Rattle.stock_steps.specs.declared.Step.{Step}
use Rattle.stock_steps.specs.Steps.{steps_from, waste_carries}
use Rattle.stock_steps.proofs.StepLines.{playable_draw, run_short}
use Rattle.stock_steps.proofs.StockList.{stock_steps-by_run}
use Rattle.legal_moves.proofs.Offered.{StartsWith-append}
use Rattle.stock_moves.specs.GoesOn.{GoesOn}
use Rattle.stock_moves.proofs.Going.{has-one, board-more, boards_of}
use Rattle.stock_moves.proofs.Going.{listed-more, run-more, run-whole, steps_upto, underway-first, underway-next}
use Rattle.stock_moves.proofs.listing.list_along.Goals.{then-emptied, else-emptied}
use Rattle.stock_moves.proofs.listing.list_along.Goals as goal

pub loop-packed-init : goal.loop-packed-init
loop-packed-init c =
    let rules : RuleParts = c.args.rules.now in
    let board : Board = board_of c.args.packed.now in (
      underway-first rules board c.size-first.result c.size-first.ensures,
      refl,
      λ undo. refl,
      c.requires.belongs,
      c.in_ok-push_waste_carries.ensures.ok
          ∙ ap (λ (xs : List Step). c.args.out.now.items ++ xs)
          (sym (append-nil (steps_from 0 (waste_carries rules board)))),
      omega arith,
    )

pub run_stock-requires-clause-so_many : goal.run_stock-requires-clause-so_many
run_stock-requires-clause-so_many c =
    has-one c.args.rules.now (board_of c.loop-packed.packed) c.size-first.result c.loop-packed.emptied
    c.requires.to_waste (c.goes_on.ensures.0 c.loop-packed-test.true)

pub loop-packed-preserved : goal.loop-packed-preserved
loop-packed-preserved c =
    let rules : RuleParts = c.args.rules.now in
    let board : Board = board_of c.args.packed.now in
    let deals : ℕ = c.loop-packed.deals in
    let inv = c.loop-packed.invariant in
    let draws : 1 ≤ rules.draw = playable_draw rules c.parts.ensures.playable in
    let on : GoesOn rules (boards_of rules board deals) c.size-first.result c.loop-packed.emptied =
    subst (λ (b : Board). GoesOn rules b c.size-first.result c.loop-packed.emptied) inv.1
    (c.goes_on.ensures.0 c.loop-packed-test.true) in
    let moved : board_of c.run_stock.new.self ≡ boards_of rules board (suc deals) =
    c.run_stock.ensures.moved ∙ board-more rules board (board_of c.loop-packed.packed) deals inv.1 in
    let now : c.if-emptied.emptied
    ≡ (c.loop-packed.emptied || (length (boards_of rules board (suc deals)).stock == 0)) =
    elim c.if-emptied.branch [
      | then-emptied w ↦ rw (w.emptied-is, w.if-emptied.true) refl
      | else-emptied w ↦
          let size : w.size.result ≡ length (boards_of rules board (suc deals)).stock =
          w.size.ensures ∙ ap (λ (b : Board). length b.stock) moved in
          rw (w.emptied-is, w.if-emptied.false, size) refl
    ] in
    let more : suc deals ≡ deals + 1 = omega arith in
    let short : suc deals < 8500 =
    run_short rules board (suc deals) (boards_of rules board) c.parts.ensures.playable c.requires.belongs
    c.requires.to_waste
    (run-more rules board deals c.size-first.result c.loop-packed.emptied draws c.requires.to_waste inv.0 on) in
    let listed = listed-more rules board (board_of c.run_stock.new.self) deals c.args.out.now.items
    c.loop-packed.out.items
    c.push_waste_carries-in-loop-packed.new.out.items inv.4 moved c.in_ok-push_waste_carries-2.ensures.ok in
    rw (sym more) (
      underway-next rules board deals c.size-first.result c.loop-packed.emptied c.if-emptied.emptied draws
          c.requires.to_waste inv.0 on now,
      moved,
      λ undo. c.run_stock.ensures.same_notes undo ∙ inv.2 undo,
      c.run_stock.ensures.belongs,
      listed,
      short,
    )

pub returns-in_err-push_waste_carries-2-clause-begun :
    goal.returns-in_err-push_waste_carries-2-clause-begun
returns-in_err-push_waste_carries-2-clause-begun c =
    search (
      rules,
      StartsWith-append c.args.out.now.items _ c.loop-packed.out.items c.push_waste_carries-in-loop-packed.new.out.items
          c.loop-packed.invariant.4 c.in_err-push_waste_carries-2.ensures.err,
    )

pub returns-in_err-push_waste_carries-2-clause-same_notes :
    goal.returns-in_err-push_waste_carries-2-clause-same_notes
returns-in_err-push_waste_carries-2-clause-same_notes c =
    λ undo. c.run_stock.ensures.same_notes undo ∙ c.loop-packed.invariant.2 undo

pub returns-clause-listed : goal.returns-clause-listed
returns-clause-listed c =
    let rules : RuleParts = c.args.rules.now in
    let board : Board = board_of c.args.packed.now in
    let deals : ℕ = c.loop-packed.deals in
    let inv = c.loop-packed.invariant in
    let draws : 1 ≤ rules.draw = playable_draw rules c.parts.ensures.playable in
    let more : suc deals ≡ deals + 1 = omega arith in
    let ends : GoesOn rules (boards_of rules board deals) c.size-first.result c.loop-packed.emptied → ⊥ = λ on.
    let true_now = c.goes_on.ensures.1
    (subst (λ (b : Board). GoesOn rules b c.size-first.result c.loop-packed.emptied) (sym inv.1) on) in
    let false_now = c.loop-packed-test.false in
    cc in
    inv.4
    ∙ ap (λ (n : ℕ). c.args.out.now.items ++ steps_upto rules board n) (sym more)
    ∙ ap (λ (xs : List Step). c.args.out.now.items ++ xs)
    (sym (stock_steps-by_run rules board deals draws c.requires.to_waste
    (run-whole rules board deals c.size-first.result c.loop-packed.emptied draws c.requires.to_waste inv.0 ends)))
