use Rattle.std.proofs.Common.{◌≡◌, ◌<◌, ℕ, ◌+◌, suc, List, [], ◌∷◌, ◌++◌, length, IsTrue, arith, ap, sym}
use Rattle.std.proofs.Common.{◌∙◌, append_assoc}
use Rattle.std.proofs.lemmas.Bool.Decides.{nat_tests}
use Rattle.game_rules.specs.declared.RuleParts.{RuleParts}
use Rattle.game_rules.specs.declared.Move.{Move}
use Rattle.game_rules.specs.declared.Move.TheVariants.{Deal, Redeal}
use Rattle.game_rules.specs.Rules.{deals_to_waste}
use Rattle.game_rules.specs.Board.{Board}
use Rattle.game_rules.specs.StockMoves.{after_stock_moves}
use Rattle.game_rules.specs.NextByStock.{IsNextByStock}
use Rattle.packed_state.specs.Packed.{board_of}
use Rattle.stock_steps.specs.Steps.{stock_moves}
use Rattle.stock_moves.proofs.StepMoves.{deal-next, redeal-next, moves-more, size-after}
use Rattle.stock_moves.proofs.expanding.push_moves.Goals.{then-stock-eq0+in_ok-push, else-stock-eq0+in_ok-push-2}
use Rattle.stock_moves.proofs.expanding.push_moves.Goals as goal

pub loop-made-preserved : goal.loop-made-preserved
loop-made-preserved c =
    let rules : RuleParts = c.args.rules.now in
    let board : Board = board_of c.args.before.now in
    let made : ℕ = c.loop-made.made in
    let a : Board = after_stock_moves rules made board in
    let b : Board = after_stock_moves rules (suc made) board in
    let less : made < c.args.step.deals = omega (arith, c.loop-made-test.true) in
    let next : IsNextByStock rules a b = c.requires.made.stock.each made less in
    let to_waste : IsTrue (deals_to_waste rules.target) = c.requires.made.stock.to_waste (omega (arith, less)) in
    let inv = c.loop-made.invariant in
    let more : made + 1 ≡ suc made = omega arith in
    elim c.if-stock-eq0.branch [
      | then-stock-eq0+in_ok-push w ↦
          let none : length a.stock ≡ 0 = sym inv.1 ∙ grind (arith, nat_tests, w.if-stock-eq0.true) in
          let redeal = redeal-next rules a b to_waste next none in
          rw more (
            moves-more rules made board Redeal c.args.out.now.items c.loop-made.out.items
                c.if-stock-eq0.out.items inv.0 redeal.0
                (rw w.out-is w.in_ok-push.ensures.items),
            w.stock-is
                ∙ omega (arith, c.size.ensures, c.size-2.ensures)
                ∙ sym (size-after rules made board to_waste)
                ∙ sym redeal.1,
          )
      | else-stock-eq0+in_ok-push-2 w ↦
          let some : 0 < length a.stock = grind (arith, nat_tests, inv.1, w.if-stock-eq0.false) in
          let deal = deal-next rules a b to_waste next some in
          rw more (
            moves-more rules made board Deal c.args.out.now.items c.loop-made.out.items
                c.if-stock-eq0.out.items inv.0 deal.0
                (rw w.out-is w.in_ok-push-2.ensures.items),
            rw (w.stock-is, w.saturating_sub-stock.ensures, w.draw.ensures, inv.1) (sym deal.1),
          )
    ]

pub returns-clause-expanded : goal.returns-clause-expanded
returns-clause-expanded c =
    let rules : RuleParts = c.args.rules.now in
    let board : Board = board_of c.args.before.now in
    let all : c.loop-made.made ≡ c.args.step.deals = omega (arith, c.loop-made-test.false, c.loop-made.auto.made-end) in
    c.in_ok-push-3.ensures.items
    ∙ ap (λ (moves : List Move). moves ++ c.args.step.last ∷ [])
    (c.loop-made.invariant.0 ∙ ap (λ (k : ℕ). c.args.out.now.items ++ stock_moves rules k board) all)
    ∙ append_assoc c.args.out.now.items (stock_moves rules c.args.step.deals board) (c.args.step.last ∷ [])
