use Rattle.std.proofs.Common.{◌≡◌, ℕ, ◌+◌, suc, ap, sym, subst, ◌∙◌, arith}
use Rattle.game_rules.specs.Board.{Board}
use Rattle.game_rules.specs.Play.{Legal, after}
use Rattle.game_rules.specs.StockMoves.{after_stock_moves}
use Rattle.game_rules.specs.NextByStock.{HasStockMoves}
use Rattle.game_rules.proofs.StockMoves.{has-more}
use Rattle.packed_state.specs.Packed.{Linked, board_of}
use Rattle.packed_state.proofs.tests.walks.run_stock_moves.Goals as goal

pub run_stock-undo-requires-clause-so_many : goal.run_stock-undo-requires-clause-so_many
run_stock-undo-requires-clause-so_many c =
    let rules = c.args.rules.now in
    let legal = subst (λ (b : Board). Legal rules b c.in-Some.m) c.loop-made.invariant.2 c.in-Some.ensures.legal.1 in
    subst (λ (n : ℕ). HasStockMoves rules n (board_of c.loop-made.packed)) (omega arith)
    (has-more rules c.loop-made.made (board_of c.loop-made.packed) c.in-Some.m c.in-Some.ensures.waste
    c.loop-made.invariant.3 c.in-Some.ensures.legal.0 legal).0

pub loop-made-preserved : goal.loop-made-preserved
loop-made-preserved c =
    let rules = c.args.rules.now in
    let made : ℕ = c.loop-made.made in
    let board : Board = board_of c.loop-made.packed in
    let legal = subst (λ (b : Board). Legal rules b c.in-Some.m) c.loop-made.invariant.2 c.in-Some.ensures.legal.1 in
    let more = has-more rules made board c.in-Some.m c.in-Some.ensures.waste c.loop-made.invariant.3
    c.in-Some.ensures.legal.0 legal in
    let one : suc made ≡ made + 1 = omega arith in
    let given = c.unrun_stock.ensures in
    let before = c.run_stock-undo.ensures.can_go_back in
    let back : c.unrun_stock.new.self ≡ c.loop-made.packed = cc in (
      back ∙ c.loop-made.invariant.0,
      c.go.ensures.belongs,
      c.go.ensures.moved ∙ ap (λ (b : Board). after rules b c.in-Some.m) c.loop-made.invariant.2 ∙ sym more.1
          ∙ ap (λ (n : ℕ). after_stock_moves rules n board) one
          ∙ ap (λ (p : Linked). after_stock_moves rules (made + 1) (board_of p)) (sym back),
      subst (λ (p : Linked). HasStockMoves rules (made + 1) (board_of p)) (sym back)
          (subst (λ (n : ℕ). HasStockMoves rules n board) one more.0),
    )
