use Rattle.std.proofs.Common.{◌≡◌, ℕ, ◌+◌, ◌<◌, suc, ap, ◌∙◌, arith}
use Rattle.card_links.specs.Chains.{size_at}
use Rattle.game_rules.specs.Board.{Board}
use Rattle.game_rules.specs.StockMoves.{after_stock_moves}
use Rattle.game_rules.specs.NextByStock.{IsNextByStock}
use Rattle.packed_state.specs.Packed.{Linked, board_of}
use Rattle.packed_state.proofs.Queues.{cut_at, cut-next}
use Rattle.packed_state.proofs.StockRuns.{few_in_queue, queue_long, here_cut, is_cut}
use Rattle.packed_state.proofs.Packed.border_after.Goals as goal

pub overflow_add-cards : goal.overflow_add-cards
overflow_add-cards c =
    let l : Linked = c.args.self.now in
    let few = few_in_queue l c.keep.ensures in
    let stock : c.size.result ≡ size_at l.links 89 = c.size.ensures ∙ ap (λ x. size_at x.links 89) c.self.view_is in
    let waste : c.size-2.result ≡ size_at l.links 88 = c.size-2.ensures ∙ ap (λ x. size_at x.links 88) c.self.view_is in
    omega arith

pub loop-made-init : goal.loop-made-init
loop-made-init c =
    let l : Linked = c.args.self.now in (
      ap (λ b. cut_at b (board_of l)) c.border-border.ensures ∙ here_cut l,
      omega (arith, ap (λ b. b.stock) c.border-border.ensures),
    )

pub loop-made-preserved : goal.loop-made-preserved
loop-made-preserved c =
    let rules = c.args.rules.now in
    let l : Linked = c.args.self.now in
    let board : Board = board_of l in
    let made : ℕ = c.loop-made.made in
    let below : made < c.args.k = c.loop-made-test.true in
    let long = queue_long l in
    let next : IsNextByStock rules (cut_at c.loop-made.border board) (after_stock_moves rules (suc made) board) =
    rw c.loop-made.invariant.0 (c.requires.each made below) in
    let stock : c.size.result ≡ size_at l.links 89 = c.size.ensures ∙ ap (λ x. size_at x.links 89) c.self.view_is in
    let waste : c.size-2.result ≡ size_at l.links 88 = c.size-2.ensures ∙ ap (λ x. size_at x.links 88) c.self.view_is in
    let step = cut-next rules c.loop-made.border c.moved-border.result board
    (after_stock_moves rules (suc made) board) _
    (c.requires.to_waste (omega (arith, below))) (omega (arith, c.loop-made.invariant.1))
    (omega (arith, long, stock, waste)) next c.moved-border.ensures.deals c.moved-border.ensures.redeals in
    let one : suc made ≡ made + 1 = omega arith in
    (step.0 ∙ ap (λ (n : ℕ). after_stock_moves rules n board) one, omega (arith, step.1, long))

pub returns-clause-moved : goal.returns-clause-moved
returns-clause-moved c =
    let test = c.loop-made-test.false in let ends = c.loop-made.auto.made-end in
    let all : c.loop-made.made ≡ c.args.k = omega arith in
    is_cut c.args.self.now c.keep.ensures c.loop-made.border c.loop-made.invariant.1 ∙ c.loop-made.invariant.0
    ∙ ap (λ (n : ℕ). after_stock_moves c.args.rules.now n (board_of c.args.self.now)) all
