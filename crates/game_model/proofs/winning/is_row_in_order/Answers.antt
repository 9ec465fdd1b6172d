use Rattle.std.proofs.Common.{◌≡◌, ℕ, ◌+◌, ◌-◌, ◌*◌, ◌<◌, Bool, true, false, List, take, drop, get_or, length, refl, ap}
use Rattle.std.proofs.Common.{sym, ◌∙◌, arith}
use Rattle.std.specs.Prelude.{Option, None, ◌==◌, if◌then◌else◌}
use Rattle.card_piles.specs.declared.Card.{Card}
use Rattle.game_rules.specs.Board.{Board, entry_at}
use Rattle.game_rules.specs.Winning.{row_at, is_in_sequence}
use Rattle.game_model.specs.Rows.{goes_next}
use Rattle.game_model.proofs.InRows.{row-column, row-broken}
use Rattle.game_model.proofs.winning.is_row_in_order.Goals as goal

pub returns-then-not-is_column_in_order : goal.returns-then-not-is_column_in_order
returns-then-not-is_column_in_order g c =
    let rules = c.args.rules.now in
    let board : Board = g.T.Table.board c.args.table.now in
    let k : ℕ = c.loop-column.column in
    let inside : k < rules.max_rank = omega (arith, c.loop-column-test.true, c.max_rank-columns.ensures.value) in
    let step = row-column board.slots c.args.row (4 * rules.decks) rules.max_rank k c.requires.slots c.requires.row
    inside c.loop-column.invariant in
    let broken : is_in_sequence (take (k + 1) (row_at rules board c.args.row)) ≡ false =
    step
    ∙ ap (λ columns. goes_next (if k == 0 then None else entry_at board.slots (c.args.row * columns + k - 1))
    (entry_at board.slots (c.args.row * columns + k)))
    (sym c.max_rank-columns.ensures.value)
    ∙ sym c.is_column_in_order.ensures
    ∙ c.if-not-is_column_in_order.true in
    sym (row-broken (row_at rules board c.args.row) (k + 1) (rules.max_rank - 1)
    (omega (arith, c.loop-column-test.true, c.max_rank-columns.ensures.value)) broken)

pub loop-column-preserved : goal.loop-column-preserved
loop-column-preserved g c =
    let rules = c.args.rules.now in
    let board : Board = g.T.Table.board c.args.table.now in
    let k : ℕ = c.loop-column.column in
    let inside : k < rules.max_rank = omega (arith, c.loop-column-test.true, c.max_rank-columns.ensures.value) in
    let step = row-column board.slots c.args.row (4 * rules.decks) rules.max_rank k c.requires.slots c.requires.row
    inside c.loop-column.invariant in
    step
    ∙ ap (λ columns. goes_next (if k == 0 then None else entry_at board.slots (c.args.row * columns + k - 1))
    (entry_at board.slots (c.args.row * columns + k)))
    (sym c.max_rank-columns.ensures.value)
    ∙ sym c.is_column_in_order.ensures
    ∙ c.if-not-is_column_in_order.false
