use Rattle.std.proofs.Common.{◌≡◌, ◌<◌, ◌*◌, ◌-◌, ℕ, Bool, true, false, List, take, sym, ◌∙◌, arith}
use Rattle.std.specs.Prelude.{Option}
use Rattle.std.specs.List.{range_with_len}
use Rattle.std.proofs.lemmas.List.Folds.{list_all-map}
use Rattle.card_piles.specs.declared.Card.{Card}
use Rattle.game_rules.specs.Board.{Board}
use Rattle.game_rules.specs.Winning.{row_at, is_in_sequence}
use Rattle.game_rules.proofs.PositionLoops.{list_all-range_more, list_all-range_fails}
use Rattle.game_model.proofs.winning.are_rows_in_order.Goals as goal

pub returns-then-not-is_row_in_order : goal.returns-then-not-is_row_in_order
returns-then-not-is_row_in_order g c =
    let board : Board = g.T.Table.board c.args.table.now in
    let in_order : List (Option Card) → Bool = λ row. is_in_sequence (take (c.args.rules.now.max_rank - 1) row) in
    let p : ℕ → Bool = λ row. in_order (row_at c.args.rules.now board row) in
    let fails : p c.loop-row.row ≡ false = grind arith in
    let inside : c.loop-row.row < 4 * c.args.rules.now.decks = omega
    (arith, c.loop-row-test.true, c.decks-row-end.ensures) in
    sym (
    list_all-map in_order (row_at c.args.rules.now board) (range_with_len 0 (4 * c.args.rules.now.decks))
    ∙ list_all-range_fails p (4 * c.args.rules.now.decks) c.loop-row.row inside fails
    )

pub loop-row-preserved : goal.loop-row-preserved
loop-row-preserved g c =
    let p : ℕ → Bool = λ row. is_in_sequence
    (take (c.args.rules.now.max_rank - 1) (row_at c.args.rules.now (g.T.Table.board c.args.table.now) row)) in
    let holds : p c.loop-row.row ≡ true = grind arith in
    list_all-range_more p c.loop-row.row c.loop-row.invariant holds
