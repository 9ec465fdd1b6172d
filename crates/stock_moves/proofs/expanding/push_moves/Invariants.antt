use Rattle.std.proofs.Common.{◌≡◌, ◌++◌, length}
use Rattle.game_rules.specs.StockMoves.{after_stock_moves}
use Rattle.packed_state.specs.Packed.{board_of}
use Rattle.stock_steps.specs.Steps.{stock_moves}
use Rattle.stock_moves.proofs.expanding.push_moves.Given as goal

abbrev pub invariant-loop-made : goal.invariant-loop-made
invariant-loop-made l =
    (l.out.items ≡ l.initial.out.items ++ stock_moves l.rules l.made (board_of l.before))
    × (l.stock ≡ length (after_stock_moves l.rules l.made (board_of l.before)).stock)
