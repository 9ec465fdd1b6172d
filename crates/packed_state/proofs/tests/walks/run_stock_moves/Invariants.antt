use Rattle.std.proofs.Common.{◌≡◌}
use Rattle.game_rules.specs.Belonging.{Belongs}
use Rattle.game_rules.specs.StockMoves.{after_stock_moves}
use Rattle.game_rules.specs.NextByStock.{HasStockMoves}
use Rattle.packed_state.specs.Packed.{board_of}
use Rattle.packed_state.proofs.tests.walks.run_stock_moves.Given as goal

abbrev pub invariant-loop-made : goal.invariant-loop-made
invariant-loop-made l =
    (l.packed ≡ l.initial.packed)
    × Belongs l.rules (board_of l.single)
    × (board_of l.single ≡ after_stock_moves l.rules l.made (board_of l.packed))
    × HasStockMoves l.rules l.made (board_of l.packed)
