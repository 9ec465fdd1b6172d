use Rattle.std.proofs.Common.{◌≡◌, ◌++◌, ◌+◌, ◌-◌, ◌<◌}
use Rattle.game_rules.specs.Belonging.{Belongs}
use Rattle.game_rules.specs.StockMoves.{after_stock_moves}
use Rattle.packed_state.specs.declared.stock.StockUndo.{StockUndo}
use Rattle.packed_state.specs.Packed.{board_of}
use Rattle.packed_state.specs.StockRuns.{before_run}
use Rattle.stock_moves.proofs.Going.{Underway, steps_upto}
use Rattle.stock_moves.proofs.listing.list_along.Given as goal

abbrev pub invariant-loop-packed : goal.invariant-loop-packed
invariant-loop-packed l =
    Underway l.rules (board_of l.fn.packed) l.deals l.first l.emptied
    × (board_of l.packed ≡ after_stock_moves l.rules l.deals (board_of l.fn.packed))
    × ((undo : StockUndo) → before_run undo l.packed ≡ before_run undo l.fn.packed)
    × Belongs l.rules (board_of l.packed)
    × (l.out.items ≡ l.fn.out.items ++ steps_upto l.rules (board_of l.fn.packed) (l.deals + 1))
    × (l.deals < 8500)

abbrev pub decreases-loop-packed : goal.decreases-loop-packed
decreases-loop-packed l = 8500 - l.deals
