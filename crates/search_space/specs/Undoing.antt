-- What the undo of a step and a packed board determine together.
use Rattle.std.specs.Prelude.{Option, Some, None}
use Rattle.packed_state.specs.Packed.{Linked}
use Rattle.packed_state.specs.declared.stock.StockUndo.{StockUndo}
use Rattle.packed_state.specs.StockRuns.{before_run}
use Rattle.packed_state.specs.Undoing.{before}
use Rattle.search_space.specs.declared.going.StepUndo.{StepUndo}

-- the packed board before stock moves, if there is one after them
abbrev pub before_stock : StockUndo → Option Linked → Option Linked
before_stock undo None = None
before_stock undo (Some packed) = before_run undo packed

-- the packed board before a step: that before the stock moves that led to the one before the last move
abbrev pub before_step : StepUndo → Linked → Option Linked
before_step undo packed = before_stock undo.stock (before undo.last packed)
