use Rattle.std.proofs.Common.{◌≡◌, ◌++◌, drop}
use Rattle.game_rules.specs.Belonging.{Belongs}
use Rattle.packed_state.specs.Packed.{board_of}
use Rattle.stock_steps.specs.Steps.{expand_trail}
use Rattle.stock_steps.specs.Making.{CanAllBeMade}
use Rattle.solve_job.proofs.trail_line.line_of.Given as goal

abbrev pub invariant-loop-step : goal.invariant-loop-step
invariant-loop-step l =
    Belongs l.rules (board_of l.packed)
    × CanAllBeMade l.rules (board_of l.packed) (drop l.step-index l.trail)
    × (l.moves.items ++ expand_trail l.rules (board_of l.packed)
    (drop l.step-index l.trail) ≡ expand_trail l.rules l.start l.trail)
