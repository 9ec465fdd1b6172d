-- Parts of verdicts, as their types bound them.
use Rattle.std.specs.Prelude.{ℕ, ◌<◌, ◌^◌, List, length}
use Rattle.std.specs.List.{All}
use Rattle.game_rules.specs.declared.Move.{Move}
use Rattle.line_printer.specs.SmallMoves.{IsSmall}

-- the line and the numbers of a winnable verdict fit their types
pub record Fitting (line : List Move) (nodes narrow_nodes : ℕ) : Type 0 where
  pub moves : All IsSmall line
  pub few : length line < 2 ^ 64
  pub nodes_fit : nodes < 2 ^ 64
  pub narrow_fit : narrow_nodes < 2 ^ 64
