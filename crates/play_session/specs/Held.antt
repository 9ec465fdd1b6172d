-- A session as contracts see it, and what it means.
use Rattle.std.specs.Prelude.{List, reverse}
use Rattle.game_rules.specs.declared.RuleParts.{RuleParts}
use Rattle.game_rules.specs.Board.{Board}
use Rattle.game_rules.specs.Winning.{Line}
use Rattle.game_rules.specs.Belonging.{Belongs}
use Rattle.packed_state.specs.Packed.{Linked, board_of}
use Rattle.play_session.specs.Moves.{Moves, board_after}

-- a session: its rules, its start and its moves; its packed board, and those before each standing move, the latest first
pub record Held : Type 0 where
  pub rules : RuleParts
  pub start : Board
  pub moves : Moves
  pub packed : Linked
  pub earlier : List Linked

-- the board that the standing moves give from the start
abbrev pub board : Held → Board
board s = board_after s.rules s.start s.moves.standing

-- the standing moves lead from the start to the packed board, and those taken back are legal in turn, from the last on
pub record Stands (s : Held) : Type 0 where
  pub belongs : Belongs s.rules s.start
  pub line : Line s.rules s.start s.moves.standing (board_of s.packed)
  pub end : Board
  pub again : Line s.rules (board_of s.packed) (reverse s.moves.undone) end
