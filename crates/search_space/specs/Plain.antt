-- What the space that a solver searches plays, where it stands, and what it comes back to.
use Rattle.std.specs.Prelude.{ℕ, List, Option, Some, None, if◌then◌else◌}
use Rattle.game_rules.specs.declared.RuleParts.{RuleParts}
use Rattle.game_rules.specs.Board.{Board}
use Rattle.game_rules.specs.Winning.{is_won}
use Rattle.same_boards.specs.Keys.{key_bytes}
use Rattle.stock_steps.specs.declared.Step.{Step}
use Rattle.stock_steps.specs.Steps.{after_step, steps}
use Rattle.packed_state.specs.Packed.{Linked, board_of}
use Rattle.dfs_core.specs.Play.{Play}
use Rattle.search_space.specs.declared.going.StepUndo.{StepUndo}
use Rattle.search_space.specs.Undoing.{before_step}
use Rattle.search_space.specs.Well.{is_well}

-- the steps of each board, the board after a step, the won boards, and the key of each board
abbrev pub play_of : RuleParts → Play Board Step (List ℕ)
play_of rules = record { steps = steps rules; after = after_step rules; won = is_won rules; key = key_bytes rules }

-- the rules that a space plays by, and the packed board on which it stands
pub record Standing : Type 0 where
  pub rules : RuleParts
  pub packed : Linked

-- a packed board that belongs to the rules, as a standing
abbrev pub standing_on : RuleParts → Option Linked → Option Standing
standing_on rules None = None
standing_on rules (Some packed) =
    if is_well rules (board_of packed) then Some (record { rules = rules; packed = packed }) else None

-- the space before a step: on the packed board that the undo gives, where its board belongs to the rules
abbrev pub before_of : StepUndo → Standing → Option Standing
before_of undo standing = standing_on standing.rules (before_step undo standing.packed)
