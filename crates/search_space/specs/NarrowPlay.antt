-- What a restricted space plays, where it stands, and what it comes back to.
use Rattle.std.specs.Prelude.{ℕ, List, Option, Some, None, if◌then◌else◌}
use Rattle.game_rules.specs.declared.RuleParts.{RuleParts}
use Rattle.game_rules.specs.Board.{Board}
use Rattle.game_rules.specs.Winning.{is_won}
use Rattle.same_boards.specs.Keys.{key_bytes}
use Rattle.same_boards.specs.ColourKeys.{colour_key_bytes}
use Rattle.stock_steps.specs.declared.Step.{Step}
use Rattle.stock_steps.specs.Steps.{after_step}
use Rattle.streamliner.specs.declared.Streamliner.{Streamliner}
use Rattle.streamliner.specs.Narrow.{is_coarse}
use Rattle.packed_state.specs.Packed.{Linked}
use Rattle.dfs_core.specs.Play.{Play}
use Rattle.search_space.specs.declared.going.StepUndo.{StepUndo}
use Rattle.search_space.specs.Narrow.{narrow_steps}
use Rattle.search_space.specs.Plain.{Standing, before_of}

-- the key by which a restricted search knows a board
abbrev pub narrow_key : RuleParts → Streamliner → Board → List ℕ
narrow_key rules way board = if is_coarse way then colour_key_bytes rules board else key_bytes rules board

-- the steps of each board, the board after a step, the won boards, and the key of each board
abbrev pub narrow_play : RuleParts → Streamliner → Play Board Step (List ℕ)
narrow_play rules way =
    record { steps = narrow_steps rules way; after = after_step rules; won = is_won rules; key = narrow_key rules way }

-- the rules that a space plays by, how it is restricted, and the packed board on which it stands
pub record NarrowStanding : Type 0 where
  pub rules : RuleParts
  pub way : Streamliner
  pub packed : Linked

-- a standing that is restricted in this way
abbrev pub restricted : Streamliner → Option Standing → Option NarrowStanding
restricted way None = None
restricted way (Some standing) = Some (record { rules = standing.rules; way = way; packed = standing.packed })

-- the space before a step: where a space with no restriction would stand, in the same way
abbrev pub before_narrow : StepUndo → NarrowStanding → Option NarrowStanding
before_narrow undo s = restricted s.way (before_of undo (record { rules = s.rules; packed = s.packed }))
