-- What a restricted search leaves out.
use Rattle.std.specs.Prelude.{Bool, true, false, List, Option, None, if◌then◌else◌}
use Rattle.std.specs.List.{find}
use Rattle.game_rules.specs.declared.Move.{Move}
use Rattle.game_rules.specs.declared.Move.TheVariants.{Carry}
use Rattle.game_rules.specs.declared.Place.TheVariants.{Foundation}
use Rattle.streamliner.specs.declared.Streamliner.{Streamliner}
use Rattle.streamliner.specs.declared.Streamliner.TheVariants.{AutoFoundations, SuitSymmetry, Both}

-- whether the move is a carry to a foundation
abbrev pub is_carry_home : Move → Bool
is_carry_home (Carry from (Foundation f) count) = true
is_carry_home _ = false

-- whether a carry to a foundation is taken alone
abbrev pub is_narrow : Streamliner → Bool
is_narrow AutoFoundations = true
is_narrow SuitSymmetry = false
is_narrow Both = true

-- whether boards that are the same up to the suits of a colour count as the same
abbrev pub is_coarse : Streamliner → Bool
is_coarse AutoFoundations = false
is_coarse SuitSymmetry = true
is_coarse Both = true

-- the first carry to a foundation among the moves, if it is taken alone
abbrev pub narrow : Streamliner → List Move → Option Move
narrow way moves = if is_narrow way then find is_carry_home moves else None
