-- The game of a restricted search, which may lose wins.
use Rattle.std.specs.Prelude.{List, MatchBool}
use Rattle.trails.specs.Game.{Game}
use Rattle.game_rules.specs.declared.RuleParts.{RuleParts}
use Rattle.game_rules.specs.Board.{Board}
use Rattle.game_rules.specs.Order.{legal_moves}
use Rattle.game_rules.specs.Winning.{Won}
use Rattle.same_boards.specs.Same.{Same}
use Rattle.same_boards.specs.Colours.{SameColours}
use Rattle.stock_steps.specs.declared.Step.{Step}
use Rattle.stock_steps.specs.Steps.{after_step, forced_or, steps}
use Rattle.streamliner.specs.declared.Streamliner.{Streamliner}
use Rattle.streamliner.specs.Narrow.{narrow, is_coarse}

-- the first carry to a foundation among all legal moves alone, if the way takes it and there is one, else the steps
abbrev pub narrow_steps : RuleParts → Streamliner → Board → List Step
narrow_steps rules way board = forced_or (narrow way (legal_moves rules board)) (steps rules board)

-- which boards count as the same: those that are the same, or the same up to the suits of a colour
abbrev pub NarrowSame : RuleParts → Streamliner → Board → Board → Type 0
NarrowSame rules way a b = MatchBool (is_coarse way) (SameColours rules a b) (Same rules a b)

-- the game of a restricted search
abbrev pub narrow_game : RuleParts → Streamliner → Game Board Step
narrow_game rules way =
    record { steps = narrow_steps rules way; after = after_step rules; Won = Won rules; Same = NarrowSame rules way }
