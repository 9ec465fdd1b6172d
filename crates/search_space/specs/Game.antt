-- The game that a verdict speaks of.
use Rattle.trails.specs.Game.{Game}
use Rattle.game_rules.specs.declared.RuleParts.{RuleParts}
use Rattle.game_rules.specs.Board.{Board}
use Rattle.game_rules.specs.Winning.{Won}
use Rattle.same_boards.specs.Same.{Same}
use Rattle.stock_steps.specs.declared.Step.{Step}
use Rattle.stock_steps.specs.Steps.{after_step, steps}

-- The steps of a board are its first safe move alone, if it has one, else its legal moves in the order of moves,
-- where stock moves to the waste are joined with the carry from the waste that follows them. Boards that differ in
-- the order of like places alone count as the same.
abbrev pub plain_game : RuleParts → Game Board Step
plain_game rules = record { steps = steps rules; after = after_step rules; Won = Won rules; Same = Same rules }
