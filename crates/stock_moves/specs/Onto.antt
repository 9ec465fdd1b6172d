-- The legal carries from the waste to one place.
use Rattle.std.specs.Prelude.{ℕ, List, [], ◌∷◌}
use Rattle.std.specs.List.{filter}
use Rattle.game_rules.specs.declared.RuleParts.{RuleParts}
use Rattle.game_rules.specs.declared.Move.TheVariants.{Carry}
use Rattle.game_rules.specs.declared.Place.{Place}
use Rattle.game_rules.specs.declared.Place.TheVariants.{Tableau, Cell, Waste, Foundation, Slot}
use Rattle.game_rules.specs.Board.{Board}
use Rattle.game_rules.specs.Play.{is_legal_move}
use Rattle.stock_steps.specs.declared.Step.{Step}
use Rattle.stock_steps.specs.Steps.{steps_from}
use Rattle.stock_moves.specs.declared.onto.Kind.{Kind}
use Rattle.stock_moves.specs.declared.onto.Kind.TheVariants.{Foundations, Slots, Piles, Cells}

-- the place of a kind with this number
abbrev pub place_in : Kind → ℕ → Place
place_in Foundations i = Foundation i
place_in Slots i = Slot i
place_in Piles i = Tableau i
place_in Cells i = Cell i

-- the carry from the waste to a place as a step after so many stock moves, if it is legal
abbrev pub steps_onto : RuleParts → Board → ℕ → Place → List Step
steps_onto rules board deals to = steps_from deals (filter (is_legal_move rules board) (Carry Waste to 1 ∷ []))
