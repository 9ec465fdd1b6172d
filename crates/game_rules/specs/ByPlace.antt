-- Legal carries, place by place.
use Rattle.std.specs.Prelude.{List}
use Rattle.std.specs.List.{filter, flat_map}
use Rattle.game_rules.specs.declared.RuleParts.{RuleParts}
use Rattle.game_rules.specs.declared.Place.{Place}
use Rattle.game_rules.specs.declared.Move.{Move}
use Rattle.game_rules.specs.Board.{Board}
use Rattle.game_rules.specs.Play.{is_legal_move}
use Rattle.game_rules.specs.Order.{carries_between}

-- the legal carries between two places
abbrev pub legal_between : RuleParts → Board → Place → Place → List Move
legal_between rules board to from = filter (is_legal_move rules board) (carries_between rules board to from)

-- the legal carries to a place
abbrev pub legal_to : RuleParts → Board → List Place → Place → List Move
legal_to rules board froms to = flat_map (legal_between rules board to) froms
