-- Moves whose numbers are small. What the program promises does not rest on this page.
use Rattle.std.specs.Prelude.{◌<◌}
use Rattle.game_rules.specs.Play.{number_of_place}
use Rattle.game_rules.specs.declared.Move.{Move}
use Rattle.game_rules.specs.declared.Move.TheVariants.{Carry, Deal, Redeal}

-- the numbers of a move are from 0 to 255, as those of every `Move` are
abbrev pub IsSmall : Move → Type 0
IsSmall (Carry from to count) = (number_of_place from < 256) × (number_of_place to < 256) × (count < 256)
IsSmall Deal = Unit {0}
IsSmall Redeal = Unit {0}
