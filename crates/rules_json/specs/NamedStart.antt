-- Words that name the start of the hole. What the program promises does not rest on this page.
use Rattle.std.specs.Prelude.{◌≡◌, Some}
use Rattle.game_rules.specs.declared.Goal.{Goal}
use Rattle.game_rules.specs.declared.Goal.TheVariants.{Foundations, Hole, Sequences}
use Rattle.rules_json.specs.Words.{start_named, start_word}

-- the word of the hole's start names it: its card has a rank
abbrev pub HasNamedStart : Goal → Type 0
HasNamedStart (Foundations base started take_back complete_runs) = Unit {0}
HasNamedStart (Hole wrap start) = start_named (start_word start) ≡ Some start
HasNamedStart Sequences = Unit {0}
