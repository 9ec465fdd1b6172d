-- Runs, followed from the top of a pile.
use Rattle.std.specs.Prelude.{ℕ, ◌-◌, min, List, length, Option, Some, None, if◌then◌else◌}
use Rattle.card_piles.specs.declared.Card.{Card}
use Rattle.card_piles.specs.Builds.{builds_on}
use Rattle.game_rules.specs.declared.RuleParts.{RuleParts}
use Rattle.game_rules.specs.Rules.{moves_groups}
use Rattle.game_rules.specs.Board.{Pile, top_of}

-- the card, where the one before it builds on it
abbrev pub built_on : RuleParts → Card → Option Card → Option Card
built_on rules upper None = None
built_on rules upper (Some lower) =
    if builds_on rules.group_build rules.wrap rules.max_rank upper lower then Some lower else None

-- the next card of a run downwards
abbrev pub next_down : RuleParts → List Card → Card → Option Card
next_down rules left upper = built_on rules upper (top_of left)

-- how many cards of a pile are given at most, be they a run
abbrev pub most_given : RuleParts → Pile → ℕ
most_given rules pile =
    if moves_groups rules.groups then length pile.cards - pile.face_down else min (length pile.cards - pile.face_down) 1
