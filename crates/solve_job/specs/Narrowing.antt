-- What comes of the restricted search.
use Rattle.std.specs.Prelude.{ℕ, ◌≢◌}
use Rattle.game_rules.specs.declared.RuleParts.{RuleParts}
use Rattle.game_rules.specs.Board.{Board}
use Rattle.search_space.specs.Narrow.{narrow_game}
use Rattle.solve_job.specs.declared.limits.Limits.{Limits}
use Rattle.solve_job.specs.declared.narrow_search.Narrowed.{Narrowed}
use Rattle.solve_job.specs.declared.narrow_search.Narrowed.TheVariants.{Won, Passed}
use Rattle.solve_job.specs.Verdicts.{FindsWin, IsPassed}

-- a win with its line, or none
abbrev pub IsNarrowed : RuleParts → Board → Limits → Narrowed → Type 0
IsNarrowed rules start limits (Won line nodes) =
    (limits.narrow ≢ 0) × FindsWin (narrow_game rules limits.way) rules start limits.cache limits.narrow line nodes
IsNarrowed rules start limits (Passed nodes) = IsPassed rules start limits nodes
