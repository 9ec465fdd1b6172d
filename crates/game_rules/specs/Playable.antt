-- Rules without a conflict. What the program promises does not rest on this page.
use Rattle.std.specs.Prelude.{◌≡◌, ◌≤◌, None}
use Rattle.game_rules.specs.declared.RuleParts.{RuleParts}
use Rattle.game_rules.specs.Conflicts.{first_conflict}

-- rules that a game can be played by
pub record IsPlayable (rules : RuleParts) : Type 0 where
  pub no_conflict : first_conflict rules ≡ None

-- the limits of playable rules that bound what is counted on a board
pub record HasLimits (rules : RuleParts) : Type 0 where
  pub some_deck : 1 ≤ rules.decks
  pub decks : rules.decks ≤ 2
  pub some_rank : 1 ≤ rules.max_rank
  pub max_rank : rules.max_rank ≤ 13
  pub piles : rules.piles ≤ 20
  pub cells : rules.cells ≤ 16
  pub reserve : rules.reserve ≤ 52
  pub stock : rules.stock ≤ 84
