-- A walk by equal keys is a walk up to the same boards.
use Rattle.std.specs.Prelude.{nat_eq}
use Rattle.std.specs.Cmp.Lexicographic.{pointwise}
use Rattle.trails.specs.Game.{Game}
use Rattle.game_rules.specs.declared.RuleParts.{RuleParts}
use Rattle.game_rules.specs.Playable.{IsPlayable}
use Rattle.game_rules.specs.Board.{Board}
use Rattle.stock_steps.specs.declared.Step.{Step}
use Rattle.game_rules.specs.Winning.{Won}
use Rattle.game_rules.specs.Belonging.{Belongs}
use Rattle.same_boards.specs.Same.{Same}
use Rattle.dfs_core.specs.Play.{game_of}
use Rattle.dfs_core.proofs.Agree.{Agree}
use Rattle.search_space.specs.Plain.{play_of}
use Rattle.search_space.proofs.Alike.{keys-compared}
use Rattle.search_space.proofs.Reached.{reached-belongs}

-- the game as a search plays it: boards with equal keys count as the same
abbrev pub keyed_game : RuleParts → Game Board Step
keyed_game rules = game_of (play_of rules) (pointwise nat_eq)

pub agrees : (rules : RuleParts) (start : Board) → IsPlayable rules → Belongs rules start
    → Agree (keyed_game rules) (Won rules) (Same rules) start
agrees rules start playable belongs =
    let is = reached-belongs rules (Won rules) (keyed_game rules).Same playable start in
    record {
      wins = λ s reached won. won;
      same = λ s t reached reached'.
          (keys-compared rules s t playable (is s belongs reached) (is t belongs reached')).0;
      same' = λ s t reached reached'.
          (keys-compared rules s t playable (is s belongs reached) (is t belongs reached')).1;
    }
