-- Boards that are the same, and their keys as a search compares them.
use Rattle.std.proofs.Common.{◌≡◌, true}
use Rattle.std.specs.Prelude.{◌↔◌, nat_eq}
use Rattle.std.specs.Cmp.Lexicographic.{pointwise, bytes_decides}
use Rattle.trails.specs.Order.{IsAlike}
use Rattle.game_rules.specs.declared.RuleParts.{RuleParts}
use Rattle.game_rules.specs.Playable.{IsPlayable}
use Rattle.game_rules.specs.Board.{Board}
use Rattle.game_rules.specs.Belonging.{Belongs}
use Rattle.same_boards.specs.Same.{Same}
use Rattle.same_boards.specs.Keys.{key_bytes}
use Rattle.same_boards.proofs.SameLaws.{Same-refl, Same-sym, Same-trans}
use Rattle.same_boards.proofs.SameKeys.{key-from_same}
use Rattle.same_boards.proofs.KeysSame.{same-from_key}
use Rattle.search_space.specs.Game.{plain_game}

-- being the same is an equivalence
pub plain_game-is_alike : (rules : RuleParts) → IsAlike (plain_game rules)
plain_game-is_alike rules = record { itself = Same-refl rules; back = Same-sym rules; through = Same-trans rules }

-- keys compare as equal exactly where the boards are the same
pub keys-compared : (rules : RuleParts) (a b : Board) → IsPlayable rules → Belongs rules a → Belongs rules b
    → (pointwise nat_eq (key_bytes rules a) (key_bytes rules b) ≡ true) ↔ Same rules a b
keys-compared rules a b playable belongs belongs' = (
  λ equal. same-from_key rules a b playable belongs belongs'
      ((bytes_decides (key_bytes rules a) (key_bytes rules b)).0 equal),
  λ same. (bytes_decides (key_bytes rules a) (key_bytes rules b)).1 (key-from_same rules a b same),
)
