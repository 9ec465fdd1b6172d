-- Boards that count as the same in a restricted search, and their keys as the search compares them.
use Rattle.std.proofs.Common.{◌≡◌, true}
use Rattle.std.specs.Prelude.{◌↔◌, nat_eq}
use Rattle.std.specs.Cmp.Lexicographic.{pointwise, bytes_decides}
use Rattle.trails.specs.Order.{IsAlike}
use Rattle.trails.specs.Game.{Game}
use Rattle.game_rules.specs.declared.RuleParts.{RuleParts}
use Rattle.game_rules.specs.Playable.{IsPlayable}
use Rattle.game_rules.specs.Board.{Board}
use Rattle.game_rules.specs.Winning.{Won}
use Rattle.game_rules.specs.Belonging.{Belongs}
use Rattle.same_boards.specs.Colours.{SameColours}
use Rattle.same_boards.specs.ColourKeys.{colour_key_bytes}
use Rattle.same_boards.proofs.SameLaws.{Same-refl, Same-sym, Same-trans, SameColours-refl}
use Rattle.same_boards.proofs.SameLaws.{SameColours-sym, SameColours-trans}
use Rattle.same_boards.proofs.ColourKeys.{colour_key-from_same, same-from_colour_key}
use Rattle.stock_steps.specs.declared.Step.{Step}
use Rattle.streamliner.specs.declared.Streamliner.{Streamliner}
use Rattle.streamliner.specs.declared.Streamliner.TheVariants.{AutoFoundations, SuitSymmetry, Both}
use Rattle.dfs_core.specs.Play.{game_of}
use Rattle.dfs_core.proofs.Agree.{Agree}
use Rattle.search_space.specs.Narrow.{narrow_game, NarrowSame}
use Rattle.search_space.specs.NarrowPlay.{narrow_key, narrow_play}
use Rattle.search_space.proofs.Alike.{keys-compared}
use Rattle.search_space.proofs.NarrowReached.{narrow_reached-belongs}

-- counting as the same is an equivalence
pub narrow_game-is_alike : (rules : RuleParts) (way : Streamliner) → IsAlike (narrow_game rules way)
narrow_game-is_alike rules AutoFoundations =
    record { itself = Same-refl rules; back = Same-sym rules; through = Same-trans rules }
narrow_game-is_alike rules SuitSymmetry =
    record { itself = SameColours-refl rules; back = SameColours-sym rules; through = SameColours-trans rules }
narrow_game-is_alike rules Both =
    record { itself = SameColours-refl rules; back = SameColours-sym rules; through = SameColours-trans rules }

colour_keys-compared : (rules : RuleParts) (a b : Board) → IsPlayable rules → Belongs rules a → Belongs rules b
    → (pointwise nat_eq (colour_key_bytes rules a) (colour_key_bytes rules b) ≡ true) ↔ SameColours rules a b
colour_keys-compared rules a b playable belongs belongs' = (
  λ equal. same-from_colour_key rules a b playable belongs belongs'
      ((bytes_decides (colour_key_bytes rules a) (colour_key_bytes rules b)).0 equal),
  λ same. (bytes_decides (colour_key_bytes rules a) (colour_key_bytes rules b)).1 (colour_key-from_same rules a b same),
)

-- keys compare as equal exactly where the boards count as the same
pub narrow_keys-compared : (rules : RuleParts) (way : Streamliner) (a b : Board) → IsPlayable rules
    → Belongs rules a → Belongs rules b
    → (pointwise nat_eq (narrow_key rules way a) (narrow_key rules way b) ≡ true) ↔ NarrowSame rules way a b
narrow_keys-compared rules AutoFoundations a b playable belongs belongs' =
    keys-compared rules a b playable belongs belongs'
narrow_keys-compared rules SuitSymmetry a b playable belongs belongs' =
    colour_keys-compared rules a b playable belongs belongs'
narrow_keys-compared rules Both a b playable belongs belongs' = colour_keys-compared rules a b playable belongs belongs'

-- the game as a restricted search plays it: boards with equal keys count as the same
abbrev pub narrow_keyed_game : RuleParts → Streamliner → Game Board Step
narrow_keyed_game rules way = game_of (narrow_play rules way) (pointwise nat_eq)

-- a walk by equal keys is a walk of the restricted game
pub narrow-agrees : (rules : RuleParts) (way : Streamliner) (start : Board) → IsPlayable rules → Belongs rules start
    → Agree (narrow_keyed_game rules way) (Won rules) (NarrowSame rules way) start
narrow-agrees rules way start playable belongs =
    let is = narrow_reached-belongs rules way (Won rules) (narrow_keyed_game rules way).Same playable start in
    record {
      wins = λ s reached won. won;
      same = λ s t reached reached'.
          (narrow_keys-compared rules way s t playable (is s belongs reached) (is t belongs reached')).0;
      same' = λ s t reached reached'.
          (narrow_keys-compared rules way s t playable (is s belongs reached) (is t belongs reached')).1;
    }
