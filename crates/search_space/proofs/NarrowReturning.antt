-- What the restricted space before a step is.
use Rattle.std.proofs.Common.{◌≡◌, ℕ, Bool, true, false, List, refl, ap, ◌∙◌}
use Rattle.std.specs.Prelude.{Option, Some, None, IsSome, if◌then◌else◌}
use Rattle.game_rules.specs.declared.RuleParts.{RuleParts}
use Rattle.game_rules.specs.Playable.{IsPlayable}
use Rattle.game_rules.specs.Belonging.{Belongs}
use Rattle.game_rules.specs.Board.{Board}
use Rattle.same_boards.specs.Keys.{key_bytes}
use Rattle.same_boards.specs.ColourKeys.{colour_key_bytes}
use Rattle.streamliner.specs.declared.Streamliner.{Streamliner}
use Rattle.streamliner.specs.Narrow.{is_coarse}
use Rattle.packed_state.specs.Packed.{Linked, board_of}
use Rattle.search_space.specs.declared.going.StepUndo.{StepUndo}
use Rattle.search_space.specs.Undoing.{before_step}
use Rattle.search_space.specs.Plain.{Standing, before_of}
use Rattle.search_space.specs.NarrowPlay.{NarrowStanding, narrow_key, restricted, before_narrow}
use Rattle.search_space.proofs.Returning.{before_of-some, belongs-before}

restricted-some : (way : Streamliner) (o : Option Standing) → IsSome (restricted way o) → IsSome o
restricted-some way None some = some
restricted-some way (Some standing) some = some

-- where the earlier packed board belongs to the rules, the space stood on it
pub before_narrow-some : (rules : RuleParts) (way : Streamliner) (undo : StepUndo) (packed earlier : Linked)
    → IsPlayable rules → Belongs rules (board_of earlier) → before_step undo packed ≡ Some earlier
    → before_narrow undo (record { rules = rules; way = way; packed = packed })
    ≡ Some (record { rules = rules; way = way; packed = earlier })
before_narrow-some rules way undo packed earlier playable belongs e =
    ap (restricted way) (before_of-some rules undo packed earlier playable belongs e)

-- the space came from a board that belongs to the rules
pub narrow_belongs-before : (rules : RuleParts) (way : Streamliner) (undo : StepUndo) (packed earlier : Linked)
    → IsPlayable rules → IsSome (before_narrow undo (record { rules = rules; way = way; packed = packed }))
    → before_step undo packed ≡ Some earlier
    → Belongs rules (board_of earlier)
narrow_belongs-before rules way undo packed earlier playable some e =
    belongs-before rules undo packed earlier playable
    (restricted-some way (before_of undo (record { rules = rules; packed = packed })) some) e

-- the key of a restricted space, by whether its way is coarse
by_test : (b : Bool) (x y : List ℕ) → b ≡ true → x ≡ (if b then x else y)
by_test true x y e = refl
by_test false x y e = cc

by_other : (b : Bool) (x y : List ℕ) → b ≡ false → y ≡ (if b then x else y)
by_other true x y e = cc
by_other false x y e = refl

pub coarse_key : (rules : RuleParts) (way : Streamliner) (board : Board) → is_coarse way ≡ true
    → colour_key_bytes rules board ≡ narrow_key rules way board
coarse_key rules way board e = by_test (is_coarse way) (colour_key_bytes rules board) (key_bytes rules board) e

pub exact_key : (rules : RuleParts) (way : Streamliner) (board : Board) → is_coarse way ≡ false
    → key_bytes rules board ≡ narrow_key rules way board
exact_key rules way board e = by_other (is_coarse way) (colour_key_bytes rules board) (key_bytes rules board) e
