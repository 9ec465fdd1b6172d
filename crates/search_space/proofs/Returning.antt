-- What the space before a step is.
use Rattle.std.proofs.Common.{◌≡◌, Bool, true, false, refl, ap, subst, ◌∙◌}
use Rattle.std.specs.Prelude.{Option, Some, None, IsSome, if◌then◌else◌}
use Rattle.game_rules.specs.declared.RuleParts.{RuleParts}
use Rattle.game_rules.specs.Playable.{IsPlayable}
use Rattle.game_rules.specs.Belonging.{Belongs}
use Rattle.game_rules.proofs.Limits.{limits_of}
use Rattle.packed_state.specs.Packed.{Linked, board_of}
use Rattle.search_space.specs.declared.going.StepUndo.{StepUndo}
use Rattle.search_space.specs.Undoing.{before_step}
use Rattle.search_space.specs.Plain.{Standing, standing_on, before_of}
use Rattle.search_space.specs.Well.{is_well}
use Rattle.search_space.proofs.WellBoards.{belongs-of_well, is_well-of_belongs}

if-true : {A : Type 0} (b : Bool) (x y : A) → b ≡ true → (if b then x else y) ≡ x
if-true true x y h = refl
if-true false x y h = cc

if-some : {A : Type 0} (b : Bool) (x : A) → IsSome (if b then Some x else None) → b ≡ true
if-some true x h = refl
if-some false x h = cc

-- where the earlier packed board belongs to the rules, the space stood on it
pub before_of-some : (rules : RuleParts) (undo : StepUndo) (packed earlier : Linked) → IsPlayable rules
    → Belongs rules (board_of earlier) → before_step undo packed ≡ Some earlier
    → before_of undo (record { rules = rules; packed = packed }) ≡ Some (record { rules = rules; packed = earlier })
before_of-some rules undo packed earlier playable belongs e =
    ap (standing_on rules) e
    ∙ if-true (is_well rules (board_of earlier)) (Some (record { rules = rules; packed = earlier })) None
    (is_well-of_belongs rules (board_of earlier) (limits_of rules playable) belongs)

-- the space came from a board that belongs to the rules
pub belongs-before : (rules : RuleParts) (undo : StepUndo) (packed earlier : Linked) → IsPlayable rules
    → IsSome (before_of undo (record { rules = rules; packed = packed })) → before_step undo packed ≡ Some earlier
    → Belongs rules (board_of earlier)
belongs-before rules undo packed earlier playable some e =
    let standing : Standing = record { rules = rules; packed = earlier } in
    belongs-of_well rules (board_of earlier) (limits_of rules playable)
    (if-some (is_well rules (board_of earlier)) standing
    (subst (λ (o : Option Linked). IsSome (standing_on rules o)) e some))
