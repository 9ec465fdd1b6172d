-- A board with no carry to a foundation has no safe move.
use Rattle.std.proofs.Common.{inl, inr, ◌≡◌, ℕ, Bool, true, false, List, [], ◌∷◌, refl, ap, sym, ◌∙◌}
use Rattle.std.specs.Prelude.{Option, Some, None, ◌&&◌, ◌==◌}
use Rattle.std.specs.List.{find, list_all}
use Rattle.std.proofs.lemmas.Bool.{cases_Bool, cond-true, cond-false}
use Rattle.game_rules.specs.declared.RuleParts.{RuleParts}
use Rattle.game_rules.specs.declared.Move.{Move}
use Rattle.game_rules.specs.declared.Move.TheVariants.{Carry, Deal, Redeal}
use Rattle.game_rules.specs.declared.Place.{Place}
use Rattle.game_rules.specs.declared.Place.TheVariants.{Tableau, Cell, Reserve, Waste, Foundation, Hole, Slot}
use Rattle.game_rules.specs.Board.{Board}
use Rattle.game_rules.specs.Order.{legal_moves}
use Rattle.game_rules.proofs.Limits.{both}
use Rattle.safe_moves.specs.Safe.{first_safe, is_safe, is_foundation}
use Rattle.stock_steps.specs.Steps.{forced_or, free_steps, steps}
use Rattle.streamliner.specs.Narrow.{is_carry_home}

home-of : (from to : Place) (count : ℕ) → is_foundation to ≡ true → is_carry_home (Carry from to count) ≡ true
home-of from (Tableau i) count h = cc
home-of from (Cell i) count h = cc
home-of from (Reserve i) count h = cc
home-of from Waste count h = cc
home-of from (Foundation f) count h = refl
home-of from Hole count h = cc
home-of from (Slot i) count h = cc

safe-is_home : (rules : RuleParts) (board : Board) (move : Move) → is_safe rules board move ≡ true
    → is_carry_home move ≡ true
safe-is_home rules board (Carry from to count) h =
    let to_home = both _ _ h in
    home-of from to count (both _ (is_foundation to) to_home.0).1
safe-is_home rules board Deal h = cc
safe-is_home rules board Redeal h = cc

find-none : (p q : Move → Bool) (moves : List Move) → ((move : Move) → q move ≡ true → p move ≡ true)
    → find p moves ≡ None → find q moves ≡ None
find-none p q [] implies none = refl
find-none p q (move ∷ moves) implies none =
    elim (cases_Bool (p move)) [
      | inl here ↦ (let found = cond-true (p move) (Some move) (find p moves) here in cc)
      | inr later ↦ elim (cases_Bool (q move)) [
        | inl safe ↦ (let home = implies move safe in cc)
        | inr other ↦
            cond-false (q move) (Some move) (find q moves) other
            ∙ find-none p q moves implies (sym (cond-false (p move) (Some move) (find p moves) later) ∙ none)
      ]
    ]

-- then the steps are the free ones
pub steps-free : (rules : RuleParts) (board : Board) → find is_carry_home (legal_moves rules board) ≡ None
    → steps rules board ≡ free_steps rules board
steps-free rules board none =
    let no_safe : first_safe rules board ≡ None = find-none is_carry_home (is_safe rules board)
    (legal_moves rules board) (safe-is_home rules board) none in
    ap (λ (forced : Option Move). forced_or forced (free_steps rules board)) no_safe
