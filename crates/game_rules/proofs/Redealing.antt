-- Each redeal of a line takes one from those that are left.
use Rattle.std.proofs.Common.{◌≡◌, ℕ, ◌+◌, ◌-◌, ◌<◌, ◌≤◌, Bool, true, false, ◌&&◌, ◌||◌, List, [], ◌∷◌, refl, ap, sym, ◌∙◌}
use Rattle.std.proofs.Common.{arith, not}
use Rattle.std.specs.Prelude.{IsTrue, nat_lt, if◌then◌else◌}
use Rattle.std.proofs.lemmas.Bool.{ltb-true}
use Rattle.card_piles.specs.declared.Card.{Card}
use Rattle.game_rules.specs.declared.RuleParts.{RuleParts}
use Rattle.game_rules.specs.declared.Place.{Place}
use Rattle.game_rules.specs.declared.Place.TheVariants.{Tableau, Cell, Reserve, Waste, Foundation, Hole, Slot}
use Rattle.game_rules.specs.declared.Move.{Move}
use Rattle.game_rules.specs.declared.Move.TheVariants.{Carry, Deal, Redeal}
use Rattle.game_rules.specs.declared.Target.{Target}
use Rattle.game_rules.specs.declared.Target.TheVariants.{ToWaste, ToTableau, ToHole}
use Rattle.game_rules.specs.Rules.{deals_to_waste, is_unlimited}
use Rattle.game_rules.specs.Board.{Board}
use Rattle.game_rules.specs.Taking.{without, taken}
use Rattle.game_rules.specs.Putting.{with_cards}
use Rattle.game_rules.specs.Play.{is_empty, after, after_deal_to}
use Rattle.game_rules.specs.Winning.{Line}
use Rattle.game_rules.specs.Redealing.{redeals_in}

-- neither taking nor putting cards changes how many redeals are left
left-without : (rules : RuleParts) (board : Board) (from : Place) (count : ℕ)
    → (without rules board from count).redeals_left ≡ board.redeals_left
left-without rules board (Tableau i) count = refl
left-without rules board (Cell i) count = refl
left-without rules board (Reserve i) count = refl
left-without rules board Waste count = refl
left-without rules board (Foundation f) count = refl
left-without rules board Hole count = refl
left-without rules board (Slot i) count = refl

left-with : (board : Board) (to : Place) (cards : List Card)
    → (with_cards board to cards).redeals_left ≡ board.redeals_left
left-with board (Tableau i) cards = refl
left-with board (Cell i) cards = refl
left-with board (Reserve i) cards = refl
left-with board Waste cards = refl
left-with board (Foundation f) cards = refl
left-with board Hole cards = refl
left-with board (Slot i) cards = refl

-- nor does a deal
left-deal : (target : Target) (rules : RuleParts) (board : Board)
    → (after_deal_to target rules board).redeals_left ≡ board.redeals_left
left-deal ToWaste rules board = refl
left-deal ToTableau rules board = refl
left-deal ToHole rules board = refl

-- a redeal that is not unlimited needs one that is left
some_left : (a b c u : Bool) (n : ℕ) → IsTrue (a && b && c && (u || nat_lt 0 n)) → u ≡ false → 0 < n
some_left true true true false n h e = ltb-true 0 n h
some_left true true true true n h e = cc
some_left true true false u n h e = cc
some_left true false c u n h e = cc
some_left false b c u n h e = cc

fewer : (u : Bool) (n : ℕ) → u ≡ false → 0 < n → 1 + (if u then n else n - 1) ≡ n
fewer false n e some = omega (arith, some)
fewer true n e some = cc

pub line_redeals : (rules : RuleParts) (board : Board) (moves : List Move) (end : Board)
    → is_unlimited rules.redeals ≡ false → Line rules board moves end
    → redeals_in moves + end.redeals_left ≡ board.redeals_left
line_redeals rules board [] end limited line =
    let same = ap (λ (b : Board). b.redeals_left) line in omega (arith, same)
line_redeals rules board (Carry from to count ∷ moves) end limited line =
    line_redeals rules (after rules board (Carry from to count)) moves end limited line.1
    ∙ left-with (without rules board from count) to (taken rules board from count)
    ∙ left-without rules board from count
line_redeals rules board (Deal ∷ moves) end limited line =
    line_redeals rules (after rules board Deal) moves end limited line.1 ∙ left-deal rules.target rules board
line_redeals rules board (Redeal ∷ moves) end limited line =
    let rest = line_redeals rules (after rules board Redeal) moves end limited line.1 in
    let some = some_left (deals_to_waste rules.target) (is_empty board.stock) (not (is_empty board.waste))
    (is_unlimited rules.redeals) board.redeals_left line.0 limited in
    let one = fewer (is_unlimited rules.redeals) board.redeals_left limited some in
    omega (arith, rest, one)
