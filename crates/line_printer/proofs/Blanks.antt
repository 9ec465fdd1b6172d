-- The texts of moves hold no newline, and those of places and numbers no blank.
use Rattle.std.proofs.Common.{◌≡◌, ◌<◌, ◌≤◌, ◌+◌, ◌%◌, ◌/◌, ◌^◌, ◌==◌, ℕ, List, [], ◌∷◌, ◌++◌, ◌&&◌, nat_lt, Bool, true}
use Rattle.std.proofs.Common.{false, decimal, refl, arith}
use Rattle.std.specs.List.{All}
use Rattle.std.proofs.lemmas.Bool.{ne_eqb, ltb-true}
use Rattle.std.proofs.lemmas.Fmt.{decimal_by_steps}
use Rattle.std.proofs.lemmas.List.Elements.{All-nil, All-cons, All-append, All-weaker}
use Rattle.game_rules.specs.declared.Place.{Place}
use Rattle.game_rules.specs.declared.Place.TheVariants.{Tableau, Cell, Reserve, Waste, Foundation, Hole, Slot}
use Rattle.game_rules.specs.Play.{number_of_place}
use Rattle.line_printer.specs.MoveText.{place_text}

-- each byte is above the blank's
abbrev pub IsVisible : List ℕ → Type 0
IsVisible text = All (λ b. 33 ≤ b) text

one : (b : ℕ) → 33 ≤ b → IsVisible (b ∷ [])
one b h = All-cons (λ b. 33 ≤ b) b [] h (All-nil (λ b. 33 ≤ b))

pub IsVisible-decimal : (n : ℕ) → n < 2 ^ 64 → IsVisible (decimal n)
IsVisible-decimal n small =
    decimal_by_steps (λ m ds. IsVisible ds)
    (λ m below. one (48 + m) (omega arith))
    (λ m ds above h. All-append (λ b. 33 ≤ b) ds ((48 + m % 10) ∷ []) h (one (48 + m % 10) (omega arith)))
    n small

lettered : (letter n : ℕ) → 33 ≤ letter → n < 256 → IsVisible (letter ∷ decimal n)
lettered letter n high small = All-cons (λ b. 33 ≤ b) letter (decimal n) high (IsVisible-decimal n (omega arith))

pub IsVisible-place : (place : Place) → number_of_place place < 256 → IsVisible (place_text place)
IsVisible-place (Tableau i) small = lettered 116 i (omega arith) small
IsVisible-place (Cell i) small = lettered 99 i (omega arith) small
IsVisible-place (Reserve i) small = lettered 114 i (omega arith) small
IsVisible-place Waste small = one 119 (omega arith)
IsVisible-place (Foundation i) small = lettered 102 i (omega arith) small
IsVisible-place Hole small = one 104 (omega arith)
IsVisible-place (Slot i) small = lettered 115 i (omega arith) small

-- no byte is this one
pub no_byte : (low c : ℕ) (text : List ℕ) → c < low → All (λ b. low ≤ b) text → All (λ b. (b == c) ≡ false) text
no_byte low c text less high = All-weaker (λ b. low ≤ b) (λ b. (b == c) ≡ false)
    (λ b h. ne_eqb b c (λ e. omega arith)) text high

pub and_both : (a b : Bool) → (a && b) ≡ true → (a ≡ true) × (b ≡ true)
and_both true true e = (refl, refl)
and_both true false e = absurd (cc)
and_both false b e = absurd (cc)

-- whether each byte is above a bound
abbrev pub are_above : ℕ → List ℕ → Bool
are_above low [] = true
are_above low (b ∷ text) = nat_lt low b && are_above low text

pub above_by_test : (low : ℕ) (text : List ℕ) → are_above low text ≡ true → All (λ b. low + 1 ≤ b) text
above_by_test low [] e = All-nil (λ b. low + 1 ≤ b)
above_by_test low (b ∷ text) e =
    let both = and_both (nat_lt low b) (are_above low text) e in
    let here = ltb-true low b both.0 in
    All-cons (λ b. low + 1 ≤ b) b text (omega (arith, here)) (above_by_test low text both.1)
