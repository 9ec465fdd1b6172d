-- The first of a list in order that passes a test, and the first safe move.
use Rattle.std.proofs.Common.{inl, inr, ◌≡◌, ℕ, suc, Bool, true, List, [], ◌∷◌, refl, ap, sym, ◌∙◌, subst, arith}
use Rattle.std.specs.Prelude.{IsTrue, Some, None}
use Rattle.std.specs.List.{find, AllPairs, Contains}
use Rattle.std.proofs.lemmas.Bool.{cases_Bool, cond-true, cond-false}
use Rattle.game_rules.specs.declared.RuleParts.{RuleParts}
use Rattle.game_rules.specs.declared.Move.{Move}
use Rattle.game_rules.specs.Board.{Board}
use Rattle.game_rules.specs.Order.{legal_moves}
use Rattle.game_rules.specs.Before.{Before}
use Rattle.game_rules.proofs.MovesListed.{Contains-there, Contains-cases, legal_moves-exact}
use Rattle.game_rules.proofs.MovesInOrder.{legal_moves-in_order}
use Rattle.safe_moves.specs.Safe.{is_safe, first_safe}
use Rattle.safe_moves.proofs.SafeListed.{legal-from_safe}

-- what is found passes the test, and stands in the list
pub find-passes : {A : Type 0} (p : A → Bool) (xs : List A) (x : A) → find p xs ≡ Some x → p x ≡ true
find-passes p [] x h = cc
find-passes p (y ∷ ys) x h =
    elim (cases_Bool (p y)) [
      | inl here ↦ (let e = cond-true (p y) (Some y) (find p ys) here in cc)
      | inr later ↦ find-passes p ys x (sym (cond-false (p y) (Some y) (find p ys) later) ∙ h)
    ]

pub find-listed : {A : Type 0} (p : A → Bool) (xs : List A) (x : A) → find p xs ≡ Some x → Contains xs x
find-listed p [] x h = cc
find-listed {A = A} p (y ∷ ys) x h =
    elim (cases_Bool (p y)) [
      | inl here ↦ (
          let e = cond-true (p y) (Some y) (find p ys) here in
          let same : y ≡ x = cc in
          (0, omega arith, same))
      | inr later ↦ Contains-there x y ys (find-listed p ys x (sym (cond-false (p y) (Some y) (find p ys) later) ∙ h))
    ]

find-nothing : {A : Type 0} (p : A → Bool) (xs : List A) → ((x : A) → p x ≡ true → ⊥) → find p xs ≡ None
find-nothing p [] h = refl
find-nothing p (y ∷ ys) h =
    elim (cases_Bool (p y)) [
      | inl here ↦ absurd (h y here)
      | inr later ↦ cond-false (p y) (Some y) (find p ys) later ∙ find-nothing p ys h
    ]

-- the first of a list in order stands before each other
head-before : {A : Type 0} (R : A → A → Type 0) (x y : A) (ys : List A) → AllPairs R (y ∷ ys) → Contains ys x → R y x
head-before {A = A} R x y ys pairs h =
    let k : ℕ = h.0 in
    subst (λ (z : A). R y z) h.2 (pairs 0 (suc k) x (omega arith) (omega (arith, h.1)))

tail-pairs : {A : Type 0} (R : A → A → Type 0) (y : A) (ys : List A) → AllPairs R (y ∷ ys) → AllPairs R ys
tail-pairs R y ys pairs i j d l m = pairs (suc i) (suc j) d (omega (arith, l)) (omega (arith, m))

find-first : {A : Type 0} (R : A → A → Type 0) (p : A → Bool) (xs : List A) (x : A) → AllPairs R xs
    → Contains xs x → p x ≡ true
    → ((y : A) → p y ≡ true → R y x → ⊥) → find p xs ≡ Some x
find-first R p [] x pairs here h none = absurd (omega (arith, here.1))
find-first R p (y ∷ ys) x pairs here h none =
    elim (cases_Bool (p y)) [
      | inl passes ↦ elim (Contains-cases x y ys here) [
        | inl same ↦ cond-true (p y) (Some y) (find p ys) passes ∙ ap Some same
        | inr rest ↦ absurd (none y passes (head-before R x y ys pairs rest))
      ]
      | inr fails ↦ elim (Contains-cases x y ys here) [
        | inl same ↦ (let e = ap p same in cc)
        | inr rest ↦ cond-false (p y) (Some y) (find p ys) fails
            ∙ find-first R p ys x (tail-pairs R y ys pairs) rest h none
      ]
    ]

pub first_safe-found : (rules : RuleParts) (board : Board) (move : Move) → IsTrue (is_safe rules board move)
    → ((other : Move) → IsTrue (is_safe rules board other) → Before other move → ⊥) → first_safe rules board ≡ Some move
first_safe-found rules board move safe none =
    find-first Before (is_safe rules board) (legal_moves rules board) move (legal_moves-in_order rules board)
    ((legal_moves-exact rules board move).1 (legal-from_safe rules board move safe)) safe none

pub first_safe-none : (rules : RuleParts) (board : Board) → ((move : Move) → IsTrue (is_safe rules board move) → ⊥)
    → first_safe rules board ≡ None
first_safe-none rules board none = find-nothing (is_safe rules board) (legal_moves rules board) none
