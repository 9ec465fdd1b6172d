-- The number of a text is the one whose decimal text it is.
use Rattle.std.proofs.Common.{◌≡◌, ◌<◌, ◌^◌, ◌&&◌, ℕ, List, Bool, true, false, cond, nat_lt, decimal, Some, None}
use Rattle.std.proofs.Common.{Option, refl, ap, sym, ◌∙◌, arith}
use Rattle.std.specs.Str.{bytes_eq}
use Rattle.std.specs.Str.Parse.{digits_value}
use Rattle.std.proofs.lemmas.Bool.{lt-ltb, ltb-true}
use Rattle.std.proofs.lemmas.Fmt.{decimal_is_IsNumeral}
use Rattle.std.proofs.lemmas.Slice.Eq.{bytes_eq-Decides}
use Rattle.line_printer.specs.MoveText.{number_of}

pub number_some : (text : List ℕ) (n : ℕ) → n < 256 → text ≡ decimal n → number_of text ≡ Some n
unfolding number_of
number_some text n small is =
    let value : digits_value 10 text ≡ n = ap (digits_value 10) is ∙ (decimal_is_IsNumeral n (omega arith)).1 in
    let below : nat_lt n 256 ≡ true = lt-ltb _ _ small in
    let same : bytes_eq (decimal n) text ≡ true = (bytes_eq-Decides (decimal n) text).1 (sym is) in
    rw (value, below, same) refl

-- where the text is no number's
pub number_none : (text : List ℕ) → ((n : ℕ) → n < 256 → text ≡ decimal n → ⊥) → number_of text ≡ None
unfolding number_of
number_none text other =
    let v = digits_value 10 text in
    let by_tests : (a b : Bool) → nat_lt v 256 ≡ a → bytes_eq (decimal v) text ≡ b
    → cond (a && b) (Some v) None ≡ None =
    λ a b. elim a as (λ a. nat_lt v 256 ≡ a → bytes_eq (decimal v) text ≡ b → cond (a && b) (Some v) None ≡ None) [
      | false ↦ λ p q. refl
      | true ↦ elim b as
          (λ b. nat_lt v 256 ≡ true → bytes_eq (decimal v) text ≡ b → cond (true && b) (Some v) None ≡ None) [
            | false ↦ λ p q. refl
            | true ↦ λ p q.
                absurd (other v (ltb-true _ _ p) (sym ((bytes_eq-Decides (decimal v) text).0 q)))
          ]
    ] in
    by_tests (nat_lt v 256) (bytes_eq (decimal v) text) refl refl
