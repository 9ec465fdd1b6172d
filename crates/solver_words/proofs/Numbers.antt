-- The number of a text is the one whose decimal text it is: digits, with no sign and no leading zero.
use Rattle.std.proofs.Common.{◌≡◌, ◌<◌, ◌^◌, ◌&&◌, ℕ, List, Bool, true, false, cond, nat_lt, decimal, Some, None, refl}
use Rattle.std.proofs.Common.{ap, sym, ◌∙◌, get_or, zero, suc, [], ◌∷◌, arith}
use Rattle.std.specs.Str.{bytes_eq}
use Rattle.std.specs.Str.Parse.{digits_value}
use Rattle.std.proofs.lemmas.Bool.{lt-ltb, ltb-true}
use Rattle.std.proofs.lemmas.Fmt.{decimal_is_IsNumeral, decimal_digit, first_decimal}
use Rattle.std.proofs.lemmas.Slice.Eq.{bytes_eq-Decides}
use Rattle.solver_words.specs.Numbers.{number_of}

-- The decimal text of a number has this number.
pub number_some : (text : List ℕ) (n : ℕ) → n < 2 ^ 64 → text ≡ decimal n → number_of text ≡ Some n
unfolding number_of
number_some text n small is =
    let value : digits_value 10 text ≡ n = ap (digits_value 10) is ∙ (decimal_is_IsNumeral n small).1 in
    let below : nat_lt n (2 ^ 64) ≡ true = lt-ltb _ _ small in
    let same : bytes_eq (decimal n) text ≡ true = (bytes_eq-Decides (decimal n) text).1 (sym is) in
    rw (value, below, same) refl

-- A text that is the decimal text of no such number has no number.
pub number_none : (text : List ℕ) → ((n : ℕ) → n < 2 ^ 64 → text ≡ decimal n → ⊥) → number_of text ≡ None
unfolding number_of
number_none text other =
    let v = digits_value 10 text in
    let by_tests : (a b : Bool) → nat_lt v (2 ^ 64) ≡ a → bytes_eq (decimal v) text ≡ b
    → cond (a && b) (Some v) None ≡ None =
    λ a b. elim a as (λ a. nat_lt v (2 ^ 64) ≡ a → bytes_eq (decimal v) text ≡ b → cond (a && b) (Some v) None ≡ None) [
      | false ↦ λ p q. refl
      | true ↦ elim b as
          (λ b. nat_lt v (2 ^ 64) ≡ true → bytes_eq (decimal v) text ≡ b → cond (true && b) (Some v) None ≡ None) [
            | false ↦ λ p q. refl
            | true ↦ λ p q.
                absurd (other v (ltb-true _ _ p) (sym ((bytes_eq-Decides (decimal v) text).0 q)))
          ]
    ] in
    by_tests (nat_lt v (2 ^ 64)) (bytes_eq (decimal v) text) refl refl

pub number_of-decimal : (n : ℕ) → n < 2 ^ 64 → number_of (decimal n) ≡ Some n
number_of-decimal n small = number_some (decimal n) n small refl

-- What has a number is its decimal text.
pub decimal_from_number_of : (text : List ℕ) (n : ℕ) → number_of text ≡ Some n → (n < 2 ^ 64) × (text ≡ decimal n)
unfolding number_of
decimal_from_number_of text n has =
    let v = digits_value 10 text in
    let by_tests : (a b : Bool) → nat_lt v (2 ^ 64) ≡ a → bytes_eq (decimal v) text ≡ b
    → cond (a && b) (Some v) None ≡ Some n
    → (n < 2 ^ 64) × (text ≡ decimal n) =
    λ a b. elim a as (λ a. nat_lt v (2 ^ 64) ≡ a → bytes_eq (decimal v) text ≡ b → cond (a && b) (Some v) None ≡ Some n
    → (n < 2 ^ 64) × (text ≡ decimal n)) [
      | false ↦ λ p q h. absurd (let none : None ≡ Some n = h in cc)
      | true ↦ elim b as
          (λ b. nat_lt v (2 ^ 64) ≡ true → bytes_eq (decimal v) text ≡ b → cond (true && b) (Some v) None ≡ Some n
          → (n < 2 ^ 64) × (text ≡ decimal n)) [
            | false ↦ λ p q h. absurd (let none : None ≡ Some n = h in cc)
            | true ↦ λ p q h.
                let is : v ≡ n = cc in
                let same : text ≡ decimal v = sym ((bytes_eq-Decides (decimal v) text).0 q) in
                let below : v < 2 ^ 64 = ltb-true _ _ p in
                (omega arith, same ∙ ap decimal is)
          ]
    ] in
    by_tests (nat_lt v (2 ^ 64)) (bytes_eq (decimal v) text) refl refl has

-- A text that begins with a zero has no number, unless it is that digit alone.
pub number_of-leading_zero : (digit : ℕ) (more : List ℕ) → number_of (48 ∷ digit ∷ more) ≡ None
number_of-leading_zero digit more =
    let other : (n : ℕ) → n < 2 ^ 64 → 48 ∷ digit ∷ more ≡ decimal n → ⊥ =
    λ n. elim n as (λ n. n < 2 ^ 64 → 48 ∷ digit ∷ more ≡ decimal n → ⊥) [
      | zero ↦ λ small is.
          let one : 48 ∷ digit ∷ more ≡ 48 ∷ [] = is ∙ decimal_digit 0 (omega arith) in
          cc
      | suc k ↦ λ small is.
          let first : 48 < get_or (decimal (suc k)) 0 0 = first_decimal (suc k) (omega arith) small in
          let starts : get_or (decimal (suc k)) 0 0 ≡ 48 = ap (λ t. get_or t 0 0) (sym is) in
          omega arith
    ] in
    number_none (48 ∷ digit ∷ more) other
