-- Sums of sizes when two of them change.
use Rattle.std.proofs.Common.{◌≡◌, ◌≢◌, ℕ, ◌+◌, ◌-◌, ◌<◌, ◌≤◌, List, length, get_or, set, sym, ap, arith, take}
use Rattle.std.proofs.Common.{length-set, length-take-le, inl, inr}
use Rattle.std.specs.List.{sum}
use Rattle.std.proofs.lemmas.Bool.{cases_lt}
use Rattle.std.proofs.lemmas.Bool.Decides.{nat_tests}
use Rattle.std.proofs.lemmas.List.{get_or-set_other, take-set-le}
use Rattle.std.proofs.Common.{get_or-take}
use Rattle.std.proofs.Math.Seq.{take-set-lt}
use Rattle.std.proofs.lemmas.List.Sums.{sum_by-set, sum_by_more_le, sum_by-take-le}
use Rattle.card_links.specs.Chains.{low_after}

pub one_set : (xs : List ℕ) (i y : ℕ) → i < length xs → sum (set xs i y) + get_or xs i 0 ≡ sum xs + y
one_set xs i y l = sum_by-set (λ x. x) xs i y 0 l

-- the sum of the first entries when one of them changes
pub one_set_below : (xs : List ℕ) (m i y : ℕ) → i < length xs → i < m → m ≤ length xs
    → sum (take m (set xs i y)) + get_or xs i 0 ≡ sum (take m xs) + y
one_set_below xs m i y l lm lx =
    let k : i < length (take m xs) = omega (arith, length-take-le m xs lx) in
    let e = one_set (take m xs) i y k in
    rw (take-set-lt m xs i y lm) (rw (get_or-take m xs i 0 lm) at e)

pub one_set_above : (xs : List ℕ) (m i y : ℕ) → m ≤ i → sum (take m (set xs i y)) ≡ sum (take m xs)
one_set_above xs m i y l = ap sum (take-set-le m xs i y l)

-- what one entry loses another gains
pub two_set : (xs : List ℕ) (i j a b n : ℕ) → i < length xs → j < length xs → i ≢ j → a ≡ get_or xs i 0
    → b ≡ get_or xs j 0 → n ≤ a →
    sum (set (set xs i (a - n)) j (b + n)) ≡ sum xs
two_set xs i j a b n li lj ne ea eb le =
    let one = one_set xs i (a - n) li in
    let k : j < length (set xs i (a - n)) = omega (arith, length-set xs i (a - n)) in
    let two = one_set (set xs i (a - n)) j (b + n) k in
    let same = get_or-set_other xs i j (a - n) 0 (λ q. ne (sym q)) in
    omega arith

pub low_less : (l f t n : ℕ) → f < 90 → 90 ≤ t → low_after l f t n ≡ l - n
low_less l f t n hf ht = grind (arith, nat_tests)

pub low_more : (l f t n : ℕ) → 90 ≤ f → t < 90 → low_after l f t n ≡ l + n
low_more l f t n hf ht = grind (arith, nat_tests)

pub low_both : (l f t n : ℕ) → f < 90 → t < 90 → low_after l f t n ≡ l
low_both l f t n hf ht = grind (arith, nat_tests)

pub low_none : (l f t n : ℕ) → 90 ≤ f → 90 ≤ t → low_after l f t n ≡ l
low_none l f t n hf ht = grind (arith, nat_tests)

-- the sum of the first 90 entries when one loses what another gains
module _ (xs : List ℕ) (i j a b n : ℕ) (len : length xs ≡ 315) (li : i < 315) (lj : j < 315) (ne : i ≢ j) (ea : a
    ≡ get_or xs i 0) (eb : b ≡ get_or xs j 0) (le : n ≤ a) where
  pub low_set : sum (take 90 (set (set xs i (a - n)) j (b + n))) ≡ low_after (sum (take 90 xs)) i j n
  low_set =
      let ys = set xs i (a - n) in
      let long = length-set xs i (a - n) in
      let same : get_or ys j 0 ≡ get_or xs j 0 = get_or-set_other xs i j (a - n) 0 (λ q. ne (sym q)) in
      elim (cases_lt i 90) [
        | inl hi ↦
            let one = one_set_below xs 90 i (a - n) (omega arith) hi (omega arith) in
            elim (cases_lt j 90) [
              | inl hj ↦
                  let two = one_set_below ys 90 j (b + n) (omega arith) hj (omega arith) in
                  rw (low_both (sum (take 90 xs)) i j n hi hj) (omega arith)
              | inr hj ↦
                  let two = one_set_above ys 90 j (b + n) hj in
                  rw (low_less (sum (take 90 xs)) i j n hi hj) (omega arith)
            ]
        | inr hi ↦
            let one = one_set_above xs 90 i (a - n) hi in
            elim (cases_lt j 90) [
              | inl hj ↦
                  let two = one_set_below ys 90 j (b + n) (omega arith) hj (omega arith) in
                  rw (low_more (sum (take 90 xs)) i j n hi hj) (omega arith)
              | inr hj ↦
                  let two = one_set_above ys 90 j (b + n) hj in
                  rw (low_none (sum (take 90 xs)) i j n hi hj) (omega arith)
            ]
      ]

pub one_below : (xs : List ℕ) (i : ℕ) → i < length xs → get_or xs i 0 ≤ sum xs
one_below xs i l = let e = sum_by_more_le (λ x. x) xs i 0 l in omega arith

pub two_below : (xs : List ℕ) (i j : ℕ) → i < length xs → j < length xs → i ≢ j → get_or xs i 0 + get_or xs j 0 ≤ sum xs
two_below xs i j li lj ne =
    let one = one_set xs i 0 li in
    let k : j < length (set xs i 0) = omega (arith, length-set xs i 0) in
    let two = one_below (set xs i 0) j k in
    let same = get_or-set_other xs i j 0 0 (λ q. ne (sym q)) in
    omega arith

pub one_below_first : (xs : List ℕ) (m i : ℕ) → m ≤ length xs → i < m → get_or xs i 0 ≤ sum (take m xs)
one_below_first xs m i lm li =
    let k : i < length (take m xs) = omega (arith, length-take-le m xs lm) in
    let e = one_below (take m xs) i k in
    rw (get_or-take m xs i 0 li) at e

pub first_below : (xs : List ℕ) (m : ℕ) → sum (take m xs) ≤ sum xs
first_below xs m = sum_by-take-le (λ x. x) xs m
