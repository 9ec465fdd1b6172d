-- Lists that are made of the numbers of a range.
use Rattle.std.proofs.Common.{◌≡◌, ◌≢◌, ℕ, zero, suc, ◌+◌, ◌<◌, ◌≤◌, ◌∷◌, map, set, take, length, refl, ap, ap₂, ◌∙◌}
use Rattle.std.proofs.Common.{arith}
use Rattle.std.specs.Prelude.{Option, Some, slice_get}
use Rattle.std.specs.List.{range_with_len}
use Rattle.card_piles.specs.declared.Card.{Card}

pub range_same : {X : Type 0} (g h : ℕ → X) (a n : ℕ) → ((i : ℕ) → a ≤ i → i < a + n → h i ≡ g i)
    → map h (range_with_len a n) ≡ map g (range_with_len a n)
range_same g h a zero same = refl
range_same g h a (suc n) same =
    ap₂ ◌∷◌ (same a (omega arith) (omega arith))
    (range_same g h (a + 1) n (λ i la lb. same i (omega arith) (omega arith)))

pub range_set : {X : Type 0} (g h : ℕ → X) (a n i : ℕ) (y : X) → ((k : ℕ) → a ≤ k → k < a + n → k ≢ a + i → h k ≡ g k)
    → h (a + i) ≡ y
    → map h (range_with_len a n) ≡ set (map g (range_with_len a n)) i y
range_set g h a zero i y same here = refl
range_set g h a (suc n) zero y same here =
    let zero_more : a ≡ a + 0 = omega arith in
    let first : h a ≡ y = ap h zero_more ∙ here in
    ap₂ ◌∷◌ first (range_same g h (a + 1) n (λ k la lb. same k (omega arith) (omega arith) (omega arith)))
range_set g h a (suc n) (suc i) y same here =
    let up : a + 1 + i ≡ a + suc i = omega arith in
    ap₂ ◌∷◌ (same a (omega arith) (omega arith) (omega arith))
    (range_set g h (a + 1) n i y (λ k la lb ne. same k (omega arith) (omega arith) (omega arith)) (ap h up ∙ here))

pub length-range : {X : Type 0} (g : ℕ → X) (a n : ℕ) → length (map g (range_with_len a n)) ≡ n
length-range g a zero = refl
length-range g a (suc n) = ap suc (length-range g (a + 1) n)

-- a shorter range is a beginning
pub range_less : {X : Type 0} (g : ℕ → X) (a k n : ℕ) → k ≤ n
    → take k (map g (range_with_len a n)) ≡ map g (range_with_len a k)
range_less g a zero n h = refl
range_less g a (suc k) zero h = absurd (omega arith)
range_less g a (suc k) (suc n) h = ap (λ xs. g a ∷ xs) (range_less g (a + 1) k n (omega arith))

-- the element of a range
pub range_get : (g : ℕ → Option Card) (a n i : ℕ) → i < n → slice_get (map g (range_with_len a n)) i ≡ Some (g (a + i))
range_get g a zero i h = absurd (omega arith)
range_get g a (suc n) zero h =
    let same : a ≡ a + 0 = omega arith in
    ap (λ (k : ℕ). let o : Option (Option Card) = Some (g k) in o) same
range_get g a (suc n) (suc i) h =
    let up : a + 1 + i ≡ a + suc i = omega arith in
    range_get g (a + 1) n i (omega arith) ∙ ap (λ (k : ℕ). let o : Option (Option Card) = Some (g k) in o) up
