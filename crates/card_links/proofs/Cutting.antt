-- Single carries between two places only move a cut.
use Rattle.std.proofs.Common.{◌≡◌, ◌≢◌, ℕ, zero, suc, ◌+◌, ◌<◌, ◌≤◌, refl, sym, ap, ◌∙◌, arith}
use Rattle.card_links.specs.Chains.{Chains, IsChained, size_at, shifted, shifted_each}
use Rattle.card_links.proofs.Each.{each, each_undone}

-- single carries bring no slot into play
pub each_used : (from to : ℕ) (c : Chains) (n : ℕ) → (shifted_each c from to n).used ≡ c.used
each_used from to c zero = refl
each_used from to c (suc n) = each_used from to c n

-- more of them
pub each_more : (c : Chains) (from to a b n : ℕ) → n ≡ a + b
    → shifted_each (shifted_each c from to a) from to b ≡ shifted_each c from to n
each_more c from to a zero n e = ap (shifted_each c from to) (let f : a ≡ n = omega arith in f)
each_more c from to a (suc b) zero e = absurd (omega arith)
each_more c from to a (suc b) (suc n) e = ap (λ d. shifted d from to 1) (each_more c from to a b n (omega arith))

module _ (from to : ℕ) (lf : from < 315) (lt : to < 315) (ne : from ≢ to) (c : Chains) (h : IsChained c) where
  -- some of them taken back: fewer than went
  pub each_less : (a b n : ℕ) → a ≤ size_at c from → a ≡ n + b
      → shifted_each (shifted_each c from to a) to from b ≡ shifted_each c from to n
  each_less a b n enough e =
      let d = shifted_each c from to n in
      let en = each from to lf lt ne c h n (omega arith) in
      let left = en.left in
      ap (λ x. shifted_each x to from b) (sym (each_more c from to n b a e))
      ∙ each_undone from to lf lt ne d en.chained b (omega arith)

  -- more than went
  pub each_beyond : (a b n : ℕ) → a ≤ size_at c from → b ≡ a + n
      → shifted_each (shifted_each c from to a) to from b ≡ shifted_each c to from n
  each_beyond a b n enough e =
      sym (each_more (shifted_each c from to a) to from a n b e)
      ∙ ap (λ x. shifted_each x to from n) (each_undone from to lf lt ne c h a enough)
