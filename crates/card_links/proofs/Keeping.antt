-- A carry keeps the chains chains, and the same carry the other way round takes it back.
use Rattle.std.proofs.Common.{◌≡◌, ◌≢◌, ℕ, ◌+◌, ◌-◌, ◌<◌, ◌≤◌, refl, sym, ap, ap₂, ◌∙◌, subst, arith, length-set, inl}
use Rattle.std.proofs.Common.{inr, nat_lt, if◌then◌else◌, ◌==◌}
use Rattle.std.proofs.lemmas.Bool.{cases_eq, cases_lt}
use Rattle.std.proofs.lemmas.Bool.Decides.{nat_tests}
use Rattle.card_links.specs.Chains.{Chains, IsChained, size_at, slot_at, shifted, low_after}
use Rattle.card_links.proofs.Sums.{two_set, low_set}
use Rattle.card_links.proofs.Shifting.{size_from, size_to, size_other, slot_other, slot_left, slot_carried, slot_below}

-- where a slot of a place lies after a carry
abbrev pub place_after : ℕ → ℕ → ℕ → ℕ → ℕ → ℕ
place_after from to count q j = if q == from then (if nat_lt j count then to else from) else q

abbrev pub depth_after : ℕ → ℕ → ℕ → ℕ → ℕ → ℕ
depth_after from to count q j = if q ==
    from then (if nat_lt j count then j else j - count) else (if q == to then j + count else j)

-- where the slot at a place and a depth was before a carry
pub record Origin (c : Chains) (from to count p k : ℕ) : Type 0 where
  pub q : ℕ
  pub j : ℕ
  pub place : q < 315
  pub depth : j < size_at c q
  pub same : slot_at (shifted c from to count) p k ≡ slot_at c q j
  pub now_place : p ≡ place_after from to count q j
  pub now_depth : k ≡ depth_after from to count q j

left_place : (from to count j : ℕ) → count ≤ j → from ≡ place_after from to count from j
left_place from to count j h = grind (arith, nat_tests)

left_depth : (from to count j k : ℕ) → j ≡ count + k → k ≡ depth_after from to count from j
left_depth from to count j k h = grind (arith, nat_tests)

gone_place : (from to count j : ℕ) → j < count → to ≡ place_after from to count from j
gone_place from to count j h = grind (arith, nat_tests)

gone_depth : (from to count j : ℕ) → j < count → j ≡ depth_after from to count from j
gone_depth from to count j h = grind (arith, nat_tests)

there_place : (from to count j : ℕ) → from ≢ to → to ≡ place_after from to count to j
there_place from to count j h = grind (arith, nat_tests)

there_depth : (from to count j k : ℕ) → from ≢ to → k ≡ count + j → k ≡ depth_after from to count to j
there_depth from to count j k h e = grind (arith, nat_tests)

other_place : (from to count q j : ℕ) → q ≢ from → q ≡ place_after from to count q j
other_place from to count q j h = grind (arith, nat_tests)

other_depth : (from to count q j : ℕ) → q ≢ from → q ≢ to → j ≡ depth_after from to count q j
other_depth from to count q j h g = grind (arith, nat_tests)

module _ (c : Chains) (h : IsChained c) (from to count : ℕ) (lf : from < 315) (lt : to < 315) (ne : from ≢ to)
    (some : 0 < count) (enough : count ≤ size_at c from) where
  abbrev now : Chains
  now = shifted c from to count

  sizes : (size_at now from ≡ size_at c from - count) × (size_at now to ≡ size_at c to + count)
  sizes = (size_from c h from to count lf lt ne some enough, size_to c h from to count lf lt ne some enough)

  origin_left : (k : ℕ) → k < size_at now from → Origin c from to count from k
  origin_left k lk =
      let s = sizes in
      let j = count + k in
      record {
        q = from;
        j = count + k;
        place = lf;
        depth = omega arith;
        same = slot_left c h from to count lf lt ne some enough k (count + k) refl (omega arith);
        now_place = left_place from to count (count + k) (omega arith);
        now_depth = left_depth from to count (count + k) k refl;
      }

  origin_there : (k : ℕ) → k < size_at now to → Origin c from to count to k
  origin_there k lk =
      let s = sizes in
      elim (cases_lt k count) [
        | inl high ↦ record {
          q = from;
          j = k;
          place = lf;
          depth = omega arith;
          same = slot_carried c h from to count lf lt ne some enough k high;
          now_place = gone_place from to count k high;
          now_depth = gone_depth from to count k high;
        }
        | inr low ↦ record {
          q = to;
          j = k - count;
          place = lt;
          depth = omega arith;
          same = slot_below c h from to count lf lt ne some enough (k - count) k (omega arith) (omega arith);
          now_place = there_place from to count (k - count) ne;
          now_depth = there_depth from to count (k - count) k ne (omega arith);
        }
      ]

  origin_other : (p k : ℕ) → p < 315 → p ≢ from → p ≢ to → k < size_at now p → Origin c from to count p k
  origin_other p k lp nf nt lk =
      let s = size_other c h from to count lf lt ne some enough p nf nt in
      record {
        q = p;
        j = k;
        place = lp;
        depth = omega arith;
        same = slot_other c h from to count lf lt ne some enough p k lp nf nt (omega arith);
        now_place = other_place from to count p k nf;
        now_depth = other_depth from to count p k nf nt;
      }

  origin : (p k : ℕ) → p < 315 → k < size_at now p → Origin c from to count p k
  origin p k lp lk = elim (cases_eq p from) [
    | inl e ↦ subst (λ x. Origin c from to count x k) (sym e) (origin_left k (subst (λ x. k < size_at now x) e lk))
    | inr nf ↦ elim (cases_eq p to) [
      | inl e ↦ subst (λ x. Origin c from to count x k) (sym e) (origin_there k (subst (λ x. k < size_at now x) e lk))
      | inr nt ↦ origin_other p k lp nf nt lk
    ]
  ]

  within : (p k : ℕ) → p < 315 → k < size_at now p → slot_at now p k < c.used
  within p k lp lk =
      let o = origin p k lp lk in
      let w = h.within o.q o.j o.place o.depth in
      subst (λ x. x < c.used) (sym o.same) w

  apart : (p q j k : ℕ) → p < 315 → q < 315 → j < size_at now p → k < size_at now q → slot_at now p j ≡ slot_at now q k
      → (p ≡ q) × (j ≡ k)
  apart p q j k lp lq lj lk e =
      let o = origin p j lp lj in
      let r = origin q k lq lk in
      let one = h.apart o.q r.q o.j r.j o.place r.place o.depth r.depth (sym o.same ∙ e ∙ r.same) in (
        o.now_place ∙ ap₂ (place_after from to count) one.0 one.1 ∙ sym r.now_place,
        o.now_depth ∙ ap₂ (depth_after from to count) one.0 one.1 ∙ sym r.now_depth,
      )

  ends : (p : ℕ) → p < 315 → slot_at now p (size_at now p) ≡ 255
  ends p lp = elim (cases_eq p from) [
    | inl e ↦
        let s = sizes.0 in
        ap (λ x. slot_at now x (size_at now x)) e ∙ ap (λ n. slot_at now from n) s
        ∙ slot_left c h from to count lf lt ne some enough (size_at c from - count) (size_at c from) (omega arith)
        (omega arith) ∙ h.ends from lf
    | inr nf ↦ elim (cases_eq p to) [
      | inl e ↦
          let s = sizes.1 in
          ap (λ x. slot_at now x (size_at now x)) e ∙ ap (λ n. slot_at now to n) s
          ∙ slot_below c h from to count lf lt ne some enough (size_at c to) (size_at c to + count) (omega arith)
          (omega arith) ∙ h.ends to lt
      | inr nt ↦
          ap (λ n. slot_at now p n) (size_other c h from to count lf lt ne some enough p nf nt)
          ∙ slot_other c h from to count lf lt ne some enough p (size_at c p) lp nf nt (omega arith) ∙ h.ends p lp
    ]
  ]

  pub kept : IsChained (shifted c from to count)
  kept = record {
    under_length = length-set c.under _ _ ∙ h.under_length;
    tops_length = length-set _ _ _ ∙ length-set _ _ _ ∙ h.tops_length;
    sizes_length = length-set _ _ _ ∙ length-set _ _ _ ∙ h.sizes_length;
    ends = ends;
    within = within;
    apart = apart;
    all = let l = h.sizes_length in two_set c.sizes from to _ _ count (omega arith) (omega arith) ne refl refl enough
        ∙ h.all;
    fits = h.fits;
    open_part = low_set c.sizes from to _ _ count h.sizes_length lf lt ne refl refl enough
        ∙ ap (λ l. low_after l from to count) h.open_part;
  }
