-- A new slot at the front of a place.
use Rattle.std.proofs.Common.{◌≡◌, ◌≢◌, ℕ, zero, suc, ◌+◌, ◌<◌, ◌≤◌, ◌⊎◌, ◌∷◌, get_or, set, refl, sym, ap, ap₂, ◌∙◌}
use Rattle.std.proofs.Common.{subst, arith, take, length-set, inl, inr, nat_lt, if◌then◌else◌}
use Rattle.std.specs.List.{sum}
use Rattle.std.proofs.lemmas.Bool.{cases_eq, cases_lt}
use Rattle.std.proofs.lemmas.Bool.Decides.{nat_tests}
use Rattle.std.proofs.lemmas.List.{get_or-set_same, get_or-set_other, get_or_default}
use Rattle.card_links.specs.Chains.{Chains, IsChained, link, follow, chain, top_at, size_at, slot_at, slots_of, grown}
use Rattle.card_links.proofs.Following.{follow_frame, chain_same}
use Rattle.card_links.proofs.Undoing.{chains, same_chains}
use Rattle.card_links.proofs.Sums.{one_set, one_set_below, one_set_above, first_below}

low_yes : (l p : ℕ) → p < 90 → (if nat_lt p 90 then l + 1 else l) ≡ l + 1
low_yes l p h = grind (arith, nat_tests)

low_no : (l p : ℕ) → 90 ≤ p → (if nat_lt p 90 then l + 1 else l) ≡ l
low_no l p h = grind (arith, nat_tests)

-- where a slot of a chain was before: the new one nowhere
pub record Before (c : Chains) (place p k : ℕ) : Type 0 where
  pub j : ℕ
  pub depth : j < size_at c p
  pub same : slot_at (grown c place) p k ≡ slot_at c p j
  pub there : p ≡ place → k ≡ suc j
  pub elsewhere : p ≢ place → k ≡ j

module _ (c : Chains) (h : IsChained c) (place : ℕ) (lp : place < 315) (room : c.used < 208) where
  abbrev now : Chains
  now = grown c place

  pub size_there : size_at now place ≡ size_at c place + 1
  size_there = let l = h.sizes_length in get_or-set_same c.sizes place _ 0 (omega arith)

  pub size_elsewhere : (p : ℕ) → p ≢ place → size_at now p ≡ size_at c p
  size_elsewhere p np = get_or-set_other c.sizes place p _ 0 np

  top_there : top_at now place ≡ c.used
  top_there = let l = h.tops_length in get_or-set_same c.tops place c.used 255 (omega arith)

  top_elsewhere : (p : ℕ) → p ≢ place → top_at now p ≡ top_at c p
  top_elsewhere p np = get_or-set_other c.tops place p c.used 255 np

  link_new : link now.under c.used ≡ top_at c place
  link_new = let l = h.under_length in get_or-set_same c.under c.used _ 255 (omega arith)

  -- the chains of before are not touched
  frame : (p k : ℕ) → p < 315 → k ≤ size_at c p → follow now.under k (top_at c p) ≡ slot_at c p k
  frame p k lq lk =
      follow_frame c.under c.used (top_at c place) k (top_at c p) (λ i li e. let w = h.within p i lq (omega arith) in
      omega arith)

  slot_elsewhere : (p k : ℕ) → p < 315 → p ≢ place → k ≤ size_at c p → slot_at now p k ≡ slot_at c p k
  slot_elsewhere p k lq np lk = ap (λ s. follow now.under k s) (top_elsewhere p np) ∙ frame p k lq lk

  slot_there : (k : ℕ) → k ≤ size_at c place → slot_at now place (suc k) ≡ slot_at c place k
  slot_there k lk = ap (λ s. follow now.under (suc k) s) top_there ∙ ap (λ s. follow now.under k s) link_new
      ∙ frame place k lp lk

  cases : (p k : ℕ) → p < 315 → k < size_at now p → ((p ≡ place) × (k ≡ 0)) ⊎ Before c place p k
  cases p zero lq lk = elim (cases_eq p place) [
    | inl e ↦ inl (e, refl)
    | inr ne ↦
        let s = size_elsewhere p ne in
        inr (record {
          j = 0;
          depth = omega arith;
          same = slot_elsewhere p 0 lq ne (omega arith);
          there =
              λ e. absurd (ne e);
          elsewhere = λ _. refl;
        })
  ]
  cases p (suc k) lq lk = elim (cases_eq p place) [
    | inl e ↦
        let s = size_there in
        let d : suc k < size_at now place = subst (λ x. suc k < size_at now x) e lk in
        let at : slot_at now place (suc k) ≡ slot_at c place k = slot_there k (omega arith) in
        let low : k < size_at c place = omega arith in
        inr (record {
          j = k;
          depth = subst (λ x. k < size_at c x) (sym e) low;
          same = subst (λ x. slot_at now x (suc k) ≡ slot_at c x k) (sym e) at;
          there = λ _. refl;
          elsewhere = λ ne. absurd (ne e);
        })
    | inr ne ↦
        let s = size_elsewhere p ne in
        inr (record {
          j = suc k;
          depth = omega arith;
          same = slot_elsewhere p (suc k) lq ne (omega arith);
          there =
              λ e. absurd (ne e);
          elsewhere = λ _. refl;
        })
  ]

  within : (p k : ℕ) → p < 315 → k < size_at now p → slot_at now p k < c.used + 1
  within p k lq lk = elim (cases p k lq lk) [
    | inl e ↦
        let t : slot_at now p k ≡ c.used = ap₂ (slot_at now) e.0 e.1 ∙ top_there in
        omega arith
    | inr b ↦ let w = h.within p b.j lq b.depth in let s = b.same in omega arith
  ]

  apart : (p q j k : ℕ) → p < 315 → q < 315 → j < size_at now p → k < size_at now q → slot_at now p j ≡ slot_at now q k
      → (p ≡ q) × (j ≡ k)
  apart p q j k lq lr lj lk e = elim (cases p j lq lj) [
    | inl a ↦ elim (cases q k lr lk) [
      | inl b ↦ (a.0 ∙ sym b.0, a.1 ∙ sym b.1)
      | inr b ↦
          let t : slot_at now p j ≡ c.used = ap₂ (slot_at now) a.0 a.1 ∙ top_there in
          let w = h.within q b.j lr b.depth in let s = b.same in absurd (omega arith)
    ]
    | inr a ↦ elim (cases q k lr lk) [
      | inl b ↦
          let t : slot_at now q k ≡ c.used = ap₂ (slot_at now) b.0 b.1 ∙ top_there in
          let w = h.within p a.j lq a.depth in let s = a.same in absurd (omega arith)
      | inr b ↦
          let one = h.apart p q a.j b.j lq lr a.depth b.depth (sym a.same ∙ e ∙ b.same) in (
            one.0,
            elim (cases_eq p place) [
              | inl here ↦ a.there here ∙ ap suc one.1 ∙ sym (b.there (sym one.0 ∙ here))
              | inr away ↦ a.elsewhere away ∙ one.1 ∙ sym (b.elsewhere (λ x. away (one.0 ∙ x)))
            ],
          )
    ]
  ]

  ends : (p : ℕ) → p < 315 → slot_at now p (size_at now p) ≡ 255
  ends p lq = elim (cases_eq p place) [
    | inl e ↦
        let s : size_at now place ≡ suc (size_at c place) = size_there ∙ omega arith in
        ap (λ x. slot_at now x (size_at now x)) e ∙ ap (λ n. slot_at now place n) s
        ∙ slot_there (size_at c place) (omega arith) ∙ h.ends place lp
    | inr ne ↦ ap (λ n. slot_at now p n) (size_elsewhere p ne) ∙ slot_elsewhere p (size_at c p) lq ne (omega arith)
        ∙ h.ends p lq
  ]

  pub low_fits : c.low < 255
  low_fits = let f = first_below c.sizes 90 in let a = h.all in let o = h.open_part in omega arith

  pub size_fits : size_at c place < 255
  size_fits = let l = h.sizes_length in let a = h.all in let e = one_set c.sizes place 0 (omega arith) in omega arith

  open_part : sum (take 90 now.sizes) ≡ now.low
  open_part =
      let l = h.sizes_length in let o = h.open_part in
      elim (cases_lt place 90) [
        | inl lower ↦
            let one = one_set_below c.sizes 90 place (size_at c place + 1) (omega arith) lower (omega arith) in
            rw (low_yes c.low place lower) (omega arith)
        | inr higher ↦ rw (low_no c.low place higher) (one_set_above c.sizes 90 place (size_at c place + 1) higher ∙ o)
      ]

  pub grown_chained : IsChained (grown c place)
  grown_chained = record {
    under_length = length-set c.under _ _ ∙ h.under_length;
    tops_length = length-set _ _ _ ∙ h.tops_length;
    sizes_length = length-set _ _ _ ∙ h.sizes_length;
    ends = ends;
    within = within;
    apart = apart;
    all = let l = h.sizes_length in let a = h.all in let e =
        one_set c.sizes place (size_at c place + 1) (omega arith) in omega arith;
    fits = omega arith;
    open_part = open_part;
  }

  -- the slots of each place
  pub slots_there : slots_of now place ≡ c.used ∷ slots_of c place
  slots_there =
      let s : size_at now place ≡ suc (size_at c place) = size_there ∙ omega arith in
      ap₂ (chain now.under) s top_there
      ∙ ap (λ xs. c.used ∷ xs)
      (ap (λ x. chain now.under (size_at c place) x) link_new
      ∙ chain_same now.under c.under (size_at c place) (top_at c place) (top_at c place)
      (λ k lk. frame place k lp (omega arith)))

  pub slots_elsewhere : (p : ℕ) → p < 315 → p ≢ place → slots_of now p ≡ slots_of c p
  slots_elsewhere p lq np =
      ap₂ (chain now.under) (size_elsewhere p np) (top_elsewhere p np)
      ∙ chain_same now.under c.under (size_at c p) (top_at c p) (top_at c p) (λ k lk. frame p k lq (omega arith))

-- what the code of a push needs and makes
module _ (c d : Chains) (view : c ≡ d) (h : IsChained c) (place : ℕ) (lp : place < 315) (room : d.used < 208) where
  room_here : c.used < 208
  room_here = subst (λ x. x.used < 208) (sym view) room

  pub push_low : c.low < 255
  push_low = low_fits c h place lp room_here

  pub push_made : (slot low : ℕ) → slot ≡ c.used → low ≡ (if nat_lt place 90 then c.low + 1 else c.low) →
      IsChained (record {
        under = set c.under slot (get_or c.tops place 0);
        tops = set c.tops place c.used;
        sizes = set c.sizes place (get_or c.sizes place 0 + 1);
        used = c.used + 1;
        low = low;
      })
  push_made slot low e l =
      let t = h.tops_length in
      let a = get_or_default c.tops place 0 255 (omega arith) in
      let u : set c.under slot (get_or c.tops place 0) ≡ set c.under c.used (top_at c place) = ap₂ (set c.under) e a in
      let made : chains (set c.under slot (get_or c.tops place 0)) (set c.tops place c.used)
      (set c.sizes place (get_or c.sizes place 0 + 1)) (c.used + 1) low ≡ grown c place =
      same_chains _ _ _ _ _ _ (c.used + 1) _ _ u refl refl l in
      subst IsChained (sym made) (grown_chained c h place lp room_here)
