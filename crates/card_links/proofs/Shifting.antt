-- What a carry from one chain to another makes of the chains.
use Rattle.std.proofs.Common.{◌≡◌, ◌≢◌, ℕ, suc, ◌+◌, ◌-◌, ◌<◌, ◌≤◌, List, length, get_or, set, refl, sym, ap, ◌∙◌}
use Rattle.std.proofs.Common.{arith, length-set}
use Rattle.std.proofs.lemmas.List.{get_or-set_same, get_or-set_other}
use Rattle.card_links.specs.Chains.{Chains, IsChained, link, follow, top_at, size_at, slot_at, shifted}
use Rattle.card_links.proofs.Following.{follow_more, follow_add, follow_frame}

-- two entries of a list are set
pub at_first : (xs : List ℕ) (i j a b d : ℕ) → i < length xs → i ≢ j → get_or (set (set xs i a) j b) i d ≡ a
at_first xs i j a b d l ne = get_or-set_other (set xs i a) j i b d ne ∙ get_or-set_same xs i a d l

pub at_second : (xs : List ℕ) (i j a b d : ℕ) → j < length xs → get_or (set (set xs i a) j b) j d ≡ b
at_second xs i j a b d l =
    let k : j < length (set xs i a) = omega (arith, length-set xs i a) in
    get_or-set_same (set xs i a) j b d k

pub at_other : (xs : List ℕ) (i j k a b d : ℕ) → k ≢ i → k ≢ j → get_or (set (set xs i a) j b) k d ≡ get_or xs k d
at_other xs i j k a b d ni nj = get_or-set_other (set xs i a) j k b d nj ∙ get_or-set_other xs i k a d ni

module _ (c : Chains) (h : IsChained c) (from to count : ℕ) (lf : from < 315) (lt : to < 315) (ne : from ≢ to)
    (some : 0 < count) (enough : count ≤ size_at c from) where
  abbrev first : ℕ
  first = slot_at c from (count - 1)

  abbrev after : Chains
  after = shifted c from to count

  pub first_inside : first < length c.under
  first_inside =
      let w : first < c.used = h.within from (count - 1) lf (omega arith) in
      let f = h.fits in let u = h.under_length in omega arith

  pub size_from : size_at after from ≡ size_at c from - count
  size_from = let l = h.sizes_length in at_first c.sizes from to _ _ 0 (omega arith) ne

  pub size_to : size_at after to ≡ size_at c to + count
  size_to = let l = h.sizes_length in at_second c.sizes from to _ _ 0 (omega arith)

  pub size_other : (p : ℕ) → p ≢ from → p ≢ to → size_at after p ≡ size_at c p
  size_other p nf nt = at_other c.sizes from to p _ _ 0 nf nt

  pub top_from : top_at after from ≡ link c.under first
  top_from = let l = h.tops_length in at_first c.tops from to _ _ 255 (omega arith) ne

  pub top_to : top_at after to ≡ top_at c from
  top_to = let l = h.tops_length in at_second c.tops from to _ _ 255 (omega arith)

  pub top_other : (p : ℕ) → p ≢ from → p ≢ to → top_at after p ≡ top_at c p
  top_other p nf nt = at_other c.tops from to p _ _ 255 nf nt

  -- the changed slot is no other slot of a chain
  pub only_there : (p k : ℕ) → p < 315 → k < size_at c p → slot_at c p k ≡ first → (p ≡ from) × (k ≡ count - 1)
  only_there p k lp lk e = h.apart p from k (count - 1) lp lf lk (omega arith) e

  pub not_from : (p k : ℕ) → p < 315 → k < size_at c p → p ≢ from → slot_at c p k ≢ first
  not_from p k lp lk np e = np (only_there p k lp lk e).0

  pub not_there : (k : ℕ) → k < size_at c from → k ≢ count - 1 → slot_at c from k ≢ first
  not_there k lk nk e = nk (only_there from k lf lk e).1

  -- a chain that the carry does not touch
  pub slot_other : (p k : ℕ) → p < 315 → p ≢ from → p ≢ to → k ≤ size_at c p → slot_at after p k ≡ slot_at c p k
  slot_other p k lp nf nt lk =
      ap (λ s. follow after.under k s) (top_other p nf nt)
      ∙ follow_frame c.under first (top_at c to) k (top_at c p) (λ i li. not_from p i lp (omega arith) nf)

  -- what is left
  pub slot_left : (k n : ℕ) → n ≡ count + k → n ≤ size_at c from → slot_at after from k ≡ slot_at c from n
  slot_left k n e ln =
      let up : count ≡ suc (count - 1) = omega arith in
      let start : link c.under first ≡ slot_at c from count =
      sym (follow_more c.under (count - 1) (top_at c from)) ∙ ap (λ m. slot_at c from m) (sym up) in
      let walked : (i : ℕ) → i ≤ k → follow c.under i (slot_at c from count) ≡ slot_at c from (count + i) =
      λ i li. sym (follow_add c.under count i (count + i) (top_at c from) refl) in
      ap (λ s. follow after.under k s) (top_from ∙ start)
      ∙ follow_frame c.under first (top_at c to) k (slot_at c from count)
      (λ i li e2. not_there (count + i) (omega arith) (omega arith) (sym (walked i (omega arith)) ∙ e2))
      ∙ walked k (omega arith) ∙ ap (λ m. slot_at c from m) (sym e)

  -- what was carried
  pub slot_carried : (k : ℕ) → k < count → slot_at after to k ≡ slot_at c from k
  slot_carried k lk =
      ap (λ s. follow after.under k s) top_to
      ∙ follow_frame c.under first (top_at c to) k (top_at c from) (λ i li. not_there i (omega arith) (omega arith))

  -- the changed link
  pub link_first : link after.under first ≡ top_at c to
  link_first = get_or-set_same c.under first (top_at c to) 255 first_inside

  pub slot_seam : slot_at after to count ≡ top_at c to
  slot_seam =
      let one : suc (count - 1) ≡ count = omega arith in
      ap (λ m. slot_at after to m) (sym one) ∙ follow_more after.under (count - 1) (top_at after to)
      ∙ ap (λ s. link after.under s) (slot_carried (count - 1) (omega arith)) ∙ link_first

  -- what lay there before
  pub slot_below : (k n : ℕ) → n ≡ count + k → k ≤ size_at c to → slot_at after to n ≡ slot_at c to k
  slot_below k n e lk =
      let np : to ≢ from = λ q. ne (sym q) in
      follow_add after.under count k n (top_at after to) e
      ∙ ap (λ s. follow after.under k s) slot_seam
      ∙ follow_frame c.under first (top_at c to) k (top_at c to) (λ i li. not_from to i lt (omega arith) np)
