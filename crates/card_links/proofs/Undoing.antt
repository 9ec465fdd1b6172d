-- The same carry the other way round gives every link back.
use Rattle.std.proofs.Common.{◌≡◌, ◌≢◌, ℕ, ◌+◌, ◌-◌, ◌<◌, ◌≤◌, List, get_or, set, refl, sym, ap, ap₂, ◌∙◌, arith, take}
use Rattle.std.proofs.Common.{◌++◌}
use Rattle.std.specs.List.{sum}
use Rattle.std.proofs.lemmas.List.{set-set, set_comm, set-get_or}
use Rattle.card_links.specs.Chains.{Chains, IsChained, link, top_at, size_at, slot_at, slots_of, chain, shifted}
use Rattle.card_links.specs.Chains.{low_after}
use Rattle.card_links.proofs.Following.{chain_same, chain_add, follow_add}
use Rattle.card_links.proofs.Keeping.{kept}
use Rattle.card_links.proofs.Shifting.{size_from, size_to, size_other, top_from, top_to, slot_other, slot_left}
use Rattle.card_links.proofs.Shifting.{slot_carried, slot_below, link_first}

abbrev pub chains : List ℕ → List ℕ → List ℕ → ℕ → ℕ → Chains
chains u t s m l = record { under = u; tops = t; sizes = s; used = m; low = l }

pub same_chains : (u v t w s r : List ℕ) (m l k : ℕ) → u ≡ v → t ≡ w → s ≡ r → l ≡ k
    → chains u t s m l ≡ chains v w r m k
same_chains u v t w s r m l k a b e f = cc

undo_one : (xs : List ℕ) (i a d : ℕ) → set (set xs i a) i (get_or xs i d) ≡ xs
undo_one xs i a d = set-set xs i a (get_or xs i d) ∙ set-get_or xs i d

undo_two : (xs : List ℕ) (i j a b d : ℕ) → i ≢ j → set (set (set (set xs i a) j b) j (get_or xs j d)) i (get_or xs i d)
    ≡ xs
undo_two xs i j a b d ne =
    ap (λ ys. set ys i (get_or xs i d)) (set-set (set xs i a) j b (get_or xs j d))
    ∙ set_comm (set xs i a) j i (get_or xs j d) (get_or xs i d) (λ e. ne (sym e))
    ∙ ap (λ ys. set ys j (get_or xs j d)) (undo_one xs i a d)
    ∙ set-get_or xs j d

module _ (c : Chains) (h : IsChained c) (from to count : ℕ) (lf : from < 315) (lt : to < 315) (ne : from ≢ to)
    (some : 0 < count) (enough : count ≤ size_at c from) where
  abbrev now : Chains
  now = shifted c from to count

  first_again : slot_at now to (count - 1) ≡ slot_at c from (count - 1)
  first_again = slot_carried c h from to count lf lt ne some enough (count - 1) (omega arith)

  link_again : link now.under (slot_at now to (count - 1)) ≡ top_at c to
  link_again = ap (λ s. link now.under s) first_again ∙ link_first c h from to count lf lt ne some enough

  under_again : set now.under (slot_at now to (count - 1)) (top_at now from) ≡ c.under
  under_again =
      ap₂ (λ s v. set now.under s v) first_again (top_from c h from to count lf lt ne some enough)
      ∙ undo_one c.under (slot_at c from (count - 1)) (top_at c to) 255

  tops_again : set (set now.tops to (link now.under (slot_at now to (count - 1)))) from (top_at now to) ≡ c.tops
  tops_again =
      ap₂ (λ v w. set (set now.tops to v) from w) link_again (top_to c h from to count lf lt ne some enough)
      ∙ undo_two c.tops from to (link c.under (slot_at c from (count - 1))) (top_at c from) 255 ne

  sizes_again : set (set now.sizes to (size_at now to - count)) from (size_at now from + count) ≡ c.sizes
  sizes_again =
      let f = size_from c h from to count lf lt ne some enough in
      let t = size_to c h from to count lf lt ne some enough in
      let a : size_at now to - count ≡ size_at c to = omega arith in
      let b : size_at now from + count ≡ size_at c from = omega arith in
      ap₂ (λ v w. set (set now.sizes to v) from w) a b
      ∙ undo_two c.sizes from to (size_at c from - count) (size_at c to + count) 0 ne

  pub enough_again : count ≤ size_at now to
  enough_again = let t = size_to c h from to count lf lt ne some enough in omega arith

  low_again : low_after now.low to from count ≡ c.low
  low_again =
      let k = kept c h from to count lf lt ne some enough in
      let back = kept now k to from count lt lf (λ e. ne (sym e)) some enough_again in
      let same : (shifted now to from count).sizes ≡ c.sizes = sizes_again in
      sym back.open_part ∙ ap (λ xs. sum (take 90 xs)) same ∙ h.open_part

  pub undone : shifted (shifted c from to count) to from count ≡ c
  undone =
      same_chains _ c.under _ c.tops _ c.sizes c.used _ c.low under_again tops_again sizes_again low_again

  -- the slots of each place after a carry
  pub slots_left : (rest : ℕ) → size_at c from ≡ count + rest
      → slots_of c from ≡ chain c.under count (top_at c from) ++ slots_of now from
  slots_left rest e =
      let s = size_from c h from to count lf lt ne some enough in
      let r : size_at now from ≡ rest = omega arith in
      chain_add c.under count rest (size_at c from) (top_at c from) e
      ∙ ap (λ xs. chain c.under count (top_at c from) ++ xs)
      (chain_same c.under now.under rest (slot_at c from count) (top_at now from)
      (λ k lk. sym (slot_left c h from to count lf lt ne some enough k (count + k) refl (omega arith)
      ∙ follow_add c.under count k (count + k) (top_at c from) refl))
      ∙ ap (λ n. chain now.under n (top_at now from)) (sym r))

  pub slots_there : slots_of now to ≡ chain c.under count (top_at c from) ++ slots_of c to
  slots_there =
      let s = size_to c h from to count lf lt ne some enough in
      ap (λ n. chain now.under n (top_at now to)) s
      ∙ chain_add now.under count (size_at c to) (size_at c to + count) (top_at now to) (omega arith)
      ∙ ap₂ ◌++◌
      (chain_same now.under c.under count (top_at now to) (top_at c from)
      (λ k lk. slot_carried c h from to count lf lt ne some enough k lk))
      (chain_same now.under c.under (size_at c to) (slot_at now to count) (top_at c to)
      (λ k lk. sym (follow_add now.under count k (count + k) (top_at now to) refl)
      ∙ slot_below c h from to count lf lt ne some enough k (count + k) refl (omega arith)))

  pub slots_other : (p : ℕ) → p < 315 → p ≢ from → p ≢ to → slots_of now p ≡ slots_of c p
  slots_other p lp nf nt =
      ap (λ n. chain now.under n (top_at now p)) (size_other c h from to count lf lt ne some enough p nf nt)
      ∙ chain_same now.under c.under (size_at c p) (top_at now p) (top_at c p)
      (λ k lk. slot_other c h from to count lf lt ne some enough p k lp nf nt (omega arith))
