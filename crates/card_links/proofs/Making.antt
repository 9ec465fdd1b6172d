-- What the code of a carry needs and makes.
use Rattle.std.proofs.Common.{◌≡◌, ◌≢◌, ℕ, ◌+◌, ◌-◌, ◌<◌, ◌≤◌, length, get_or, set, sym, ap, ◌∙◌, subst, arith}
use Rattle.std.proofs.lemmas.List.{get_or_default}
use Rattle.card_links.specs.Chains.{Chains, IsChained, size_at, slot_at, shifted, low_after}
use Rattle.card_links.proofs.Sums.{low_more, two_below, one_below_first, first_below}
use Rattle.card_links.proofs.Keeping.{kept}
use Rattle.card_links.proofs.Shifting.{first_inside}

module _ (c d : Chains) (view : c ≡ d) (h : IsChained c) (from to count : ℕ) (lf : from < 315) (lt : to < 315)
    (ne : from ≢ to) (some : 0 < count) (enough : count ≤ size_at d from) where
  -- the facts on the value that callers see, as facts on the fields
  pub here : count ≤ size_at c from
  here = subst (λ x. count ≤ size_at x from) (sym view) enough

  pub few : size_at c to + count ≤ 208
  few =
      let l = h.sizes_length in let a = h.all in let f = h.fits in let e = here in
      let two = two_below c.sizes from to (omega arith) (omega arith) ne in
      omega arith

  pub less : from < 90 → count ≤ c.low
  less below =
      let l = h.sizes_length in let a = h.open_part in let e = here in
      let one = one_below_first c.sizes 90 from (omega arith) below in
      omega arith

  pub more : to < 90 → 90 ≤ from → c.low + count ≤ 208
  more below above =
      let k = kept c h from to count lf lt ne some here in
      let after = shifted c from to count in
      let a = k.open_part in let b = k.all in let f = k.fits in
      let one = first_below after.sizes 90 in
      let two = low_more c.low from to count above below in
      omega arith

  pub last_inside : (last : ℕ) → last ≡ slot_at d from (count - 1) → last < length c.under
  last_inside last e =
      let f = first_inside c h from to count lf lt ne some here in
      subst (λ x. x < length c.under) (ap (λ x. slot_at x from (count - 1)) view ∙ sym e) f

  -- the fields as the code writes them
  pub made : (last low : ℕ) → last ≡ slot_at d from (count - 1) → low ≡ low_after c.low from to count →
      record {
        under = set c.under last (get_or c.tops to 0);
        tops = set (set c.tops from (get_or c.under last 0)) to (get_or c.tops from 0);
        sizes = set (set c.sizes from (get_or c.sizes from 0 - count)) to (get_or c.sizes to 0 + count);
        used = c.used;
        low = low;
      } ≡ shifted c from to count
  made last low e l =
      let t = h.tops_length in
      let i = last_inside last e in
      let at : last ≡ slot_at c from (count - 1) = e ∙ sym (ap (λ x. slot_at x from (count - 1)) view) in
      let a = get_or_default c.tops to 0 255 (omega arith) in
      let b = get_or_default c.tops from 0 255 (omega arith) in
      let u = get_or_default c.under last 0 255 i in
      cc

  pub made_kept : (last low : ℕ) → last ≡ slot_at d from (count - 1) → low ≡ low_after c.low from to count →
      IsChained (record {
        under = set c.under last (get_or c.tops to 0);
        tops = set (set c.tops from (get_or c.under last 0)) to (get_or c.tops from 0);
        sizes = set (set c.sizes from (get_or c.sizes from 0 - count)) to (get_or c.sizes to 0 + count);
        used = c.used;
        low = low;
      })
  made_kept last low e l = subst IsChained (sym (made last low e l)) (kept c h from to count lf lt ne some here)
