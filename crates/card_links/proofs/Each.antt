-- Slots that are carried one after the other.
use Rattle.std.proofs.Common.{◌≡◌, ◌≢◌, ℕ, zero, suc, ◌+◌, ◌-◌, ◌<◌, ◌≤◌, List, [], ◌∷◌, ◌++◌, length, reverse, refl}
use Rattle.std.proofs.Common.{sym, ap, ◌∙◌, arith, length-append, append_assoc}
use Rattle.std.proofs.lemmas.List.{reverse-append}
use Rattle.card_links.specs.Chains.{Chains, IsChained, top_at, size_at, slots_of, shifted, shifted_each}
use Rattle.card_links.proofs.Shifting.{size_from, size_to, size_other}
use Rattle.card_links.proofs.Keeping.{kept}
use Rattle.card_links.proofs.Undoing.{undone, slots_left, slots_there, slots_other}

-- what holds after each of them
pub record Each (c d : Chains) (from to n : ℕ) : Type 0 where
  pub chained : IsChained d
  pub left : size_at d from ≡ size_at c from - n
  pub there : size_at d to ≡ size_at c to + n
  pub other : (p : ℕ) → p ≢ from → p ≢ to → size_at d p ≡ size_at c p
  pub other_slots : (p : ℕ) → p < 315 → p ≢ from → p ≢ to → slots_of d p ≡ slots_of c p

module _ (from to : ℕ) (lf : from < 315) (lt : to < 315) (ne : from ≢ to) where
  pub each : (c : Chains) → IsChained c → (n : ℕ) → n ≤ size_at c from → Each c (shifted_each c from to n) from to n
  each c h zero enough =
      record {
        chained = h;
        left = omega arith;
        there = omega arith;
        other = λ p _ _. refl;
        other_slots =
            λ p _ _ _. refl;
      }
  each c h (suc n) enough =
      let e = each c h n (omega arith) in
      let d = shifted_each c from to n in
      let l = e.left in let t = e.there in
      let one : 1 ≤ size_at d from = omega arith in
      let sf = size_from d e.chained from to 1 lf lt ne (omega arith) one in
      let st = size_to d e.chained from to 1 lf lt ne (omega arith) one in
      record {
        chained = kept d e.chained from to 1 lf lt ne (omega arith) one;
        left = omega arith;
        there = omega arith;
        other = λ p nf nt. size_other d e.chained from to 1 lf lt ne (omega arith) one p nf nt ∙ e.other p nf nt;
        other_slots = λ p lp nf nt. slots_other d e.chained from to 1 lf lt ne (omega arith) one p lp nf nt
            ∙ e.other_slots p lp nf nt;
      }

  -- one more at the beginning
  pub each_first : (c : Chains) (n : ℕ) → shifted_each (shifted c from to 1) from to n ≡ shifted_each c from to (suc n)
  each_first c zero = refl
  each_first c (suc n) = ap (λ d. shifted d from to 1) (each_first c n)

  pub each_size : (c : Chains) → IsChained c → (n : ℕ) → n < size_at c from
      → 1 ≤ size_at (shifted_each c from to n) from
  each_size c h n enough = let e = each c h n (omega arith) in let l = e.left in omega arith

module _ (from to : ℕ) (lf : from < 315) (lt : to < 315) (ne : from ≢ to) where
  back : to ≢ from
  back e = ne (sym e)

  -- and all back again
  pub each_undone : (c : Chains) → IsChained c → (n : ℕ) → n ≤ size_at c from
      → shifted_each (shifted_each c from to n) to from n ≡ c
  each_undone c h zero enough = refl
  each_undone c h (suc n) enough =
      let d = shifted_each c from to n in
      let e = each from to lf lt ne c h n (omega arith) in
      let one = each_size from to lf lt ne c h n (omega arith) in
      sym (each_first to from lt lf back (shifted d from to 1) n)
      ∙ ap (λ x. shifted_each x to from n) (undone d e.chained from to 1 lf lt ne (omega arith) one)
      ∙ each_undone c h n (omega arith)

-- the slots that went, and where they lie
pub record Turned (c d : Chains) (from to n : ℕ) : Type 0 where
  pub front : List ℕ
  pub long : length front ≡ n
  pub rest : slots_of c from ≡ front ++ slots_of d from
  pub there : slots_of d to ≡ reverse front ++ slots_of c to

module _ (from to : ℕ) (lf : from < 315) (lt : to < 315) (ne : from ≢ to) (c : Chains) (h : IsChained c) where
  pub turned_each : (n : ℕ) → n ≤ size_at c from → Turned c (shifted_each c from to n) from to n
  turned_each zero enough = record { front = []; long = refl; rest = refl; there = refl }
  turned_each (suc n) enough =
      let e = each from to lf lt ne c h n (omega arith) in
      let t = turned_each n (omega arith) in
      let d = shifted_each c from to n in
      let one = each_size from to lf lt ne c h n (omega arith) in
      let x = top_at d from in
      let long = t.long in
      record {
        front = t.front ++ top_at d from ∷ [];
        long = length-append t.front (x ∷ []) ∙ omega arith;
        rest =
            t.rest
            ∙ ap (λ xs. t.front ++ xs)
            (slots_left d e.chained from to 1 lf lt ne (omega arith) one (size_at d from - 1) (omega arith))
            ∙ sym (append_assoc t.front (x ∷ []) (slots_of (shifted d from to 1) from));
        there =
            slots_there d e.chained from to 1 lf lt ne (omega arith) one
            ∙ ap (λ xs. x ∷ xs) t.there
            ∙ ap (λ xs. xs ++ slots_of c to) (sym (reverse-append t.front (x ∷ [])));
      }
