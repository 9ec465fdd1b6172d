-- One slot each for the first places.
use Rattle.std.proofs.Common.{◌≡◌, ◌≢◌, ℕ, zero, suc, ◌+◌, ◌-◌, ◌<◌, ◌≤◌, List, [], ◌∷◌, ◌++◌, length, get_or, refl}
use Rattle.std.proofs.Common.{sym, ap, ap₂, ◌∙◌, subst, arith, inl, inr, length-append, append_assoc}
use Rattle.std.proofs.lemmas.Bool.{cases_eq}
use Rattle.std.proofs.lemmas.List.{get_or_append_left}
use Rattle.card_links.specs.Chains.{Chains, IsChained, top_at, size_at, slots_of, shifted, dealt_out, gathered}
use Rattle.card_links.proofs.Shifting.{size_from, size_to, size_other}
use Rattle.card_links.proofs.Keeping.{kept}
use Rattle.card_links.proofs.Undoing.{undone, slots_left, slots_there, slots_other}

pub record Out (c d : Chains) (from n : ℕ) : Type 0 where
  pub chained : IsChained d
  pub left : size_at d from ≡ size_at c from - n
  pub there : (p : ℕ) → p < n → size_at d p ≡ size_at c p + 1
  pub other : (p : ℕ) → n ≤ p → p ≢ from → size_at d p ≡ size_at c p
  pub front : List ℕ
  pub long : length front ≡ n
  pub rest : slots_of c from ≡ front ++ slots_of d from
  pub got : (p : ℕ) → p < n → slots_of d p ≡ get_or front p 0 ∷ slots_of c p
  pub others : (p : ℕ) → p < 315 → n ≤ p → p ≢ from → slots_of d p ≡ slots_of c p

get_front : (xs : List ℕ) (x p : ℕ) → p < length xs → get_or (xs ++ x ∷ []) p 0 ≡ get_or xs p 0
get_front xs x p h = get_or_append_left xs (x ∷ []) 0 p h

get_last : (xs : List ℕ) (x p : ℕ) → p ≡ length xs → get_or (xs ++ x ∷ []) p 0 ≡ x
get_last [] x p e = ap (λ k. get_or (x ∷ []) k 0) e
get_last (y ∷ xs) x zero e = absurd (omega arith)
get_last (y ∷ xs) x (suc p) e = get_last xs x p (omega arith)

module _ (from : ℕ) (lf : from < 315) (c : Chains) (h : IsChained c) where
  pub out : (n : ℕ) → n ≤ from → n ≤ size_at c from → Out c (dealt_out c from n) from n
  out zero nf enough = record {
    chained = h;
    left = omega arith;
    there = λ p lp. absurd (omega arith);
    other = λ p _ _. refl;
    front = [];
    long = refl;
    rest = refl;
    got = λ p lp. absurd (omega arith);
    others = λ p _ _ _. refl;
  }
  out (suc n) nf enough =
      let o = out n (omega arith) (omega arith) in
      let d = dealt_out c from n in
      let l = o.left in let long = o.long in
      let one : 1 ≤ size_at d from = omega arith in
      let ne : from ≢ n = λ e. absurd (omega arith) in
      let ln : n < 315 = omega arith in
      let some : 0 < 1 = omega arith in
      let x = top_at d from in
      let sf = size_from d o.chained from n 1 lf ln ne some one in
      let st = size_to d o.chained from n 1 lf ln ne some one in
      let on = o.other n (omega arith) (λ e. ne (sym e)) in
      record {
        chained = kept d o.chained from n 1 lf ln ne some one;
        left = omega arith;
        there = λ p lp. elim (cases_eq p n) [
          | inl e ↦ ap (size_at (shifted d from n 1)) e ∙ st ∙ ap (λ k. k + 1) (on ∙ ap (size_at c) (sym e))
          | inr np ↦ size_other d o.chained from n 1 lf ln ne some one p (λ e. absurd (omega arith)) np
              ∙ o.there p (omega arith)
        ];
        other = λ p lp np. size_other d o.chained from n 1 lf ln ne some one p np (λ e. absurd (omega arith))
            ∙ o.other p (omega arith) np;
        front = o.front ++ top_at d from ∷ [];
        long = length-append o.front (x ∷ []) ∙ omega arith;
        rest =
            o.rest ∙ ap (λ xs. o.front ++ xs)
            (slots_left d o.chained from n 1 lf ln ne some one (size_at d from - 1) (omega arith))
            ∙ sym (append_assoc o.front (x ∷ []) (slots_of (shifted d from n 1) from));
        got = λ p lp. elim (cases_eq p n) [
          | inl e ↦
              let last : get_or (o.front ++ x ∷ []) p 0 ≡ x = get_last o.front x p (e ∙ sym long) in
              ap (slots_of (shifted d from n 1)) e ∙ slots_there d o.chained from n 1 lf ln ne some one
              ∙ ap₂ ◌∷◌ (sym last) (o.others n ln (omega arith) (λ q. ne (sym q)) ∙ ap (slots_of c) (sym e))
          | inr np ↦
              slots_other d o.chained from n 1 lf ln ne some one p (omega arith) (λ e. absurd (omega arith)) np
              ∙ o.got p (omega arith) ∙ ap (λ y. y ∷ slots_of c p) (sym (get_front o.front x p (omega arith)))
        ];
        others = λ p lp np nf2. slots_other d o.chained from n 1 lf ln ne some one p lp nf2 (λ e. absurd (omega arith))
            ∙ o.others p lp (omega arith) nf2;
      }

  pub out_one : (n : ℕ) → n < from → n < size_at c from → 1 ≤ size_at (dealt_out c from n) from
  out_one n nf enough = let o = out n (omega arith) (omega arith) in let l = o.left in omega arith

  pub out_undone : (n : ℕ) → n ≤ from → n ≤ size_at c from → gathered (dealt_out c from n) from n ≡ c
  out_undone zero nf enough = refl
  out_undone (suc n) nf enough =
      let o = out n (omega arith) (omega arith) in
      let one = out_one n (omega arith) (omega arith) in
      let ne : from ≢ n = λ e. absurd (omega arith) in
      ap (λ d. gathered d from n) (undone (dealt_out c from n) o.chained from n 1 lf (omega arith) ne (omega arith) one)
      ∙ out_undone n (omega arith) (omega arith)

-- while slots are gathered
pub record Ready (d : Chains) (n : ℕ) : Type 0 where
  pub chained : IsChained d
  pub each : (p : ℕ) → p < n → 1 ≤ size_at d p

module _ (to : ℕ) (lt : to < 315) where
  pub ready_next : (d : Chains) (n m : ℕ) → n ≡ suc m → n ≤ to → Ready d n → Ready (shifted d m to 1) m
  ready_next d n m e le r =
      let one = r.each m (omega arith) in
      let ne : m ≢ to = λ q. absurd (omega arith) in
      record {
        chained = kept d r.chained m to 1 (omega arith) lt ne (omega arith) one;
        each = λ p lp. let s =
            size_other d r.chained m to 1 (omega arith) lt ne (omega arith) one p (λ q. absurd (omega arith))
            (λ q. absurd (omega arith)) in let o = r.each p (omega arith) in omega arith;
      }

  pub gather_next : (d : Chains) (n m : ℕ) → n ≡ suc m → gathered d to n ≡ gathered (shifted d m to 1) to m
  gather_next d n m e = ap (gathered d to) e

pub ready_first : (d : Chains) (n : ℕ) → IsChained d → ((p : ℕ) → p < n → 1 ≤ size_at d p) → Ready d n
ready_first d n h f = record { chained = h; each = f }

pub gather_step : (to : ℕ) → to < 315 → (d e x : Chains) (n m q : ℕ) → e ≡ shifted d q to 1 → q ≡ m → n ≡ suc m → n ≤ to
    → gathered d to n ≡ x → Ready d n
    → (gathered e to m ≡ x) × Ready e m
gather_step to lt d e x n m q made eq en le same ready =
    let at : e ≡ shifted d m to 1 = made ∙ ap (λ k. shifted d k to 1) eq in (
      ap (λ y. gathered y to m) at ∙ sym (gather_next to lt d n m en)
          ∙ same,
      subst (λ y. Ready y m) (sym at) (ready_next to lt d n m en le ready),
    )

-- what is gathered
pub record Gathered (d e : Chains) (to n : ℕ) : Type 0 where
  pub chained : IsChained e
  pub less : (p : ℕ) → p < n → size_at e p ≡ size_at d p - 1
  pub other : (p : ℕ) → n ≤ p → p ≢ to → size_at e p ≡ size_at d p

module _ (to : ℕ) (lt : to < 315) where
  pub gathering : (n : ℕ) (d : Chains) → n ≤ to → Ready d n → Gathered d (gathered d to n) to n
  gathering zero d le r = record { chained = r.chained; less = λ p lp. absurd (omega arith); other = λ p _ _. refl }
  gathering (suc n) d le r =
      let one = r.each n (omega arith) in
      let ne : n ≢ to = λ q. absurd (omega arith) in
      let ln : n < 315 = omega arith in
      let g = gathering n (shifted d n to 1) (omega arith) (ready_next to lt d (suc n) n refl le r) in
      let sf = size_from d r.chained n to 1 ln lt ne (omega arith) one in
      record {
        chained = g.chained;
        less = λ p lp. elim (cases_eq p n) [
          | inl e ↦ g.other p (omega arith) (λ q. absurd (omega arith)) ∙ ap (size_at (shifted d n to 1)) e ∙ sf
              ∙ ap (λ k. size_at d k - 1) (sym e)
          | inr np ↦
              g.less p (omega arith)
              ∙ ap (λ k. k - 1)
              (size_other d r.chained n to 1 ln lt ne (omega arith) one p np (λ q. absurd (omega arith)))
        ];
        other = λ p lp nt. g.other p (omega arith) nt
            ∙ size_other d r.chained n to 1 ln lt ne (omega arith) one p (λ q. absurd (omega arith)) nt;
      }
