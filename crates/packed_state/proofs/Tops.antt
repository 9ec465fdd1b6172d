-- What the top and the size of a place say of its cards.
use Rattle.std.proofs.Common.{◌≡◌, ◌≢◌, ℕ, zero, suc, ◌<◌, List, [], ◌∷◌, length}
use Rattle.std.proofs.Common.{sym, ap, ap₂, ◌∙◌, subst, arith, inl, inr}
use Rattle.std.specs.Prelude.{Option, Some, None}
use Rattle.std.proofs.lemmas.Bool.{cases_lt}
use Rattle.card_piles.specs.declared.Card.{Card}
use Rattle.game_rules.specs.Board.{top_of}
use Rattle.card_links.specs.Chains.{link, follow, chain, top_at, size_at, slots_of}
use Rattle.card_links.proofs.Following.{length-chain}
use Rattle.packed_state.specs.Packed.{Linked, IsLinked, cards_at, card_of}
use Rattle.packed_state.proofs.Seams.{top-seam}
use Rattle.packed_state.proofs.Contents.{up, up-append, length-up}

pub size_is : (l : Linked) (p : ℕ) → size_at l.links p ≡ length (cards_at l p)
size_is l p =
    sym (length-up l.cards (slots_of l.links p) ∙ length-chain l.links.under (size_at l.links p) (top_at l.links p))

-- the first slot of a chain is the last card
pub up_last : (cards : List Card) (under : List ℕ) (n t : ℕ) → 0 < n
    → top_of (up cards (chain under n t)) ≡ Some (card_of cards t)
up_last cards under zero t h = absurd (omega arith)
up_last cards under (suc n) t h =
    ap top_of (up-append cards (t ∷ []) (chain under n (link under t)))
    ∙ top-seam (up cards (chain under n (link under t))) (card_of cards t)

module _ (c d : Linked) (view : c ≡ d) (h : IsLinked c) (p : ℕ) (lp : p < 315) where
  ends_here : size_at c.links p ≡ 0 → top_at c.links p ≡ 255
  ends_here e = let x = h.chained.ends p lp in subst (λ n. follow c.links.under n (top_at c.links p) ≡ 255) e x

  inside_here : 0 < size_at c.links p → top_at c.links p < 208
  inside_here s = let w = h.chained.within p 0 lp s in let f = h.chained.fits in omega arith

  pub top_inside : (slot : ℕ) → slot ≡ top_at c.links p → slot ≢ 255 → slot < 208
  top_inside slot e ne = elim (cases_lt 0 (size_at c.links p)) [
    | inl s ↦ let i = inside_here s in omega arith
    | inr z ↦ let n : size_at c.links p ≡ 0 = omega arith in absurd (ne (e ∙ ends_here n))
  ]

  pub top_none : (slot : ℕ) → slot ≡ top_at c.links p → slot ≡ 255 → None ≡ top_of (cards_at d p)
  top_none slot e f = elim (cases_lt 0 (size_at c.links p)) [
    | inl s ↦ let i = inside_here s in absurd (omega arith)
    | inr z ↦
        let n : size_at c.links p ≡ 0 = omega arith in
        let none : cards_at c p ≡ [] = ap (λ k. up c.cards (chain c.links.under k (top_at c.links p))) n in
        sym (ap (λ x. top_of (cards_at x p)) (sym view) ∙ ap top_of none)
  ]

  pub top_some : (slot : ℕ) (card : Card) → slot ≡ top_at c.links p → slot ≢ 255
      → card ≡ card_of d.cards slot → Some card ≡ top_of (cards_at d p)
  top_some slot card e ne k = elim (cases_lt 0 (size_at c.links p)) [
    | inl s ↦
        let same : card ≡ card_of c.cards (top_at c.links p) = k ∙ ap₂ (λ x y. card_of x.cards y) (sym view) e in
        ap (λ x. let y : Option Card = Some x in y) same
        ∙ sym (ap (λ x. top_of (cards_at x p)) (sym view)
        ∙ up_last c.cards c.links.under (size_at c.links p) (top_at c.links p) s)
    | inr z ↦ let n : size_at c.links p ≡ 0 = omega arith in absurd (ne (e ∙ ends_here n))
  ]
