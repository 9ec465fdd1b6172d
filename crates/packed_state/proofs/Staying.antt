-- Deals and redeals leave the foundations, and bring no slot into play.
use Rattle.std.proofs.Common.{◌≡◌, ◌≢◌, ℕ, zero, suc, ◌+◌, min, refl, arith}
use Rattle.game_rules.specs.declared.RuleParts.{RuleParts}
use Rattle.card_links.specs.Chains.{Chains, size_at, dealt_out}
use Rattle.packed_state.specs.Packed.{Linked, IsLinked, HoldsFoundations}
use Rattle.packed_state.specs.Turning.{turned, with_redeals, dealt}
use Rattle.packed_state.proofs.ListsTurned.{stock_list, waste_list, hole_list, turned_other}
use Rattle.packed_state.proofs.Tabling.{other_cards}
use Rattle.packed_state.proofs.Keeping.{others_hold}

pub dealt_used : (c : Chains) (from n : ℕ) → (dealt_out c from n).used ≡ c.used
dealt_used c from zero = refl
dealt_used c from (suc n) = dealt_used c from n

module _ (rules : RuleParts) (l : Linked) (h : IsLinked l) (holds : HoldsFoundations rules l) where
  stock_waste : ◌≢◌ {A = ℕ} 89 88
  stock_waste e = omega arith

  stock_hole : ◌≢◌ {A = ℕ} 89 106
  stock_hole e = omega arith

  waste_stock : ◌≢◌ {A = ℕ} 88 89
  waste_stock e = omega arith

  pub waste_holds : (draw : ℕ) → HoldsFoundations rules (turned l 89 88 (min (size_at l.links 89) draw))
  waste_holds draw =
      let few = h.sized.small.foundations in
      others_hold rules l (turned l 89 88 (min (size_at l.links 89) draw)) refl
      (λ f lf. turned_other l h 89 88 (min (size_at l.links 89) draw) (stock_list l) (waste_list l) stock_waste
      (omega arith)
      (90 + f) (omega arith) (λ e. absurd (omega arith)) (λ e. absurd (omega arith)))
      holds

  pub hole_holds : HoldsFoundations rules (turned l 89 106 (min (size_at l.links 89) 1))
  hole_holds =
      let few = h.sized.small.foundations in
      others_hold rules l (turned l 89 106 (min (size_at l.links 89) 1)) refl
      (λ f lf. turned_other l h 89 106 (min (size_at l.links 89) 1) (stock_list l) (hole_list l) stock_hole
      (omega arith)
      (90 + f) (omega arith) (λ e. absurd (omega arith)) (λ e. absurd (omega arith)))
      holds

  pub tableau_holds : HoldsFoundations rules (dealt l (min (size_at l.links 89) l.shape.piles))
  tableau_holds =
      let few = h.sized.small.foundations in
      others_hold rules l (dealt l (min (size_at l.links 89) l.shape.piles)) refl
      (λ f lf. other_cards l h (90 + f) (omega arith) (omega arith) (λ e. absurd (omega arith)))
      holds

  pub redeal_holds : (left : ℕ) → HoldsFoundations rules (with_redeals (turned l 88 89 (size_at l.links 88)) left)
  redeal_holds left =
      let few = h.sized.small.foundations in
      others_hold rules l (with_redeals (turned l 88 89 (size_at l.links 88)) left) refl
      (λ f lf. turned_other l h 88 89 (size_at l.links 88) (waste_list l) (stock_list l) waste_stock (omega arith)
      (90 + f) (omega arith) (λ e. absurd (omega arith)) (λ e. absurd (omega arith)))
      holds
