-- A legal carry, as callers see it.
use Rattle.std.proofs.Common.{◌≡◌, ℕ, ◌-◌, Bool, true, false, List, refl, sym, ap, ap₂, ◌∙◌, subst}
use Rattle.std.specs.Prelude.{IsTrue, Option, Some, None, nat_lt, if◌then◌else◌}
use Rattle.std.proofs.lemmas.Bool.{eqb-true}
use Rattle.std.proofs.lemmas.List.{get_or-set_other}
use Rattle.game_rules.specs.declared.RuleParts.{RuleParts}
use Rattle.card_piles.specs.declared.Card.{Card}
use Rattle.game_rules.specs.declared.Move.{Move}
use Rattle.game_rules.specs.declared.Move.TheVariants.{Carry}
use Rattle.game_rules.specs.declared.Place.{Place}
use Rattle.game_rules.specs.declared.Place.TheVariants.{Reserve}
use Rattle.game_rules.specs.Board.{has_place}
use Rattle.game_rules.specs.Play.{is_legal_carry}
use Rattle.card_links.specs.Chains.{Chains, top_at, slot_at, shifted}
use Rattle.card_links.proofs.Shifting.{at_other}
use Rattle.packed_state.specs.Packed.{Linked, IsLinked, board_of, cards_at, face_at, card_of}
use Rattle.packed_state.specs.Slots.{card_in, ChangesCarried}
use Rattle.packed_state.specs.Undoing.{face_of, gone, carry_note, before, fits_carried, first_slot, origin_of}
use Rattle.packed_state.specs.Undoing.{ChangesOne}
use Rattle.packed_state.proofs.Returning.{back_again, fits_again}
use Rattle.packed_state.proofs.Moving.{never_put}
use Rattle.packed_state.proofs.Carrying.{can, facts}
use Rattle.packed_state.proofs.Changing.{carried}

chosen : {X : Type 0} (b : Bool) (x : X) → IsTrue b → (if b then Some x else None) ≡ Some x
chosen true x h = refl
chosen false x h = cc

module _ (rules : RuleParts) (l : Linked) (h : IsLinked l) (from to : Place) (count : ℕ)
    (legal : IsTrue (is_legal_carry rules (board_of l) from to count)) where
  pub before_gone : before (carry_note rules.stacked l from to count) (gone rules l from to count) ≡ Some l
  before_gone =
      let it = can rules l h from to count legal in
      chosen (fits_carried (gone rules l from to count) from to count (face_of l from) rules.stacked) _
      (fits_again rules l h from to count it)
      ∙ ap (λ x. let y : Option Linked = Some x in y) (back_again rules l h from to count it)

pub one_changed : (c : Chains) (from to count : ℕ)
    → ChangesOne c (shifted c from to count) (slot_at c from (count - 1)) from to
one_changed c from to count = record {
  tops = λ p nf nt. at_other c.tops from to p _ _ 255 nf nt;
  links = λ s ne. get_or-set_other c.under (slot_at c from (count - 1)) s (top_at c to) 255 ne;
}

then_true : (v a b : Bool) → v ≡ true → IsTrue (if v then a else b) → IsTrue a
then_true true a b e h = h
then_true false a b e h = cc

-- what a legal carry changes
pub carried_by : (rules : RuleParts) (l : Linked) (h : IsLinked l) (from to : Place) (count : ℕ)
    (legal : IsTrue (is_legal_carry rules (board_of l) from to count))
    → ((i : ℕ) → from ≡ Reserve i → l.stacked ≡ rules.stacked)
    → ChangesCarried l (gone rules l from to count) from to (first_slot l (origin_of rules.stacked l from) count)
carried_by rules l h from to count legal alike =
    let known = facts rules l h from to count legal in
    carried rules l h from to count (can rules l h from to count legal)
    (λ i e. never_put rules l.shape l.redeals_left (cards_at l) (face_at l) to _ i known.puts e)
    alike
    (λ i e st. eqb-true i 0 (then_true rules.stacked _ _ st
    (subst (λ x. IsTrue (has_place rules (board_of l) x)) e known.from_place)))

-- the same for a move that is this carry
pub carried_move : (l m : Linked) (rs : Bool) (move : Move) (from to from' to' : Place) (count count' : ℕ)
    → move ≡ Carry from to count → move ≡ Carry from' to' count'
    → (((i : ℕ) → from ≡ Reserve i → l.stacked ≡ rs)
    → ChangesCarried l m from to (first_slot l (origin_of rs l from) count))
    → ((i : ℕ) → from' ≡ Reserve i → l.stacked ≡ rs)
    → ChangesCarried l m from' to' (first_slot l (origin_of rs l from') count')
carried_move l m rs move from to from' to' count count' ea eb f =
    let same : Carry from to count ≡ Carry from' to' count' = sym ea ∙ eb in
    let same_from : from ≡ from' = cc in
    let same_to : to ≡ to' = cc in
    let same_count : count ≡ count' = cc in
    let f1 = subst (λ x. ((i : ℕ) → x ≡ Reserve i → l.stacked ≡ rs)
    → ChangesCarried l m x to (first_slot l (origin_of rs l x) count)) same_from f in
    let f2 = subst (λ x. ((i : ℕ) → from' ≡ Reserve i → l.stacked ≡ rs)
    → ChangesCarried l m from' x (first_slot l (origin_of rs l from') count)) same_to f1 in
    subst (λ x. ((i : ℕ) → from' ≡ Reserve i → l.stacked ≡ rs)
    → ChangesCarried l m from' to' (first_slot l (origin_of rs l from') x)) same_count f2

-- no answer of a reader of cards changes where neither cards nor the slots in play do
pub same_card_in : (l m : Linked) → m.cards ≡ l.cards → m.links.used ≡ l.links.used → (slot : ℕ)
    → card_in m slot ≡ card_in l slot
same_card_in l m ec eu slot =
    ap₂ (λ (cs : List Card) (u : ℕ). let o : Option Card = (if nat_lt slot u then Some (card_of cs slot) else None) in
    o) ec eu
