-- What the code of a carry needs and makes.
use Rattle.std.proofs.Common.{◌≡◌, ◌≢◌, ℕ, ◌-◌, ◌<◌, ◌≤◌, Bool, true, false, ◌||◌, List, length, sym, ap}
use Rattle.std.proofs.Common.{ap₂, ◌∙◌}
use Rattle.std.proofs.Common.{subst, arith}
use Rattle.std.specs.Prelude.{IsTrue, Option, not, nat_le, nat_eq}
use Rattle.std.proofs.lemmas.Bool.Decides.{nat_tests}
use Rattle.card_piles.specs.declared.Card.{Card}
use Rattle.game_rules.specs.declared.Place.{Place}
use Rattle.game_rules.specs.declared.Place.TheVariants.{Tableau}
use Rattle.game_rules.proofs.Limits.{both}
use Rattle.card_links.specs.Chains.{Chains, size_at, shifted}
use Rattle.packed_state.specs.declared.Shape.{Shape}
use Rattle.packed_state.specs.Packed.{Linked, IsLinked, index_of, source_of, shape_after, shape_before}
use Rattle.packed_state.specs.Undoing.{CanCarry, with_face, with_card, fits_carried}
use Rattle.packed_state.proofs.Linking.{reshaped, CanShift, CanReturn, can_shift, can_unshift, carry_linked}
use Rattle.packed_state.proofs.Linking.{return_linked}
use Rattle.packed_state.proofs.Linking.{pile_below, pile_of_before, length-with_card, below_of}

at_most : (a b : ℕ) → IsTrue (nat_le a b) → a ≤ b
at_most a b h = grind (arith, nat_tests)

apart_of : (a b : ℕ) → IsTrue (not (nat_eq a b)) → a ≢ b
apart_of a b h e =
    let s : nat_eq a b ≡ true = grind (arith, nat_tests) in
    let n : not (nat_eq a b) ≡ false = ap not s in cc

then_of : (v w : Bool) → IsTrue (not v || w) → v ≡ true → IsTrue w
then_of true w h e = h
then_of false w h e = cc

-- what the test of a carry that is taken back says
pub can_return : (v : Bool) (l : Linked) (from to : Place) (count face : ℕ)
    → IsTrue (fits_carried l from to count face v)
    → CanReturn v l from to count face
can_return v l from to count face h =
    let seven = both _ _ h in
    let six = both _ _ seven.0 in
    let five = both _ _ six.0 in
    let four = both _ _ five.0 in
    let three = both _ _ four.0 in
    let two = both _ _ three.0 in
    let one = both _ _ two.0 in
    record {
      few = at_most _ _ one.0;
      from_place = one.1;
      to_place = two.1;
      apart = λ e. apart_of _ _ three.1 (sym e);
      some = below_of _ _ four.1;
      left = at_most _ _ five.1;
      fits = at_most _ _ six.1;
      room = λ single. at_most _ _ (then_of _ _ seven.1 single);
    }

same_board : (l : Linked) (k m : Chains) (cs ds : List Card) (f g : List ℕ) (s t : Shape) → k ≡ m → cs ≡ ds → f ≡ g
    → s ≡ t
    → reshaped l k cs f s ≡ reshaped l m ds g t
same_board l k m cs ds f g s t ek ec ef es =
    ap₂ (λ x y. reshaped l x y f s) ek ec ∙ ap₂ (λ x y. reshaped l m ds x y) ef es

-- a carry: `c` is what the code sees and `d` what its clauses say
module _ (rs : Bool) (c d : Linked) (view : c ≡ d) (h : IsLinked c) (from to : Place) (count : ℕ)
    (can_d : CanCarry rs d from to count) where
  pub can_here : CanCarry rs c from to count
  can_here = subst (λ x. CanCarry rs x from to count) (sym view) can_d

  shifts : CanShift c.links (source_of rs c.shape from) (index_of to) count
  shifts = can_shift rs c h from to count can_here

  pub from_fits : (n : ℕ) → n ≡ source_of rs c.shape from → n < 315
  from_fits n e = let f = shifts.from_below in omega arith

  pub to_fits : (n : ℕ) → n ≡ index_of to → n < 315
  to_fits n e = let f = shifts.to_below in omega arith

  pub enough_fits : (n : ℕ) → n ≡ source_of rs c.shape from → count ≤ size_at c.links n
  enough_fits n e = subst (λ x. count ≤ size_at c.links x) (sym e) can_here.enough

  pub depth_fits : (n : ℕ) → n ≡ source_of rs c.shape from → count - 1 < size_at c.links n
  depth_fits n e = let f = enough_fits n e in let s = can_here.some in omega arith

  pub apart_fits : (n m : ℕ) → n ≡ source_of rs c.shape from → m ≡ index_of to → n ≢ m
  apart_fits n m en em e = can_here.apart (sym en ∙ e ∙ em)

  pub face_fits : (i : ℕ) → from ≡ Tableau i → i < length c.face_down
  face_fits i e = let b = pile_below c h from i can_here.from_place e in let f = h.sized.faces_length in omega arith

  pub made_linked : (links : Chains) (cards : List Card) (faces : List ℕ) (shape : Shape) (a b slot face : ℕ)
      (card : Option Card) → a ≡ source_of rs c.shape from → b ≡ index_of to
      → links ≡ shifted c.links a b count → cards ≡ with_card c.cards slot card
      → faces ≡ with_face c.face_down from face
      → shape ≡ shape_after rs c.shape from → face ≤ size_at c.links a - count
      → IsLinked (reshaped c links cards faces shape)
  made_linked links cards faces shape a b slot face card ea eb el ec ef es fit =
      let el' : links ≡ shifted c.links (source_of rs c.shape from) (index_of to) count =
      el ∙ ap₂ (λ x y. shifted c.links x y count) ea eb in
      let fit' : face ≤ size_at c.links (source_of rs c.shape from) - count =
      subst (λ x. face ≤ size_at c.links x - count) ea fit in
      let it = carry_linked rs c h from to count can_here (with_card c.cards slot card) face
      (length-with_card c.cards slot card ∙ h.sized.cards_length) fit' in
      subst IsLinked (sym (same_board c _ _ _ _ _ _ _ _ el' ec ef es)) it

-- a carry that is taken back
module _ (v : Bool) (c d : Linked) (view : c ≡ d) (h : IsLinked c) (from to : Place) (count face : ℕ)
    (back_d : CanReturn v d from to count face) where
  pub back_here : CanReturn v c from to count face
  back_here = subst (λ x. CanReturn v x from to count face) (sym view) back_d

  unshifts : CanShift c.links (index_of to) (source_of v (shape_before v c.shape from) from) count
  unshifts = can_unshift v c h from to count face back_here

  -- the code's shape before the carry and the two places
  module _ (shape : Shape) (a b : ℕ) (es : shape ≡ shape_before v c.shape from) (ea : a ≡ source_of v shape from)
      (eb : b ≡ index_of to) where
    home_is : a ≡ source_of v (shape_before v c.shape from) from
    home_is = ea ∙ ap (λ s. source_of v s from) es

    pub home_fits : a < 315
    home_fits = let u = unshifts.to_below in let e = home_is in omega arith

    pub there_fits : b < 315
    there_fits = let u = unshifts.from_below in omega arith

    pub back_apart : b ≢ a
    back_apart e = unshifts.apart (sym eb ∙ e ∙ home_is)

    pub back_enough : count ≤ size_at c.links b
    back_enough = subst (λ x. count ≤ size_at c.links x) (sym eb) unshifts.enough

    pub back_depth : count - 1 < size_at c.links b
    back_depth = let e = back_enough in let s = unshifts.some in omega arith

    pub back_face : (i : ℕ) → from ≡ Tableau i → i < length c.face_down
    back_face i e =
        let b = pile_of_before v c h from i back_here.from_place e in let f = h.sized.faces_length in omega arith

    pub returned_linked : (links : Chains) (cards : List Card) (faces : List ℕ) (slot : ℕ) (card : Option Card)
        → links ≡ shifted c.links b a count → cards ≡ with_card c.cards slot card
        → faces ≡ with_face c.face_down from face → IsLinked (reshaped c links cards faces shape)
    returned_linked links cards faces slot card el ec ef =
        let el' : links ≡ shifted c.links (index_of to) (source_of v (shape_before v c.shape from) from) count =
        el ∙ ap₂ (λ x y. shifted c.links x y count) eb home_is in
        let it = return_linked v c h from to count face back_here (with_card c.cards slot card)
        (length-with_card c.cards slot card ∙ h.sized.cards_length) in
        subst IsLinked (sym (same_board c _ _ _ _ _ _ _ _ el' ec ef es)) it
