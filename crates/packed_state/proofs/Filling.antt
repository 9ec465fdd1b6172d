-- A card in a new slot on a place.
use Rattle.std.proofs.Common.{◌≡◌, ◌≢◌, ℕ, zero, suc, ◌+◌, ◌-◌, ◌<◌, ◌≤◌, Bool, true, false, List, [], ◌∷◌, ◌++◌}
use Rattle.std.proofs.Common.{length, set, get_or, refl, sym, ap, ap₂, ◌∙◌, subst, arith, inl, inr, length-set}
use Rattle.std.proofs.Common.{append_assoc, drop, take}
use Rattle.std.specs.Prelude.{Option, Some}
use Rattle.std.specs.Option.{option_to_list}
use Rattle.std.proofs.lemmas.Bool.{cases_eq}
use Rattle.std.proofs.lemmas.List.{get_or-set_same}
use Rattle.card_piles.specs.declared.Card.{Card}
use Rattle.card_links.specs.Chains.{Chains, top_at, size_at, slots_of, grown}
use Rattle.card_links.proofs.Growing.{grown_chained, size_elsewhere, size_there, slots_there, slots_elsewhere}
use Rattle.packed_state.specs.Packed.{Linked, IsLinked, is_inside, is_single, cards_at, card_of, face_at, no_card}
use Rattle.packed_state.specs.Packed.{with_put, Added}
use Rattle.packed_state.specs.Undoing.{with_card}
use Rattle.packed_state.proofs.Contents.{up, up-append}
use Rattle.packed_state.proofs.Carrying.{up_frame}
use Rattle.packed_state.proofs.Linking.{relinked}

module _ (l : Linked) (h : IsLinked l) (place : ℕ) (card : Card) (lp : place < 315)
    (inside : is_inside l.shape place ≡ true) (single : is_single place ≡ true → size_at l.links place ≡ 0)
    (room : l.links.used < 208) where
  abbrev now : Chains
  now = grown l.links place

  there : size_at now place ≡ size_at l.links place + 1
  there = size_there l.links h.chained place lp room

  elsewhere : (p : ℕ) → p ≢ place → size_at now p ≡ size_at l.links p
  elsewhere p ne = size_elsewhere l.links h.chained place lp room p ne

  faces : (i : ℕ) → i < 20 → face_at l i ≤ size_at now i
  faces i li =
      let f = h.faces i li in
      elim (cases_eq i place) [
        | inl e ↦
            let t = there in
            let s : size_at now i ≡ size_at now place = ap (size_at now) e in
            let r : size_at l.links i ≡ size_at l.links place = ap (size_at l.links) e in
            omega arith
        | inr ne ↦ let s = elsewhere i ne in omega arith
      ]

  outside : (p : ℕ) → p < 315 → is_inside l.shape p ≡ false → size_at now p ≡ 0
  outside p lq out =
      elsewhere p (λ e. let r : false ≡ true = sym out ∙ ap (is_inside l.shape) e ∙ inside in cc)
      ∙ h.outside p lq out

  singles : (p : ℕ) → p < 315 → is_single p ≡ true → size_at now p ≤ 1
  singles p lq one = elim (cases_eq p place) [
    | inl e ↦
        let t = there in
        let z = single (subst (λ x. is_single x ≡ true) e one) in
        let s : size_at now p ≡ size_at now place = ap (size_at now) e in
        omega arith
    | inr ne ↦ let s = elsewhere p ne in let o = h.singles p lq one in omega arith
  ]

  pub put_linked : IsLinked (with_put l place card)
  put_linked = record {
    chained = grown_chained l.links h.chained place lp room;
    sized = record {
      cards_length = length-set l.cards l.links.used card ∙ h.sized.cards_length;
      faces_length =
          h.sized.faces_length;
      small = h.sized.small;
    };
    faces = faces;
    outside = outside;
    singles = singles;
  }

  -- the new slot is in no chain of before
  same_before : (p : ℕ) → p < 315 → up (set l.cards l.links.used card) (slots_of l.links p) ≡ cards_at l p
  same_before p lq =
      up_frame l.cards l.links.used card l.links.under (size_at l.links p) (top_at l.links p)
      (λ k lk e. let w = h.chained.within p k lq lk in absurd (omega arith))

  here : card_of (set l.cards l.links.used card) l.links.used ≡ card
  here = let c = h.sized.cards_length in get_or-set_same l.cards l.links.used card no_card (omega arith)

  pub put_added : Added l (with_put l place card) place (card ∷ [])
  put_added = record {
    there =
        ap (up (set l.cards l.links.used card)) (slots_there l.links h.chained place lp room)
        ∙ up-append (set l.cards l.links.used card) (l.links.used ∷ []) (slots_of l.links place)
        ∙ ap₂ (λ xs c. xs ++ c ∷ []) (same_before place lp) here;
    other = λ p lq ne.
        ap (up (set l.cards l.links.used card)) (slots_elsewhere l.links h.chained place lp room p lq ne)
        ∙ same_before p lq;
    used = refl;
    face_down = refl;
    shape = refl;
    redeals_left = refl;
    stacked = refl;
  }

module _ (c d : Linked) (view : c ≡ d) (h : IsLinked c) (place : ℕ) (card : Card) (lp : place < 315)
    (inside : is_inside d.shape place ≡ true) (single : is_single place ≡ true → size_at d.links place ≡ 0)
    (room : d.links.used < 208) where
  pub put_made : (k : Chains) (cards : List Card) (slot : ℕ) → slot ≡ c.links.used → k ≡ grown c.links place
      → cards ≡ with_card c.cards slot (Some card) → IsLinked (relinked c k cards c.face_down)
  put_made k cards slot es ek ec =
      let one : IsLinked (with_put c place card) =
      put_linked c h place card lp (subst (λ x. is_inside x.shape place ≡ true) (sym view) inside)
      (subst (λ x. is_single place ≡ true → size_at x.links place ≡ 0) (sym view) single)
      (subst (λ x. x.links.used < 208) (sym view) room) in
      let same : relinked c k cards c.face_down ≡ with_put c place card =
      ap₂ (λ x y. relinked c x y c.face_down) ek (ec ∙ ap (λ s. set c.cards s card) es) in
      subst IsLinked (sym same) one

-- more on the same place
pub added_both : (l m k : Linked) (place : ℕ) (xs ys : List Card) → Added l m place xs → Added m k place ys
    → length (xs ++ ys) ≡ length xs + length ys → Added l k place (xs ++ ys)
added_both l m k place xs ys a b long = record {
  there = b.there ∙ ap (λ zs. zs ++ ys) a.there ∙ append_assoc (cards_at l place) xs ys;
  other = λ p lp ne. b.other p lp ne ∙ a.other p lp ne;
  used = let x = a.used in let y = b.used in omega arith;
  face_down = b.face_down ∙ a.face_down;
  shape = b.shape ∙ a.shape;
  redeals_left = b.redeals_left ∙ a.redeals_left;
  stacked = b.stacked ∙ a.stacked;
}

pub put_is_added : (l m : Linked) (h : IsLinked l) (place : ℕ) (card : Card) → place < 315
    → is_inside l.shape place ≡ true → (is_single place ≡ true → size_at l.links place ≡ 0)
    → l.links.used < 208 → m ≡ with_put l place card → Added l m place (card ∷ [])
put_is_added l m h place card lp inside single room e =
    subst (λ x. Added l x place (card ∷ [])) (sym e) (put_added l h place card lp inside single room)

pub not_both : (b : Bool) (P : Type 0) → b ≡ false → b ≡ true → P
not_both b P e f = let q : false ≡ true = sym e ∙ f in cc

pub first_rest : (xs : List Card) (x : Card) → 1 ≤ length xs → x ≡ get_or xs 0 x → xs ≡ x ∷ drop 1 xs
first_rest [] x le e = absurd (omega arith)
first_rest (y ∷ xs) x le e = ap (λ z. z ∷ xs) (sym e)

pub all_added : (l m k : Linked) (place : ℕ) (xs : List Card) (x : Card) → IsLinked l → place < 315
    → (1 ≤ length xs → is_inside l.shape place ≡ true)
    → is_single place ≡ false → l.links.used + length xs ≤ 208 → 1 ≤ length xs → x ≡ get_or xs 0 x
    → m ≡ with_put l place x → Added m k place (drop 1 xs) → Added l k place xs
all_added l m k place xs x h lp inside many room le e em rest =
    let split = first_rest xs x le e in
    subst (Added l k place) (sym split)
    (added_both l m k place (x ∷ []) (drop 1 xs)
    (put_is_added l m h place x lp (inside le) (λ one. not_both _ (size_at l.links place ≡ 0) many one) (omega arith)
    em) rest (omega arith))

pub entry_added : (l m : Linked) (place : ℕ) (o : Option Card) (x : Card) → IsLinked l → place < 315
    → (1 ≤ length (option_to_list o) → is_inside l.shape place ≡ true)
    → size_at l.links place ≡ 0 → l.links.used + length (option_to_list o) ≤ 208 → o ≡ Some x
    → m ≡ with_put l place x → Added l m place (option_to_list o)
entry_added l m place o x h lp inside empty room eo em =
    let long : length (option_to_list o) ≡ 1 = ap (λ y. length (option_to_list y)) eo in
    subst (λ y. Added l m place (option_to_list y)) (sym eo)
    (put_is_added l m h place x lp (inside (omega arith)) (λ _. empty) (omega arith) em)

take_all : (n : ℕ) (xs : List Card) → n ≡ length xs → take n xs ≡ xs
take_all zero [] e = refl
take_all zero (x ∷ xs) e = absurd (omega arith)
take_all (suc n) [] e = absurd (omega arith)
take_all (suc n) (x ∷ xs) e = ap (λ ys. x ∷ ys) (take_all n xs (omega arith))

pub rest_is : (xs : List Card) → take (length xs - 1) (drop 1 xs) ≡ drop 1 xs
rest_is [] = refl
rest_is (x ∷ xs) = take_all (length (x ∷ xs) - 1) xs (omega arith)
