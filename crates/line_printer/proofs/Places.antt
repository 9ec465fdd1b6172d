-- A place's text and its reading.
use Rattle.std.proofs.Common.{◌≡◌, ◌<◌, ◌==◌, ◌&&◌, ◌⊎◌, ℕ, List, [], ◌∷◌, Bool, true, false, cond, Option, Some, None}
use Rattle.std.proofs.Common.{decimal, nat_lt, refl, ap, sym, subst, ◌∙◌, inl, inr, lit<}
use Rattle.std.specs.Str.{bytes_eq}
use Rattle.std.specs.Str.Parse.{digits_value}
use Rattle.std.proofs.lemmas.Bool.{eqb-true, ltb-true}
use Rattle.std.proofs.lemmas.Slice.Eq.{bytes_eq-Decides}
use Rattle.game_rules.specs.declared.Place.{Place}
use Rattle.game_rules.specs.declared.Place.TheVariants.{Tableau, Cell, Reserve, Waste, Foundation, Hole, Slot}
use Rattle.game_rules.specs.Play.{is_empty, number_of_place}
use Rattle.line_printer.specs.MoveText.{place_text, number_of, numbered, place_of_text}
use Rattle.line_printer.proofs.Blanks.{and_both}
use Rattle.line_printer.proofs.Numbers.{number_some}

-- what a choice gives
pub cond_gives : {X : Type 0} (b : Bool) (x y : Option X) (v : X) → cond b x y ≡ Some v → ((b ≡ true) × (x ≡ Some v))
    ⊎ ((b ≡ false) × (y ≡ Some v))
cond_gives true x y v e = inl (refl, e)
cond_gives false x y v e = inr (refl, e)

pub is_empty_nil : (xs : List ℕ) → is_empty xs ≡ true → xs ≡ []
is_empty_nil [] e = refl
is_empty_nil (x ∷ xs) e = absurd (cc)

pub number_of_decimal : (n : ℕ) → n < 256 → number_of (decimal n) ≡ Some n
number_of_decimal n small = number_some (decimal n) n small refl

-- a number that is read is below 256, and its text is the one that was read
pub number_of_some : (text : List ℕ) (n : ℕ) → number_of text ≡ Some n → (n < 256) × (decimal n ≡ text)
unfolding number_of
number_of_some text n is =
    let v = digits_value 10 text in
    elim (cond_gives (nat_lt v 256 && bytes_eq (decimal v) text) (Some v) None n is) [
      | inl found ↦
          let tests = and_both (nat_lt v 256) (bytes_eq (decimal v) text) found.0 in
          let value : v ≡ n = cc in (
            subst (λ m. m < 256) value (ltb-true _ _ tests.0),
            ap decimal (sym value)
                ∙ (bytes_eq-Decides (decimal v) text).0 tests.1,
          )
      | inr other ↦ absurd (cc)
    ]

pub place_read : (place : Place) → number_of_place place < 256 → place_of_text (place_text place) ≡ Some place
place_read (Tableau i) small = ap (numbered Tableau) (number_of_decimal i small)
place_read (Cell i) small = ap (numbered Cell) (number_of_decimal i small)
place_read (Reserve i) small = ap (numbered Reserve) (number_of_decimal i small)
place_read Waste small = refl
place_read (Foundation i) small = ap (numbered Foundation) (number_of_decimal i small)
place_read Hole small = refl
place_read (Slot i) small = ap (numbered Slot) (number_of_decimal i small)

numbered_some : (kind : ℕ → Place) (number : Option ℕ) (place : Place) → numbered kind number ≡ Some place
    → (i : ℕ) × (number ≡ Some i) × (kind i ≡ place)
numbered_some kind None place is = absurd (cc)
numbered_some kind (Some i) place is = (i, refl, cc)

-- the places of a kind have a letter and their number as their text
record Kind (kind : ℕ → Place) (letter : ℕ) : Type 0 where
  text : (i : ℕ) → place_text (kind i) ≡ letter ∷ decimal i
  number : (i : ℕ) → number_of_place (kind i) ≡ i

abbrev pub IsWritten : List ℕ → Place → Type 0
IsWritten text place = (place_text place ≡ text) × (number_of_place place < 256)

numbered_written : (kind : ℕ → Place) (code letter : ℕ) (digits : List ℕ) (place : Place) → Kind kind code
    → (letter == code) ≡ true → numbered kind (number_of digits) ≡ Some place
    → IsWritten (letter ∷ digits) place
numbered_written kind code letter digits place is same found =
    let read = numbered_some kind (number_of digits) place found in
    let number = number_of_some digits read.0 read.1 in
    let here : letter ≡ code = eqb-true letter code same in
    let text : place_text (kind read.0) ≡ letter ∷ digits = is.text read.0 ∙ ap (λ ds. code ∷ ds) number.1
    ∙ ap (λ l. l ∷ digits) (sym here) in
    let small : number_of_place (kind read.0) < 256 = subst (λ n. n < 256) (sym (is.number read.0)) number.0 in
    let P : Place → Type 0 = λ p. IsWritten (letter ∷ digits) p in
    subst P read.2 (text, small)

bare_written : (code letter : ℕ) (digits : List ℕ) (place found : Place) → place_text place ≡ code ∷ []
    → number_of_place place < 256 → ((letter == code) && is_empty digits) ≡ true → Some place ≡ Some found
    → IsWritten (letter ∷ digits) found
bare_written code letter digits place found text small tests is =
    let both = and_both (letter == code) (is_empty digits) tests in
    let here : letter ≡ code = eqb-true letter code both.0 in
    let whole : place_text place ≡ letter ∷ digits = text ∙ ap (λ l. l ∷ []) (sym here)
    ∙ ap (λ ds. letter ∷ ds) (sym (is_empty_nil digits both.1)) in
    let same : place ≡ found = cc in
    let P : Place → Type 0 = λ p. IsWritten (letter ∷ digits) p in
    subst P same (whole, small)

pub place_written : (text : List ℕ) (place : Place) → place_of_text text ≡ Some place → IsWritten text place
place_written [] place is = absurd (cc)
place_written (letter ∷ digits) place is =
    elim (cond_gives (letter == 116) _ _ place is) [
      | inl t ↦ numbered_written Tableau 116 letter digits place
          (record { text = λ i. refl; number = λ i. refl }) t.0 t.1
      | inr a ↦ elim (cond_gives (letter == 99) _ _ place a.1) [
        | inl t ↦ numbered_written Cell 99 letter digits place (record { text = λ i. refl; number = λ i. refl }) t.0 t.1
        | inr b ↦ elim (cond_gives (letter == 114) _ _ place b.1) [
          | inl t ↦ numbered_written Reserve 114 letter digits place
              (record { text = λ i. refl; number = λ i. refl }) t.0 t.1
          | inr c ↦ elim (cond_gives (letter == 102) _ _ place c.1) [
            | inl t ↦ numbered_written Foundation 102 letter digits place
                (record { text = λ i. refl; number = λ i. refl }) t.0 t.1
            | inr d ↦ elim (cond_gives (letter == 115) _ _ place d.1) [
              | inl t ↦ numbered_written Slot 115 letter digits place
                  (record { text = λ i. refl; number = λ i. refl }) t.0 t.1
              | inr e ↦ elim (cond_gives ((letter == 119) && is_empty digits) _ _ place e.1) [
                | inl t ↦ bare_written 119 letter digits Waste place refl (lit< tt) t.0 t.1
                | inr f ↦ elim (cond_gives ((letter == 104) && is_empty digits) _ _ place f.1) [
                  | inl t ↦ bare_written 104 letter digits Hole place refl (lit< tt) t.0 t.1
                  | inr g ↦ absurd (cc)
                ]
              ]
            ]
          ]
        ]
      ]
    ]
