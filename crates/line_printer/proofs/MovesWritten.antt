-- A text that reads as a move is the move's text.
use Rattle.std.proofs.Common.{◌≡◌, ◌<◌, ◌==◌, ◌&&◌, ◌||◌, not, ◌⊎◌, ℕ, List, [], ◌∷◌, ◌++◌, Bool, true, false, cond}
use Rattle.std.proofs.Common.{Option, Some, None, decimal, codes, refl, ap, sym, subst, ◌∙◌, append_assoc, inl}
use Rattle.std.proofs.Common.{inr, lit<}
use Rattle.std.specs.List.{join_with_byte}
use Rattle.std.specs.Str.{bytes_eq}
use Rattle.std.proofs.lemmas.List.{append-nil}
use Rattle.std.proofs.lemmas.List.Splits.{join_with_byte-slice_split}
use Rattle.std.proofs.lemmas.Slice.Eq.{bytes_eq-Decides}
use Rattle.game_rules.specs.declared.Move.{Move}
use Rattle.game_rules.specs.declared.Move.TheVariants.{Carry, Deal, Redeal}
use Rattle.game_rules.specs.declared.Place.{Place}
use Rattle.game_rules.specs.Play.{number_of_place}
use Rattle.line_printer.specs.MoveText.{place_text, shows_count, move_text, number_of, place_of_text}
use Rattle.line_printer.specs.SmallMoves.{IsSmall}
use Rattle.line_printer.specs.MoveText.{short_carry, long_carry, move_of_words, move_of_text}
use Rattle.line_printer.proofs.Places.{cond_gives, number_of_some, place_written}
use Rattle.line_printer.proofs.Words.{words_of}

abbrev pub IsMoveText : List ℕ → Move → Type 0
IsMoveText text m = (move_text m ≡ text) × IsSmall m

-- the text of a carry, by whether it shows the count
carry_text : (from to : Place) (count : ℕ) (shown : Bool) → shows_count from to count ≡ shown
    → move_text (Carry from to count) ≡ place_text from ++ 32 ∷ (place_text to ++ cond shown (32 ∷ decimal count) [])
carry_text from to count shown is =
    append_assoc (place_text from ++ codes " ") (place_text to)
    (cond (shows_count from to count) (codes " " ++ decimal count) [])
    ∙ append_assoc (place_text from) (codes " ")
    (place_text to ++ cond (shows_count from to count) (codes " " ++ decimal count) [])
    ∙ ap (λ b. place_text from ++ 32 ∷ (place_text to ++ cond b (32 ∷ decimal count) [])) is

short_written : (a b : List ℕ) (from to : Option Place) (m : Move) → place_of_text a ≡ from → place_of_text b ≡ to
    → short_carry from to ≡ Some m → IsMoveText (a ++ 32 ∷ b) m
short_written a b None to m at on is = absurd (cc)
short_written a b (Some from) None m at on is = absurd (cc)
short_written a b (Some from) (Some to) m at on is =
    elim (cond_gives (shows_count from to 1) None (Some (Carry from to 1)) m is) [
      | inl bad ↦ absurd (cc)
      | inr good ↦
          let start = place_written a from at in
          let end = place_written b to on in
          let same : Carry from to 1 ≡ m = cc in
          let text : move_text (Carry from to 1) ≡ a ++ 32 ∷ b =
          carry_text from to 1 false good.0
          ∙ ap (λ t. place_text from ++ 32 ∷ t) (append-nil (place_text to) ∙ end.0)
          ∙ ap (λ f. f ++ 32 ∷ b) start.0 in
          subst (IsMoveText (a ++ 32 ∷ b)) same (text, (start.1, end.1, lit< tt))
    ]

long_written : (a b c : List ℕ) (from to : Option Place) (count : Option ℕ) (m : Move) → place_of_text a ≡ from
    → place_of_text b ≡ to → number_of c ≡ count
    → long_carry from to count ≡ Some m → IsMoveText (a ++ 32 ∷ (b ++ 32 ∷ c)) m
long_written a b c None to count m at on n is = absurd (cc)
long_written a b c (Some from) None count m at on n is = absurd (cc)
long_written a b c (Some from) (Some to) None m at on n is = absurd (cc)
long_written a b c (Some from) (Some to) (Some count) m at on n is =
    elim (cond_gives (shows_count from to count) (Some (Carry from to count)) None m is) [
      | inr bad ↦ absurd (cc)
      | inl good ↦
          let start = place_written a from at in
          let end = place_written b to on in
          let number = number_of_some c count n in
          let same : Carry from to count ≡ m = cc in
          let text : move_text (Carry from to count) ≡ a ++ 32 ∷ (b ++ 32 ∷ c) =
          carry_text from to count true good.0
          ∙ ap (λ t. place_text from ++ 32 ∷ (t ++ 32 ∷ decimal count)) end.0
          ∙ ap (λ t. place_text from ++ 32 ∷ (b ++ 32 ∷ t)) number.1
          ∙ ap (λ f. f ++ 32 ∷ (b ++ 32 ∷ c)) start.0 in
          subst (IsMoveText (a ++ 32 ∷ (b ++ 32 ∷ c))) same (text, (start.1, end.1, number.0))
    ]

word_written : (word : List ℕ) (m : Move) → move_of_words (word ∷ []) ≡ Some m → IsMoveText word m
word_written word m is =
    elim (cond_gives (bytes_eq word (codes "deal")) _ _ m is) [
      | inl t ↦ let same : Deal ≡ m = cc in
          subst (IsMoveText word) same (sym ((bytes_eq-Decides word (codes "deal")).0 t.0), tt)
      | inr a ↦ elim (cond_gives (bytes_eq word (codes "redeal")) _ _ m a.1) [
        | inl t ↦ let same : Redeal ≡ m = cc in
            subst (IsMoveText word) same (sym ((bytes_eq-Decides word (codes "redeal")).0 t.0), tt)
        | inr b ↦ absurd (cc)
      ]
    ]

words_written : (words : List (List ℕ)) (m : Move) → move_of_words words ≡ Some m
    → IsMoveText (join_with_byte 32 words) m
words_written [] m is = absurd (cc)
words_written (word ∷ []) m is = word_written word m is
words_written (a ∷ b ∷ []) m is = short_written a b (place_of_text a) (place_of_text b) m refl refl is
words_written (a ∷ b ∷ c ∷ []) m is = long_written a b c (place_of_text a) (place_of_text b)
    (number_of c) m refl refl refl is
words_written (a ∷ b ∷ c ∷ d ∷ words) m is = absurd (cc)

pub move_written : (text : List ℕ) (m : Move) → move_of_text text ≡ Some m → IsMoveText text m
unfolding move_of_text
move_written text m is =
    let P : List ℕ → Type 0 = λ t. IsMoveText t m in
    subst P (join_with_byte-slice_split 32 text) (words_written (words_of text) m is)
