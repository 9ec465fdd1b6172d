-- The text of a move reads as the move.
use Rattle.std.proofs.Common.{◌≡◌, ◌<◌, ◌≤◌, lit<, lit≤, ◌==◌, ◌&&◌, ◌||◌, not, ℕ, List, [], ◌∷◌, ◌++◌, Bool, true}
use Rattle.std.proofs.Common.{false, cond, Option, Some, None, decimal, codes, refl, ap, sym, subst, ◌∙◌}
use Rattle.std.proofs.Common.{append_assoc, arith}
use Rattle.std.specs.List.{slice_split, All}
use Rattle.std.proofs.lemmas.Bool.{eqb-true}
use Rattle.std.proofs.lemmas.List.{append-nil}
use Rattle.std.proofs.lemmas.List.Elements.{All-nil, All-cons, All-append}
use Rattle.std.proofs.lemmas.List.Splits.{slice_split_at, slice_split_none}
use Rattle.game_rules.specs.declared.Move.{Move}
use Rattle.game_rules.specs.declared.Move.TheVariants.{Carry, Deal, Redeal}
use Rattle.game_rules.specs.declared.Place.{Place}
use Rattle.game_rules.specs.Play.{number_of_place}
use Rattle.line_printer.specs.MoveText.{place_text, is_pile, shows_count, move_text, number_of, place_of_text}
use Rattle.line_printer.specs.SmallMoves.{IsSmall}
use Rattle.line_printer.specs.MoveText.{short_carry, long_carry, move_of_words, move_of_text}
use Rattle.line_printer.proofs.Blanks.{IsVisible, IsVisible-place, IsVisible-decimal, no_byte, are_above, above_by_test}
use Rattle.line_printer.proofs.Places.{place_read, number_of_decimal}
use Rattle.line_printer.proofs.Words.{words_of}

-- two texts with a blank between them
spaced : (a b c : List ℕ) → a ++ 32 ∷ [] ++ b ++ c ≡ a ++ 32 ∷ (b ++ c)
spaced a b c = append_assoc (a ++ 32 ∷ []) b c ∙ append_assoc a (32 ∷ []) (b ++ c)

words_two : (a b : List ℕ) → IsVisible a → IsVisible b → words_of (a ++ 32 ∷ b) ≡ a ∷ b ∷ []
words_two a b seen_a seen_b =
    slice_split_at (λ b. b == 32) a 32 b (no_byte 33 32 a (lit< tt) seen_a) refl
    ∙ ap (λ words. a ∷ words) (slice_split_none (λ b. b == 32) b (no_byte 33 32 b (lit< tt) seen_b))

words_three : (a b c : List ℕ) → IsVisible a → IsVisible b → IsVisible c
    → words_of (a ++ 32 ∷ (b ++ 32 ∷ c)) ≡ a ∷ b ∷ c ∷ []
words_three a b c seen_a seen_b seen_c =
    slice_split_at (λ b. b == 32) a 32 (b ++ 32 ∷ c) (no_byte 33 32 a (lit< tt) seen_a) refl
    ∙ ap (λ words. a ∷ words) (words_two b c seen_b seen_c)

-- a count that is left out is 1
count_left_out : (piles : Bool) (count : ℕ) → (piles || not (count == 1)) ≡ false → (piles ≡ false) × (count ≡ 1)
count_left_out true count e = absurd (cc)
count_left_out false count e = (refl, eqb-true count 1 (not_false (count == 1) e))
  where
    not_false : (b : Bool) → not b ≡ false → b ≡ true
    not_false true e = refl
    not_false false e = absurd (cc)

carry_read : (from to : Place) (count : ℕ) (shown : Bool) → IsSmall (Carry from to count)
    → shows_count from to count ≡ shown
    → move_of_text (place_text from ++ codes " " ++ place_text to ++ cond shown (codes " " ++ decimal count) [])
    ≡ Some (Carry from to count)
unfolding move_of_text
carry_read from to count true small shown =
    let seen_from = IsVisible-place from small.0 in
    let seen_to = IsVisible-place to small.1 in
    ap (λ text. move_of_words (words_of text)) (spaced (place_text from) (place_text to) (32 ∷ decimal count))
    ∙ ap move_of_words (words_three (place_text from) (place_text to) (decimal count) seen_from seen_to
    (IsVisible-decimal count (let l = small.2 in omega arith)))
    ∙ rw (place_read from small.0, place_read to small.1, number_of_decimal count small.2, shown) refl
carry_read from to count false small hidden =
    let seen_from = IsVisible-place from small.0 in
    let seen_to = IsVisible-place to small.1 in
    let left_out = count_left_out (is_pile from && is_pile to) count hidden in
    ap (λ text. move_of_words (words_of text)) (spaced (place_text from) (place_text to) []
    ∙ ap (λ text. place_text from ++ 32 ∷ text) (append-nil (place_text to)))
    ∙ ap move_of_words (words_two (place_text from) (place_text to) seen_from seen_to)
    ∙ rw (place_read from small.0, place_read to small.1, left_out.0, left_out.1) refl

pub move_read : (m : Move) → IsSmall m → move_of_text (move_text m) ≡ Some m
unfolding move_of_text
move_read (Carry from to count) small = carry_read from to count (shows_count from to count) small refl
move_read Deal small = refl
move_read Redeal small = refl

-- a move's text holds no newline
abbrev pub IsOnOneLine : List ℕ → Type 0
IsOnOneLine text = All (λ b. (b == 10) ≡ false) text

count_on_one_line : (count : ℕ) (shown : Bool) → count < 256 → IsOnOneLine (cond shown (codes " " ++ decimal count) [])
count_on_one_line count true small = All-cons (λ b. (b == 10) ≡ false) 32 (decimal count) refl
    (no_byte 33 10 (decimal count) (lit< tt) (IsVisible-decimal count (omega arith)))
count_on_one_line count false small = All-nil (λ b. (b == 10) ≡ false)

-- a word without a newline, by test
pub word_on_one_line : (text : List ℕ) → are_above 10 text ≡ true → IsOnOneLine text
word_on_one_line text e = no_byte 11 10 text (lit< tt) (above_by_test 10 text e)

pub move_on_one_line : (m : Move) → IsSmall m → IsOnOneLine (move_text m)
move_on_one_line (Carry from to count) small =
    let P : ℕ → Type 0 = λ b. (b == 10) ≡ false in
    let a = no_byte 33 10 (place_text from) (lit< tt) (IsVisible-place from small.0) in
    let b = no_byte 33 10 (place_text to) (lit< tt) (IsVisible-place to small.1) in
    let blank = All-cons P 32 [] refl (All-nil P) in
    All-append P (place_text from ++ codes " " ++ place_text to) _
    (All-append P (place_text from ++ codes " ") (place_text to) (All-append P (place_text from) (codes " ") a blank) b)
    (count_on_one_line count (shows_count from to count) small.2)
move_on_one_line Deal small = word_on_one_line (codes "deal") refl
move_on_one_line Redeal small = word_on_one_line (codes "redeal") refl
