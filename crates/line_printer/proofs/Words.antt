-- The move of a text, by its words.
use Rattle.std.proofs.Common.{◌≡◌, ◌<◌, ℕ, ◌==◌, List, [], ◌∷◌, length, None, refl, ap, ◌∙◌, arith}
use Rattle.std.specs.List.{slice_split}
use Rattle.std.proofs.lemmas.List.Splits.{length-slice_split}
use Rattle.line_printer.specs.MoveText.{number_of, place_of_text, short_carry, long_carry, move_of_words, move_of_text}

abbrev pub words_of : List ℕ → List (List ℕ)
words_of text = slice_split (λ b. b == 32) text

pub one_word : (text : List ℕ) → words_of text ≡ text ∷ [] → move_of_text text ≡ move_of_words (text ∷ [])
unfolding move_of_text
one_word text first = ap move_of_words first

pub two_words : (text from rest : List ℕ) → words_of text ≡ from ∷ words_of rest → words_of rest ≡ rest ∷ []
    → move_of_text text ≡ short_carry (place_of_text from) (place_of_text rest)
unfolding move_of_text
two_words text from rest first second = ap move_of_words (first ∙ ap (λ words. from ∷ words) second)

pub three_words : (text from rest to count : List ℕ) → words_of text ≡ from ∷ words_of rest
    → words_of rest ≡ to ∷ words_of count → words_of count ≡ count ∷ []
    → move_of_text text ≡ long_carry (place_of_text from) (place_of_text to) (number_of count)
unfolding move_of_text
three_words text from rest to count first second third =
    ap move_of_words (first ∙ ap (λ words. from ∷ words) (second ∙ ap (λ words. to ∷ words) third))

-- four words or more
more : (from to next : List ℕ) (words : List (List ℕ)) → 0 < length words
    → move_of_words (from ∷ to ∷ next ∷ words) ≡ None
more from to next [] some = absurd (omega arith)
more from to next (word ∷ words) some = refl

pub more_words : (text from rest to count next last : List ℕ) → words_of text ≡ from ∷ words_of rest
    → words_of rest ≡ to ∷ words_of count → words_of count ≡ next ∷ words_of last
    → move_of_text text ≡ None
unfolding move_of_text
more_words text from rest to count next last first second third =
    ap move_of_words (first ∙ ap (λ words. from ∷ words) (second ∙ ap (λ words. to ∷ words) third))
    ∙ more from to next (words_of last) (omega (arith, length-slice_split (λ b. b == 32) last))
