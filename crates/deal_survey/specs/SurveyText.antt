-- The text of a survey.
use Rattle.std.specs.Prelude.{ℕ, ◌+◌, List, [], ◌∷◌, ◌++◌, length, codes, decimal}
use Rattle.deal_survey.specs.declared.counts.Counts.{Counts}
use Rattle.deal_survey.specs.declared.judge.Judged.{Judged}
use Rattle.deal_survey.specs.declared.judge.Judged.TheVariants.{Winnable, Unwinnable, Undecided}

-- a text and the newline that ends it
abbrev pub ended : List ℕ → List ℕ
ended text = text ++ 10 ∷ []

-- the word of an answer
abbrev pub word_of : Judged → List ℕ
word_of Winnable = codes "winnable"
word_of Unwinnable = codes "unwinnable"
word_of Undecided = codes "undecided"

-- the lines of the answers, each its seed, a blank and its word; the first answer is for this seed
abbrev pub seed_lines : ℕ → List Judged → List ℕ
seed_lines seed [] = []
seed_lines seed (judged ∷ answers) =
    ended (decimal seed ++ codes " " ++ word_of judged) ++ seed_lines (seed + 1) answers

-- the whole text: how many seeds there are and how many of each verdict, and the lines of the answers
unfoldable pub survey_text : ℕ → Counts → List Judged → List ℕ
survey_text from counts answers = ended (codes "survey")
    ++ ended (codes "seeds " ++ decimal (length answers))
    ++ ended (codes "winnable " ++ decimal counts.winnable)
    ++ ended (codes "unwinnable " ++ decimal counts.unwinnable)
    ++ ended (codes "undecided " ++ decimal counts.undecided)
    ++ seed_lines from answers
