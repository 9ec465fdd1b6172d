-- The text of a survey, as its first lines are written.
use Rattle.std.proofs.Common.{◌≡◌, ◌++◌, ℕ, codes, decimal, append_assoc, List, [], ◌∷◌, length}
use Rattle.deal_survey.specs.declared.counts.Counts.{Counts}
use Rattle.deal_survey.specs.declared.judge.Judged.{Judged}
use Rattle.deal_survey.specs.SurveyText.{survey_text, seed_lines}

-- each newline ends the text before it, in place of beginning the next one
regroup : (s a b c d v w x y n rest : List ℕ)
    → ((s ++ n ++ a) ++ (v ++ ((n ++ b) ++ (w ++ ((n ++ c) ++ (x ++ ((n ++ d) ++ (y ++ n)))))))) ++ rest
    ≡ (s ++ n) ++ ((a ++ v) ++ n) ++ ((b ++ w) ++ n) ++ ((c ++ x) ++ n) ++ ((d ++ y) ++ n) ++ rest
regroup s a b c d v w x y n rest = simp append_assoc

-- the first lines as one format writes them, and the lines of the answers
pub survey_is : (from : ℕ) (counts : Counts) (answers : List Judged)
    → (codes "survey\nseeds " ++ (decimal (length answers) ++ (codes "\nwinnable " ++ (decimal counts.winnable
    ++ (codes "\nunwinnable " ++ (decimal counts.unwinnable ++ (codes "\nundecided " ++ (decimal counts.undecided
    ++ codes "\n")))))))) ++ seed_lines from answers
    ≡ survey_text from counts answers
unfolding survey_text
survey_is from counts answers = regroup (codes "survey") (codes "seeds ") (codes "winnable ") (codes "unwinnable ")
    (codes "undecided ") (decimal (length answers)) (decimal counts.winnable) (decimal counts.unwinnable)
    (decimal counts.undecided) (10 ∷ []) (seed_lines from answers)
