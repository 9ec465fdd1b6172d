-- The lines of the seeds, one after the other.
use Rattle.std.proofs.Common.{◌≡◌, ◌<◌, ◌+◌, ℕ, List, [], ◌∷◌, ◌++◌, length, get_or, take, ap, sym, ◌∙◌}
use Rattle.std.proofs.Common.{append_assoc, codes, decimal, arith}
use Rattle.std.proofs.lemmas.List.{take_more, append-nil, length-take-le}
use Rattle.deal_survey.specs.declared.judge.Judged.{Judged}
use Rattle.deal_survey.specs.SurveyText.{ended, word_of, seed_lines}

-- the line of a seed
abbrev pub seed_line : ℕ → Judged → List ℕ
seed_line seed judged = ended (decimal seed ++ codes " " ++ word_of judged)

-- further answers have their lines behind the others
seed_lines-append : (from : ℕ) (answers more : List Judged)
    → seed_lines from (answers ++ more) ≡ seed_lines from answers ++ seed_lines (from + length answers) more
seed_lines-append from [] more = ap (λ seed. seed_lines seed more) (omega arith)
seed_lines-append from (judged ∷ answers) more =
    ap (λ text. seed_line from judged ++ text)
    (seed_lines-append (from + 1) answers more
    ∙ ap (λ seed. seed_lines (from + 1) answers ++ seed_lines seed more) (omega arith))
    ∙ sym (append_assoc (seed_line from judged) (seed_lines (from + 1) answers) _)

-- the first answers and one more
seed_lines_more : (from : ℕ) (answers : List Judged) (i : ℕ) (d : Judged) → i < length answers
    → seed_lines from (take (i + 1) answers) ≡ seed_lines from (take i answers) ++ seed_line (from + i)
    (get_or answers i d)
seed_lines_more from answers i d within =
    let long : length (take i answers) ≡ i = length-take-le i answers (omega (arith, within)) in
    ap (seed_lines from) (take_more answers i d within)
    ∙ seed_lines-append from (take i answers) (get_or answers i d ∷ [])
    ∙ ap (λ seed. seed_lines from (take i answers) ++ seed_lines seed (get_or answers i d ∷ []))
    (ap (λ n. from + n) long)
    ∙ ap (λ text. seed_lines from (take i answers) ++ text) (append-nil (seed_line (from + i) (get_or answers i d)))

-- a line as one format writes it
regroup : (seed blank word end : List ℕ) → seed ++ (blank ++ (word ++ end)) ≡ (seed ++ blank ++ word) ++ end
regroup seed blank word end = simp append_assoc

-- the line of one more seed was written
pub seed_lines_pushed : (before written longer : List ℕ) (from : ℕ) (answers : List Judged) (i : ℕ) (d : Judged)
    → i < length answers
    → written ≡ before ++ seed_lines from (take i answers)
    → longer ≡ written
    ++ (decimal (from + i) ++ (codes " " ++ (word_of (get_or answers i d) ++ codes "\n")))
    → longer ≡ before ++ seed_lines from (take (i + 1) answers)
seed_lines_pushed before written longer from answers i d within so_far line =
    let judged = get_or answers i d in
    line
    ∙ ap (λ text. text ++ (decimal (from + i) ++ (codes " " ++ (word_of judged ++ codes "\n")))) so_far
    ∙ ap (λ text. before ++ seed_lines from (take i answers) ++ text)
    (regroup (decimal (from + i)) (codes " ") (word_of judged) (codes "\n"))
    ∙ append_assoc before (seed_lines from (take i answers)) (seed_line (from + i) judged)
    ∙ ap (λ text. before ++ text) (sym (seed_lines_more from answers i d within))
