-- The three counts of answers.
use Rattle.std.proofs.Common.{◌≡◌, ◌+◌, ℕ, List, [], ◌∷◌, length, cond, refl, arith, ◌≤◌, take}
use Rattle.std.specs.List.{count_by}
use Rattle.std.proofs.lemmas.List.Sums.{sum_by-cons}
use Rattle.std.proofs.lemmas.List.{take_all}
use Rattle.deal_survey.specs.declared.counts.Counts.{Counts}
use Rattle.deal_survey.specs.declared.judge.Judged.{Judged}
use Rattle.deal_survey.specs.declared.judge.Judged.TheVariants.{Winnable, Unwinnable, Undecided}
use Rattle.deal_survey.specs.Counting.{is_winnable, is_unwinnable, is_undecided, counts_of}

-- an answer is of one kind
is_of_one_kind : (judged : Judged)
    → cond (is_winnable judged) 1 0 + cond (is_unwinnable judged) 1 0 + cond (is_undecided judged) 1 0 ≡ 1
is_of_one_kind Winnable = refl
is_of_one_kind Unwinnable = refl
is_of_one_kind Undecided = refl

-- each answer is counted once
pub all_are_counted : (answers : List Judged)
    → count_by is_winnable answers + count_by is_unwinnable answers + count_by is_undecided answers ≡ length answers
all_are_counted [] = refl
all_are_counted (judged ∷ answers) =
    let won = sum_by-cons (λ x. cond (is_winnable x) 1 0) judged answers in
    let lost = sum_by-cons (λ x. cond (is_unwinnable x) 1 0) judged answers in
    let neither = sum_by-cons (λ x. cond (is_undecided x) 1 0) judged answers in
    omega (arith, won, lost, neither, is_of_one_kind judged, all_are_counted answers)

-- where the counts are those of all answers, they add up to the number of answers
pub counts_of_all : (counts : Counts) (answers : List Judged) (n : ℕ) → length answers ≤ n
    → counts ≡ counts_of (take n answers) → counts.winnable + counts.unwinnable + counts.undecided ≡ length answers
counts_of_all counts answers n whole are = rw (are, take_all n answers whole) (all_are_counted answers)
