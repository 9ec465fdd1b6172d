-- How many answers there are of each kind.
use Rattle.std.specs.Prelude.{Bool, true, false, List, count_by}
use Rattle.deal_survey.specs.declared.counts.Counts.{Counts}
use Rattle.deal_survey.specs.declared.judge.Judged.{Judged}
use Rattle.deal_survey.specs.declared.judge.Judged.TheVariants.{Winnable, Unwinnable, Undecided}

-- the answer is that the deal can be won
abbrev pub is_winnable : Judged → Bool
is_winnable Winnable = true
is_winnable Unwinnable = false
is_winnable Undecided = false

-- the answer is that the deal cannot be won
abbrev pub is_unwinnable : Judged → Bool
is_unwinnable Winnable = false
is_unwinnable Unwinnable = true
is_unwinnable Undecided = false

-- the answer is that neither is known
abbrev pub is_undecided : Judged → Bool
is_undecided Winnable = false
is_undecided Unwinnable = false
is_undecided Undecided = true

-- how many of the answers are of each kind
abbrev pub counts_of : List Judged → Counts
counts_of answers = record {
  winnable = count_by is_winnable answers;
  unwinnable = count_by is_unwinnable answers;
  undecided = count_by is_undecided answers;
}
