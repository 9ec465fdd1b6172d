-- The answers of a survey, and what makes each of them one that its Judge allows.
use Rattle.std.specs.Prelude.{ℕ, ◌+◌, ◌≡◌, List, length, drop, Some, slice_get}
use Rattle.deal_survey.specs.declared.judge.Judged.{Judged}

-- the answers that a list grew by: those past the length that it had
abbrev pub added : List Judged → List Judged → List Judged
added old new = drop (length old) new

-- Each answer is allowed for its seed: the one at place `i` for the seed `from + i`.
abbrev pub AreAllowed : (ℕ → Judged → Type 0) → ℕ → List Judged → Type 0
AreAllowed allows from answers = (i : ℕ) (judged : Judged)
    → slice_get answers i ≡ Some judged → allows (from + i) judged
