-- Answers, one after the other.
use Rattle.std.proofs.Common.{append_assoc, ◌∙◌, ◌≡◌, ◌+◌, ◌⊎◌, inl, inr, ℕ, List, [], ◌∷◌, ◌++◌, length, refl, ap, sym}
use Rattle.std.proofs.Common.{zero, suc, Some, slice_get}
use Rattle.deal_survey.specs.declared.judge.Judged.{Judged}
use Rattle.deal_survey.specs.Answers.{AreAllowed, added}

-- what was appended is what the list grew by
pub added-append : (old more : List Judged) → added old (old ++ more) ≡ more
added-append [] more = refl
added-append (judged ∷ old) more = added-append old more

-- a place in a list with one more answer is a place in the list, or the last one
slice_get-append_one : (answers : List Judged) (last : Judged) (i : ℕ) (judged : Judged)
    → slice_get (answers ++ last ∷ []) i ≡ Some judged
    → (slice_get answers i ≡ Some judged) ⊎ ((i ≡ length answers) × (last ≡ judged))
slice_get-append_one [] last zero judged is = inr (refl, cc)
slice_get-append_one [] last (suc i) judged is = absurd (cc)
slice_get-append_one (first ∷ answers) last zero judged is = inl is
slice_get-append_one (first ∷ answers) last (suc i) judged is =
    elim (slice_get-append_one answers last i judged is) [
      | inl before ↦ inl before
      | inr end ↦ inr (ap suc end.0, end.1)
    ]

-- where one more answer is allowed for the next seed, all are
pub AreAllowed-append_one : (allows : ℕ → Judged → Type 0) (from : ℕ) (answers : List Judged) (last : Judged)
    → AreAllowed allows from answers → allows (from + length answers) last
    → AreAllowed allows from (answers ++ last ∷ [])
AreAllowed-append_one allows from answers last before next i judged is =
    elim (slice_get-append_one answers last i judged is) [
      | inl there ↦ before i judged there
      | inr end ↦ rw (end.0, sym end.1) next
    ]

-- one more answer was appended to a list that had grown by these
pub grew_by_one : (old before after answers : List Judged) (last : Judged)
    → before ≡ old ++ answers → after ≡ before ++ last ∷ [] → after ≡ old ++ (answers ++ last ∷ [])
grew_by_one old before after answers last grew more =
    more ∙ ap (λ xs. xs ++ last ∷ []) grew ∙ append_assoc old answers (last ∷ [])
