-- Lemmas on the listed calls of a sink in memory.
use Rattle.std.proofs.Common.{◌≡◌, ◌∙◌, ◌==◌, ◌++◌, ◌∷◌, [], ℕ, List, Option, Some, None, true, false, cond, refl, ap}
use Rattle.std.proofs.Common.{find, option_map}
use Rattle.std.specs.Option.{option_or}
use Rattle.std.proofs.lemmas.List.Folds.{find-append}
use Rattle.outside_io.specs.declared.memory_sink.Failure.{Failure}

option_map-option_or : (a b : Option Failure) → option_map (λ (f : Failure). f.kept) (option_or a b)
    ≡ option_or (option_map (λ (f : Failure). f.kept) a) (option_map (λ (f : Failure). f.kept) b)
option_map-option_or None b = refl
option_map-option_or (Some f) b = refl

-- An earlier listing of a call counts.
pub kept-append : (failing : List Failure) (f : Failure) (other : ℕ)
    → option_map (λ (f : Failure). f.kept) (find (λ (f : Failure). f.call == other) (failing ++ f ∷ []))
    ≡ option_or (option_map (λ (f : Failure). f.kept) (find (λ (f : Failure). f.call == other) failing))
    (cond (f.call == other) (Some f.kept) None)
kept-append failing f other =
    let found = find (λ (f : Failure). f.call == other) failing in
    let by_test = elim (f.call == other) as
    (λ b. option_map (λ (f : Failure). f.kept) (cond b (Some f) None) ≡ cond b (Some f.kept) None)
    [ true ↦ refl | false ↦ refl ] in
    ap (option_map (λ (f : Failure). f.kept)) (find-append (λ (f : Failure). f.call == other) failing (f ∷ []))
    ∙ option_map-option_or found (find (λ (f : Failure). f.call == other) (f ∷ []))
    ∙ ap (option_or (option_map (λ (f : Failure). f.kept) found)) by_test
