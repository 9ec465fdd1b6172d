-- A command that is none of the known ones.
use Rattle.std.proofs.Common.{◌≡◌, ℕ, List, ◌∷◌, String, string_bytes, codes, Bool, true, false, Err, refl, ◌∙◌}
use Rattle.std.specs.declared.alloc.Global.{Global}
use Rattle.std.specs.Str.{bytes_eq}
use Rattle.std.proofs.lemmas.Slice.Eq.{bytes_eq-Decides}
use Rattle.solver_words.specs.declared.fault.WordFault.TheVariants.{UnknownCommand}
use Rattle.solver_words.specs.Texts.{texts}
use Rattle.solver_words.specs.Jobs.{job_of}

not_equal : (a b : List ℕ) → (a ≡ b → ⊥) → bytes_eq a b ≡ false
not_equal a b differ =
    let by_test : (t : Bool) → bytes_eq a b ≡ t → t ≡ false =
    λ t. elim t as (λ t. bytes_eq a b ≡ t → t ≡ false)
    [ true ↦ λ p. absurd (differ ((bytes_eq-Decides a b).0 p)) | false ↦ λ p. refl ] in
    by_test (bytes_eq a b) refl

pub unknown_command : (words rest : List (String Global)) (command : String Global) (text : List ℕ)
    → words ≡ command ∷ rest → text ≡ string_bytes command
    → (text ≡ codes "solve" → ⊥) → (text ≡ codes "replay" → ⊥) → (text ≡ codes "deal" → ⊥) → (text ≡ codes "rules" → ⊥)
    → job_of (texts words) ≡ Err UnknownCommand
unknown_command words rest command text is shown no_solve no_replay no_deal no_rules =
    let a = not_equal (string_bytes command) (codes "solve") (λ e. no_solve (shown ∙ e)) in
    let b = not_equal (string_bytes command) (codes "replay") (λ e. no_replay (shown ∙ e)) in
    let d = not_equal (string_bytes command) (codes "deal") (λ e. no_deal (shown ∙ e)) in
    let r = not_equal (string_bytes command) (codes "rules") (λ e. no_rules (shown ∙ e)) in
    rw (is, a, b, d, r) refl
