-- Two steps of a reading.
use Rattle.std.proofs.Common.{◌≡◌, Result, Ok, Err, refl}
use Rattle.solver_words.specs.declared.fault.WordFault.{WordFault}
use Rattle.solver_words.specs.Choice.{◌>>=◌}

-- Where two steps are Ok, the first was.
pub ok_before : {A B : Type 0} → (first : Result A WordFault) (second : A → Result B WordFault) (last : B)
    → (first >>= second) ≡ Ok last → (x : A) × (first ≡ Ok x) × (second x ≡ Ok last)
ok_before (Ok x) second last h = (x, refl, h)
ok_before (Err e) second last h = absurd (cc)
