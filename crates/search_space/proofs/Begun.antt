-- A list that begins with all of another one.
use Rattle.std.proofs.Common.{◌≡◌, ◌≤◌, List, ◌++◌, length, take, ap, sym, ◌∙◌, arith, length-append}
use Rattle.std.proofs.Math.Seq.{take-append_seam}
use Rattle.std.proofs.lemmas.List.{take-take}

pub begun-more : {A : Type 0} (old more mid xs : List A) → mid ≡ old ++ more → take (length mid) xs ≡ mid
    → take (length old) xs ≡ old
begun-more old more mid xs e starts =
    let less : length old ≤ length mid = omega (arith, ap length e, length-append old more) in
    sym (take-take (length old) (length mid) xs less)
    ∙ (ap (take (length old)) (starts ∙ e) ∙ take-append_seam old more)
