use Rattle.std.proofs.Common.{◌≡◌, ◌∙◌, sym, ap, arith, decimal, true, false}
use Rattle.std.proofs.lemmas.Fmt.{parse-decimal}
use Rattle.std.proofs.lemmas.Slice.Eq.{bytes_eq-Decides}
use Rattle.solver_words.proofs.Numbers.{number_some, number_none}
use Rattle.solver_words.proofs.number.number.Goals as goal

pub returns-in_default : goal.returns-in_default
returns-in_default c = sym (number_none c.args.text.now (λ n small is.
    c.in_default.not-Ok n (parse-decimal 64 n c.args.text.now c.parse.result small small is c.parse.ensures.value.0)))

pub returns-then-eq : goal.returns-then-eq
returns-then-eq c =
    let same = (bytes_eq-Decides c.format.result.now c.args.text.now).0 (sym c.if-eq.ensures) in
    sym (number_some c.args.text.now c.in-Ok.number (omega arith) (sym same ∙ c.format.ensures.text))

pub returns-else-eq : goal.returns-else-eq
returns-else-eq c = sym (number_none c.args.text.now (λ n small is.
    let parsed = parse-decimal 64 n c.args.text.now c.parse.result small small is c.parse.ensures.value.0 in
    let was = c.in-Ok.is in
    let number : c.in-Ok.number ≡ n = cc in
    let same = (bytes_eq-Decides c.format.result.now c.args.text.now).1
    (c.format.ensures.text ∙ ap decimal number ∙ sym is) in
    let differ : false ≡ true = c.if-eq.ensures ∙ same in
    cc))
