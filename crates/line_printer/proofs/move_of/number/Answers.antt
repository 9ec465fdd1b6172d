use Rattle.std.proofs.Common.{◌≡◌, ◌∙◌, sym, ap, arith, decimal, ℕ, List, true, false, subst}
use Rattle.std.specs.Str.{IsUtf8}
use Rattle.std.proofs.lemmas.Fmt.{parse-decimal, IsAscii-decimal}
use Rattle.std.proofs.lemmas.Str.{IsUtf8-from_ascii}
use Rattle.std.proofs.lemmas.Slice.Eq.{bytes_eq-Decides}
use Rattle.std.specs.Str.{bytes_eq}
use Rattle.line_printer.proofs.Numbers.{number_some, number_none}
use Rattle.line_printer.proofs.move_of.number.Goals as goal

pub returns-in_default : goal.returns-in_default
returns-in_default c = sym (number_none c.args.text.now (λ n small is.
    c.in_default.ensures.cases.0
    (subst IsUtf8 (sym is) (IsUtf8-from_ascii (decimal n) (IsAscii-decimal n (omega arith))))))

pub returns-in_default-parse : goal.returns-in_default-parse
returns-in_default-parse c = sym (number_none c.args.text.now (λ n small is.
    c.in_default-parse.not-Ok n (parse-decimal 8 n c.in-Ok.text.now c.parse.result (omega arith) (omega arith)
    (c.in-Ok.ensures.cases.0 ∙ is) c.parse.ensures.value.0)))

pub returns-then-eq : goal.returns-then-eq
returns-then-eq c =
    let same = (bytes_eq-Decides c.format.result.now c.in-Ok.text.now).0 (sym c.if-eq.ensures) in
    sym (number_some c.args.text.now c.in-Ok-parse.number (omega arith)
    (sym c.in-Ok.ensures.cases.0 ∙ sym same ∙ c.format.ensures.text))

pub returns-else-eq : goal.returns-else-eq
returns-else-eq c = sym (number_none c.args.text.now (λ n small is.
    let parsed = parse-decimal 8 n c.in-Ok.text.now c.parse.result (omega arith) (omega arith)
    (c.in-Ok.ensures.cases.0 ∙ is) c.parse.ensures.value.0 in
    let was = c.in-Ok-parse.is in
    let number : c.in-Ok-parse.number ≡ n = cc in
    let same = (bytes_eq-Decides c.format.result.now c.in-Ok.text.now).1
    (c.format.ensures.text ∙ ap decimal number ∙ sym (c.in-Ok.ensures.cases.0 ∙ is)) in
    let differ : false ≡ true = c.if-eq.ensures ∙ same in
    cc))
