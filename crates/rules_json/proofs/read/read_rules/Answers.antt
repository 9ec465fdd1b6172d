use Rattle.std.proofs.Common.{◌≡◌, ◌∙◌, sym, ap, Err}
use Rattle.std.proofs.lemmas.Result.{err_from_is_err_and}
use Rattle.serde_json.specs.View.{view}
use Rattle.rules_json.specs.Faults.{of_file}
use Rattle.rules_json.proofs.Reading.{rules_of-object, rules_of-fault}
use Rattle.rules_json.proofs.read.read_rules.Goals as goal

pub returns-in_err-top : goal.returns-in_err-top
returns-in_err-top c =
    let p = err_from_is_err_and c.from_residual.result c.from_residual.ensures.1 in
    let fault = c.in_err-top.field-0.0 in
    let is : c.from_residual.result ≡ Err (of_file fault) = p.1 ∙ ap Err p.2 in
    record {
      value = λ other. is ∙ sym (rules_of-fault c.args.bytes.now fault
          (c.in_err-top.ensures.fault (λ memory. other (is ∙ ap (λ f. Err (of_file f)) memory))));
    }

pub returns : goal.returns
returns c = record {
  value = λ other. c.rules_of_value.ensures
      ∙ sym (rules_of-object c.args.bytes.now (view c.in_ok-top.top) c.in_ok-top.ensures.object);
}
