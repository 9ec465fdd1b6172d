-- What refuses a rules file.
use Rattle.std.proofs.Common.{◌≡◌, ◌≢◌, ℕ, List, Result, Err, sym, ◌∙◌}
use Rattle.game_rules.specs.declared.RuleParts.{RuleParts}
use Rattle.rules_json.specs.declared.fault.RulesFault.{RulesFault}
use Rattle.rules_json.specs.Faults.{rules_fault_text}
use Rattle.rules_json.specs.RulesFile.{rules_of}
use Rattle.rules_json.specs.declared.fault.RulesFault.TheVariants.{Memory}
use Rattle.patience.specs.declared.report.FileRole.TheVariants as role
use Rattle.patience.specs.declared.report.Stop.{Stop}
use Rattle.patience.specs.declared.report.Stop.TheVariants.{Told, NoMemory}
use Rattle.patience.specs.declared.status.Status.TheVariants.{RulesRefused}
use Rattle.patience.specs.Stages.{Stops, RefusesRules}
use Rattle.patience.specs.Texts.{refused_text}

-- a result has one fault
err-same : (result : Result RuleParts RulesFault) (a b : RulesFault) → result ≡ Err a → result ≡ Err b → a ≡ b
err-same result a b first second = cc

-- what refuses a fault of the file refuses its rules
pub stops-fault : (bytes : List ℕ) (result : Result RuleParts RulesFault) (fault : RulesFault) (stop : Stop)
    → result ≡ Err fault → ((result ≡ Err Memory → ⊥) → result ≡ rules_of bytes)
    → Stops (λ status text.
    (fault ≢ Memory) × (status ≡ RulesRefused) × (text ≡ refused_text role.Rules (rules_fault_text fault))) stop
    → Stops (RefusesRules bytes) stop
stops-fault bytes result fault (Told report) is read h =
    let apart : result ≡ Err Memory → ⊥ = λ memory. h.0 (err-same result fault Memory is memory) in
    (fault, sym (read apart) ∙ is, h.1, h.2)
stops-fault bytes result fault NoMemory is read h = tt
