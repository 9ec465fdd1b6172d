-- What each stage of a job hands on.
use Rattle.std.specs.Prelude.{ℕ, ◌≡◌, List, Err, Some, ⊤}
use Rattle.game_rules.specs.declared.RuleParts.{RuleParts}
use Rattle.deal_reader.specs.declared.fault.DealFault.{DealFault}
use Rattle.deal_reader.specs.FaultText.{deal_fault_text}
use Rattle.deal_reader.specs.Position.{position_of}
use Rattle.seed_deal.specs.declared.fault.SeedFault.{SeedFault}
use Rattle.seed_deal.specs.FaultText.{seed_fault_text}
use Rattle.seed_deal.specs.Seeds.{seed_fault}
use Rattle.line_printer.specs.declared.fault.LineFault.{LineFault}
use Rattle.line_printer.specs.FaultText.{line_fault_text}
use Rattle.line_printer.specs.LineFile.{line_of}
use Rattle.outside_io.specs.Faults.{Rose}
use Rattle.rules_json.specs.declared.fault.RulesFault.{RulesFault}
use Rattle.rules_json.specs.Faults.{rules_fault_text}
use Rattle.rules_json.specs.RulesFile.{rules_of}
use Rattle.patience.specs.declared.report.FileRole.{FileRole}
use Rattle.patience.specs.declared.report.FileRole.TheVariants as role
use Rattle.patience.specs.declared.report.Stop.{Stop}
use Rattle.patience.specs.declared.report.Stop.TheVariants.{Told, NoMemory}
use Rattle.patience.specs.declared.status.Status.{Status}
use Rattle.patience.specs.declared.status.Status.TheVariants.{ShelfFailed, RulesRefused, DealRefused, LineRefused}
use Rattle.patience.specs.Texts.{failed_text, refused_text}

-- a stop that tells a status and a text has their cause
abbrev pub Stops : (Status → List ℕ → Type 0) → Stop → Type 0
Stops explains (Told report) = explains report.status report.text.items
Stops explains NoMemory = ⊤

-- a file failed, and the count of its name rose
abbrev pub IsFailure : FileRole → ℕ → ℕ → Status → List ℕ → Type 0
IsFailure file before after status text = (status ≡ ShelfFailed) × (text ≡ failed_text file) × Rose before after

-- the rules file has the printed fault
abbrev pub RefusesRules : List ℕ → Status → List ℕ → Type 0
RefusesRules bytes status text =
    (fault : RulesFault) × (rules_of bytes ≡ Err fault) × (status ≡ RulesRefused)
    × (text ≡ refused_text role.Rules (rules_fault_text fault))

-- the deal file has the printed fault
abbrev pub RefusesDeal : RuleParts → List ℕ → Status → List ℕ → Type 0
RefusesDeal rules bytes status text =
    (fault : DealFault) × (position_of rules bytes ≡ Err fault) × (status ≡ DealRefused)
    × (text ≡ refused_text role.Deal (deal_fault_text fault))

-- no seed deals a board, and the fault is the printed one
abbrev pub RefusesSeed : RuleParts → Status → List ℕ → Type 0
RefusesSeed rules status text =
    (fault : SeedFault) × (seed_fault rules ≡ Some fault) × (status ≡ DealRefused)
    × (text ≡ refused_text role.Deal (seed_fault_text fault))

-- the line file has the printed fault
abbrev pub RefusesLine : List ℕ → Status → List ℕ → Type 0
RefusesLine bytes status text =
    (fault : LineFault) × (line_of bytes ≡ Err fault) × (status ≡ LineRefused)
    × (text ≡ refused_text role.Line (line_fault_text fault))
