-- What may be printed of a rules file and a deal file, in the words of the game and of the two files alone.
use Rattle.std.specs.Prelude.{ℕ, ◌≡◌, ◌⊎◌, ⊤, List, [], Ok, Err}
use Rattle.game_rules.specs.declared.RuleParts.{RuleParts}
use Rattle.game_rules.specs.declared.Move.{Move}
use Rattle.game_rules.specs.Board.{Board}
use Rattle.game_rules.specs.Winning.{Won, Line}
use Rattle.rules_json.specs.declared.fault.RulesFault.{RulesFault}
use Rattle.rules_json.specs.Faults.{rules_fault_text}
use Rattle.rules_json.specs.RulesFile.{rules_of}
use Rattle.deal_reader.specs.declared.fault.DealFault.{DealFault}
use Rattle.deal_reader.specs.FaultText.{deal_fault_text}
use Rattle.deal_reader.specs.Position.{position_of}
use Rattle.line_printer.specs.declared.verdict.Verdict.{Verdict}
use Rattle.line_printer.specs.declared.verdict.Verdict.TheVariants as verdict
use Rattle.line_printer.specs.VerdictText.{output_of}
use Rattle.patience.specs.declared.report.FileRole.TheVariants as role
use Rattle.patience.specs.declared.status.Status.{Status}
use Rattle.patience.specs.declared.status.Status.TheVariants.{Done, Usage, ShelfFailed, RulesRefused, DealRefused}
use Rattle.patience.specs.declared.status.Status.TheVariants.{LineRefused, SinkFailed, Memory}
use Rattle.patience.specs.Texts.{failed_text, refused_text}

-- what a verdict says of a start: this line wins, no line at all wins, or so many nodes were spent
abbrev pub Says : RuleParts → Board → ℕ → Verdict → Type 0
Says rules start limit (verdict.Winnable moves nodes narrow_nodes) =
    (end : Board) × Line rules start moves end × Won rules end
Says rules start limit (verdict.Unwinnable nodes narrow_nodes) =
    (moves : List Move) (end : Board) → Line rules start moves end → ¬ Won rules end
Says rules start limit (verdict.Undecided nodes narrow_nodes) = nodes ≡ limit

-- both files are accepted, and the text is a verdict that is true of the deal
pub record PrintsVerdict (rules_bytes deal_bytes text : List ℕ) : Type 0 where
  pub rules : RuleParts
  pub start : Board
  pub is_rules : rules_of rules_bytes ≡ Ok rules
  pub is_deal : position_of rules deal_bytes ≡ Ok start
  pub verdict : Verdict
  pub says : Says rules start 1000000 verdict
  pub printed : text ≡ output_of verdict

-- the rules file has the printed fault
pub record PrintsRulesFault (rules_bytes text : List ℕ) : Type 0 where
  pub fault : RulesFault
  pub is_fault : rules_of rules_bytes ≡ Err fault
  pub printed : text ≡ refused_text role.Rules (rules_fault_text fault)

-- the rules are accepted, and the deal file has the printed fault
pub record PrintsDealFault (rules_bytes deal_bytes text : List ℕ) : Type 0 where
  pub rules : RuleParts
  pub fault : DealFault
  pub is_rules : rules_of rules_bytes ≡ Ok rules
  pub is_fault : position_of rules deal_bytes ≡ Err fault
  pub printed : text ≡ refused_text role.Deal (deal_fault_text fault)

-- what may be printed with each status
abbrev pub Prints : List ℕ → List ℕ → Status → List ℕ → Type 0
Prints rules_bytes deal_bytes Done text = PrintsVerdict rules_bytes deal_bytes text
Prints rules_bytes deal_bytes Usage text = ⊥
Prints rules_bytes deal_bytes ShelfFailed text = (text ≡ failed_text role.Rules) ⊎ (text ≡ failed_text role.Deal)
Prints rules_bytes deal_bytes RulesRefused text = PrintsRulesFault rules_bytes text
Prints rules_bytes deal_bytes DealRefused text = PrintsDealFault rules_bytes deal_bytes text
Prints rules_bytes deal_bytes LineRefused text = ⊥
Prints rules_bytes deal_bytes SinkFailed text = ⊤
Prints rules_bytes deal_bytes Memory text = text ≡ []
