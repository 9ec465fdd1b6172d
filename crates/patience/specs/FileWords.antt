-- How jobs end whose files are told and given, in the words of the game and of the files alone.
use Rattle.std.specs.Prelude.{ℕ, ◌≡◌, ◌⊎◌, List, Option, Ok, Err, codes, length}
use Rattle.std.specs.Io.KnownBytes.{Appends}
use Rattle.outside_io.specs.Faults.{Rose}
use Rattle.outside_io.specs.Shelf.{File, Tells}
use Rattle.game_rules.specs.declared.RuleParts.{RuleParts}
use Rattle.game_rules.specs.declared.Move.{Move}
use Rattle.game_rules.specs.Board.{Board}
use Rattle.game_rules.specs.Winning.{Won, Line}
use Rattle.rules_json.specs.declared.fault.RulesFault.{RulesFault}
use Rattle.rules_json.specs.RulesFile.{rules_of}
use Rattle.deal_reader.specs.declared.fault.DealFault.{DealFault}
use Rattle.deal_reader.specs.Position.{position_of}
use Rattle.line_printer.specs.declared.fault.LineFault.{LineFault}
use Rattle.line_printer.specs.LineFile.{line_of}
use Rattle.line_printer.specs.declared.verdict.Verdict.{Verdict}
use Rattle.line_printer.specs.VerdictText.{output_of}
use Rattle.patience.specs.declared.status.Status.{Status}
use Rattle.patience.specs.declared.status.Status.TheVariants.{Done, RulesRefused, DealRefused, LineRefused}
use Rattle.patience.specs.declared.status.Status.TheVariants.{SinkFailed, Memory}
use Rattle.patience.specs.PlainWords.{Says}
use Rattle.patience.specs.Texts.{wins_text}

-- three files, each by the name that it has here
pub record Files : Type 0 where
  pub rules : List ℕ
  pub deal : List ℕ
  pub line : List ℕ

-- a file of that name is told, and no fault of its name rose
pub record IsGiven (files : Option (List File)) (before after : List ℕ → ℕ) (name bytes : List ℕ) : Type 0 where
  pub told : Tells files name bytes
  pub calm : ¬ Rose (before name) (after name)

-- all three are given
pub record AreGiven (told : Option (List File)) (before after : List ℕ → ℕ) (files : Files) : Type 0 where
  pub rules : IsGiven told before after (codes "rules") files.rules
  pub deal : IsGiven told before after (codes "deal") files.deal
  pub line : IsGiven told before after (codes "line") files.line

-- the status is this one, or the text could not be written, or there was no memory
abbrev pub Ends : Status → Status → Type 0
Ends expected status = (status ≡ expected) ⊎ ((status ≡ SinkFailed) ⊎ (status ≡ Memory))

-- both files are accepted, and say this
pub record AreAccepted (files : Files) (rules : RuleParts) (start : Board) : Type 0 where
  pub is_rules : rules_of files.rules ≡ Ok rules
  pub is_deal : position_of rules files.deal ≡ Ok start

-- a deal that is solved: done if both files are accepted, and else refused by the first that is not
pub record EndsSolve (files : Files) (status : Status) : Type 0 where
  pub solved : (rules : RuleParts) (start : Board) → AreAccepted files rules start → Ends Done status
  pub rules_refused : (fault : RulesFault) → rules_of files.rules ≡ Err fault → Ends RulesRefused status
  pub deal_refused : (rules : RuleParts) (fault : DealFault) → rules_of files.rules ≡ Ok rules
      → position_of rules files.deal ≡ Err fault → Ends DealRefused status

-- a line that is replayed: done if it leads to a won board, and else refused by the first file with a fault
pub record EndsReplay (files : Files) (status : Status) : Type 0 where
  pub rules_refused : (fault : RulesFault) → rules_of files.rules ≡ Err fault → Ends RulesRefused status
  pub deal_refused : (rules : RuleParts) (fault : DealFault) → rules_of files.rules ≡ Ok rules
      → position_of rules files.deal ≡ Err fault → Ends DealRefused status
  pub bad_line : (rules : RuleParts) (start : Board) (fault : LineFault) → AreAccepted files rules start
      → line_of files.line ≡ Err fault → Ends LineRefused status
  pub wins : (rules : RuleParts) (start : Board) (moves : List Move) (end : Board) → AreAccepted files rules start
      → line_of files.line ≡ Ok moves → Line rules start moves end → Won rules end → Ends Done status
  pub no_win : (rules : RuleParts) (start : Board) (moves : List Move) → AreAccepted files rules start
      → line_of files.line ≡ Ok moves → ((end : Board) → Line rules start moves end → ¬ Won rules end)
      → Ends LineRefused status

-- an accepted deal gets a true verdict, whose text is written, or there is no memory
abbrev pub WritesVerdict : Files → Option (List ℕ) → Option (List ℕ) → Status → Type 0
WritesVerdict files old new status = (rules : RuleParts) (start : Board) → AreAccepted files rules start
    → (status ≡ Memory)
    ⊎ ((status ≡ Done) × ((verdict : Verdict) × Says rules start 1000000 verdict × Appends old new (output_of verdict)))

-- a line that wins is said to win, and the number of its moves is written, or there is no memory
abbrev pub WritesWin : Files → Option (List ℕ) → Option (List ℕ) → Status → Type 0
WritesWin files old new status = (rules : RuleParts) (start : Board) (moves : List Move) (end : Board)
    → AreAccepted files rules start → line_of files.line ≡ Ok moves → Line rules start moves end → Won rules end
    → (status ≡ Memory) ⊎ ((status ≡ Done) × Appends old new (wins_text (length moves)))

-- what a solved deal and then a replayed line add to what was written
pub record WritesBoth (files : Files) (old new : Option (List ℕ)) (solved replayed : Status) : Type 0 where
  pub between : Option (List ℕ)
  pub verdict : WritesVerdict files old between solved
  pub win : WritesWin files between new replayed
