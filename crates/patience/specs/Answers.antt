-- What is written with each status, and which status must be answered.
use Rattle.std.specs.Prelude.{ℕ, ◌≡◌, ◌≢◌, IsTrue, List, Option, Some, None, Ok, Err}
use Rattle.std.specs.Io.KnownBytes.{Appends}
use Rattle.outside_io.specs.Sink.{AppendsPrefix}
use Rattle.outside_io.specs.Shelf.{Tells}
use Rattle.game_rules.specs.declared.RuleParts.{RuleParts}
use Rattle.game_rules.specs.declared.Move.{Move}
use Rattle.game_rules.specs.Board.{Board}
use Rattle.solver_words.specs.declared.fault.WordFault.{WordFault}
use Rattle.solver_words.specs.declared.job.Job.{Job}
use Rattle.solver_words.specs.declared.job.Job.TheVariants as job
use Rattle.solver_words.specs.Jobs.{job_of}
use Rattle.rules_json.specs.declared.fault.RulesFault.{RulesFault}
use Rattle.rules_json.specs.RulesFile.{rules_of}
use Rattle.deal_reader.specs.declared.fault.DealFault.{DealFault}
use Rattle.deal_reader.specs.Position.{position_of}
use Rattle.seed_deal.specs.declared.fault.SeedFault.{SeedFault}
use Rattle.seed_deal.specs.Seeds.{seed_fault}
use Rattle.line_printer.specs.declared.fault.LineFault.{LineFault}
use Rattle.line_printer.specs.LineFile.{line_of}
use Rattle.win_replay.specs.declared.Replayed.TheVariants as replayed
use Rattle.win_replay.specs.Replays.{IsReplayed}
use Rattle.patience.specs.declared.asked.Asked.{Asked}
use Rattle.patience.specs.declared.status.Status.{Status}
use Rattle.patience.specs.declared.status.Status.TheVariants.{Done, Usage, RulesRefused, DealRefused, LineRefused}
use Rattle.patience.specs.declared.status.Status.TheVariants.{SinkFailed, Memory}
use Rattle.patience.specs.Asked.{job_asked}
use Rattle.patience.specs.Causes.{Shelved, Fails, rules_name, deal_name, line_name, takes_deal, seed_of}

-- A status other than SinkFailed and Memory comes with a text that it explains, and this text alone was written.
abbrev pub WritesWhole : (Status → List ℕ → Type 0) → Option (List ℕ) → Option (List ℕ) → Status → Type 0
WritesWhole explains old new SinkFailed = Unit {0}
WritesWhole explains old new Memory = Unit {0}
WritesWhole explains old new status = (text : List ℕ) × explains status text × Appends old new text

-- A prefix was written of a text that some status explains.
abbrev pub WritesPart : (Status → List ℕ → Type 0) → Option (List ℕ) → Option (List ℕ) → Type 0
WritesPart explains old new = (status : Status) × (text : List ℕ) × explains status text × AppendsPrefix old new text

-- the status is this one, unless the sink failed or there was no memory
abbrev pub Yields : Status → Status → Type 0
Yields expected result = (result ≢ SinkFailed) → (result ≢ Memory) → result ≡ expected

-- the shelf tells the bytes of the file, and no fault of its name rose
pub record Gives (shelf : Shelved) (name bytes : List ℕ) : Type 0 where
  pub tells : Tells shelf.files name bytes
  pub calm : ¬ Fails shelf name

-- the words name the job, and the shelf gives an accepted rules file
pub record GivesRules (shelf : Shelved) (words : List (List ℕ)) (job : Job) (rules : RuleParts) : Type 0 where
  pub named : job_of words ≡ Ok job
  pub bytes : List ℕ
  pub given : Gives shelf (rules_name words) bytes
  pub accepted : rules_of bytes ≡ Ok rules

-- the shelf gives a deal besides
pub record GivesDeal (shelf : Shelved) (words : List (List ℕ)) (job : Job) (rules : RuleParts)
    (board : Board) : Type 0 where
  pub has_rules : GivesRules shelf words job rules
  pub takes : IsTrue (takes_deal job)
  pub bytes : List ℕ
  pub given : Gives shelf (deal_name words) bytes
  pub accepted : position_of rules bytes ≡ Ok board

-- the status is the one that must be answered to the words, and to the files that the shelf gives
pub record IsDue (shelf : Shelved) (words : List (List ℕ)) (result : Status) : Type 0 where
  pub usage : (fault : WordFault) → job_of words ≡ Err fault → Yields Usage result
  pub rules_refused : (job : Job) (bytes : List ℕ) (fault : RulesFault) → job_of words ≡ Ok job
      → Gives shelf (rules_name words) bytes
      → rules_of bytes ≡ Err fault → Yields RulesRefused result
  pub deal_refused : (job : Job) (rules : RuleParts) (bytes : List ℕ) (fault : DealFault)
      → GivesRules shelf words job rules
      → IsTrue (takes_deal job) → Gives shelf (deal_name words) bytes → position_of rules bytes ≡ Err fault
      → Yields DealRefused result
  pub seed_refused : (job : Job) (rules : RuleParts) (seed : ℕ) (fault : SeedFault) → GivesRules shelf words job rules
      → seed_of job ≡ Some seed → seed_fault rules ≡ Some fault → Yields DealRefused result
  pub bad_line : (rules : RuleParts) (board : Board) (bytes : List ℕ) (fault : LineFault)
      → GivesDeal shelf words job.Replay rules board
      → Gives shelf (line_name words) bytes → line_of bytes ≡ Err fault → Yields LineRefused result
  pub no_win : (rules : RuleParts) (board : Board) (bytes : List ℕ) (moves : List Move)
      → GivesDeal shelf words job.Replay rules board
      → Gives shelf (line_name words) bytes → line_of bytes ≡ Ok moves → (¬ IsReplayed rules board moves replayed.Wins)
      → Yields LineRefused result
  pub win : (rules : RuleParts) (board : Board) (bytes : List ℕ) (moves : List Move)
      → GivesDeal shelf words job.Replay rules board
      → Gives shelf (line_name words) bytes → line_of bytes ≡ Ok moves → IsReplayed rules board moves replayed.Wins
      → Yields Done result
  pub solved : (asked : Asked) (rules : RuleParts) (board : Board) → GivesDeal shelf words (job_asked asked) rules board
      → Yields Done result
  -- a seed is solved, or its deal is printed
  pub dealt : (job : Job) (rules : RuleParts) (seed : ℕ) → GivesRules shelf words job rules → seed_of job ≡ Some seed
      → seed_fault rules ≡ None → Yields Done result
  pub spelled : (rules : RuleParts) → GivesRules shelf words job.Rules rules → Yields Done result
