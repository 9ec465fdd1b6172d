-- Each status and text that the program may answer, with its cause in the words and in the files.
use Rattle.std.specs.Prelude.{ℕ, ◌≡◌, ◌⊎◌, min, IsTrue, Bool, true, false, List, [], length, slice_index_or, Option}
use Rattle.std.specs.Prelude.{Some, None, Ok, Err}
use Rattle.outside_io.specs.Faults.{Rose}
use Rattle.outside_io.specs.Shelf.{File, HasBytes}
use Rattle.game_rules.specs.declared.RuleParts.{RuleParts}
use Rattle.game_rules.specs.declared.Move.{Move}
use Rattle.game_rules.specs.Board.{Board}
use Rattle.solver_words.specs.declared.fault.WordFault.{WordFault}
use Rattle.solver_words.specs.declared.job.Job.{Job}
use Rattle.solver_words.specs.declared.job.Job.TheVariants as job
use Rattle.solver_words.specs.declared.job.Source.TheVariants as source
use Rattle.solver_words.specs.FaultText.{word_fault_text}
use Rattle.solver_words.specs.Jobs.{job_of}
use Rattle.rules_json.specs.declared.fault.RulesFault.{RulesFault}
use Rattle.rules_json.specs.Faults.{rules_fault_text}
use Rattle.rules_json.specs.RulesFile.{rules_of}
use Rattle.rules_json.specs.Spelling.{rules_text}
use Rattle.deal_reader.specs.declared.fault.DealFault.{DealFault}
use Rattle.deal_reader.specs.FaultText.{deal_fault_text}
use Rattle.deal_reader.specs.Position.{position_of}
use Rattle.deal_reader.specs.Spelling.{position_text}
use Rattle.seed_deal.specs.declared.fault.SeedFault.{SeedFault}
use Rattle.seed_deal.specs.FaultText.{seed_fault_text}
use Rattle.seed_deal.specs.Seeds.{seed_board, seed_fault}
use Rattle.line_printer.specs.declared.fault.LineFault.{LineFault}
use Rattle.line_printer.specs.declared.verdict.Verdict.{Verdict}
use Rattle.line_printer.specs.FaultText.{line_fault_text}
use Rattle.line_printer.specs.LineFile.{line_of}
use Rattle.line_printer.specs.VerdictText.{output_of}
use Rattle.win_replay.specs.declared.Replayed.TheVariants as replayed
use Rattle.win_replay.specs.Replays.{IsReplayed}
use Rattle.solve_job.specs.Verdicts.{IsVerdict, IsDecided, IsSmall}
use Rattle.patience.specs.declared.asked.Asked.{Asked}
use Rattle.patience.specs.declared.report.FileRole.TheVariants as role
use Rattle.patience.specs.declared.status.Status.{Status}
use Rattle.patience.specs.declared.status.Status.TheVariants.{Done, Usage, ShelfFailed, RulesRefused, DealRefused}
use Rattle.patience.specs.declared.status.Status.TheVariants.{LineRefused, SinkFailed, Memory}
use Rattle.patience.specs.Asked.{job_asked, limits_asked}
use Rattle.patience.specs.Texts.{line, failed_text, words_text, refused_text, ends_short_text, illegal_text, wins_text}

-- what the shelf told, and how its counts of faults stood before and after
pub record Shelved : Type 0 where
  pub files : Option (List File)
  pub before : List ℕ → ℕ
  pub after : List ℕ → ℕ

-- the name of the rules file: the first word after the command
abbrev pub rules_name : List (List ℕ) → List ℕ
rules_name words = slice_index_or words 1 []

-- the name of the deal file
abbrev pub deal_name : List (List ℕ) → List ℕ
deal_name words = slice_index_or words 2 []

-- the name of the line file
abbrev pub line_name : List (List ℕ) → List ℕ
line_name words = slice_index_or words 3 []

-- a fault of the name rose in this call
abbrev pub Fails : Shelved → List ℕ → Type 0
Fails shelf name = Rose (shelf.before name) (shelf.after name)

-- whether the job has a deal file
abbrev pub takes_deal : Job → Bool
takes_deal (job.Solve source.File cache nodes narrow way memo) = true
takes_deal (job.Solve (source.FromSeed seed) cache nodes narrow way memo) = false
takes_deal job.Replay = true
takes_deal (job.Deal seed) = false
takes_deal job.Rules = false

-- the seed of the job, where it has one
abbrev pub seed_of : Job → Option ℕ
seed_of (job.Solve source.File cache nodes narrow way memo) = None
seed_of (job.Solve (source.FromSeed seed) cache nodes narrow way memo) = Some seed
seed_of job.Replay = None
seed_of (job.Deal seed) = Some seed
seed_of job.Rules = None

-- the words name the job, and the rules file gives these rules
pub record HasRules (files : Option (List File)) (words : List (List ℕ)) (job : Job) (rules : RuleParts) : Type 0 where
  pub named : job_of words ≡ Ok job
  pub bytes : List ℕ
  pub told : HasBytes files (rules_name words) bytes
  pub accepted : rules_of bytes ≡ Ok rules

-- the deal file gives this board besides
pub record HasDeal (files : Option (List File)) (words : List (List ℕ)) (job : Job) (rules : RuleParts)
    (board : Board) : Type 0 where
  pub has_rules : HasRules files words job rules
  pub takes : IsTrue (takes_deal job)
  pub bytes : List ℕ
  pub told : HasBytes files (deal_name words) bytes
  pub accepted : position_of rules bytes ≡ Ok board

-- the job's seed deals this board under the rules
pub record HasDealt (files : Option (List File)) (words : List (List ℕ)) (job : Job) (rules : RuleParts)
    (board : Board) : Type 0 where
  pub has_rules : HasRules files words job rules
  pub seed : ℕ
  pub given : seed_of job ≡ Some seed
  pub fits : seed_fault rules ≡ None
  pub dealt : board ≡ seed_board rules seed

-- the deal file or the seed gives this board
abbrev pub HasStart : Option (List File) → List (List ℕ) → Job → RuleParts → Board → Type 0
HasStart files words job rules board = HasDeal files words job rules board ⊎ HasDealt files words job rules board

-- the line file gives these moves besides
pub record HasLine (files : Option (List File)) (words : List (List ℕ)) (rules : RuleParts) (board : Board)
    (moves : List Move) : Type 0 where
  pub has_deal : HasDeal files words job.Replay rules board
  pub bytes : List ℕ
  pub told : HasBytes files (line_name words) bytes
  pub accepted : line_of bytes ≡ Ok moves

-- the words name no job
pub record IsUsage (words : List (List ℕ)) (text : List ℕ) : Type 0 where
  pub fault : WordFault
  pub names_no_job : job_of words ≡ Err fault
  pub printed : text ≡ words_text (word_fault_text fault)

-- the rules file could not be fetched
pub record IsRulesFailure (shelf : Shelved) (words : List (List ℕ)) (text : List ℕ) : Type 0 where
  pub job : Job
  pub named : job_of words ≡ Ok job
  pub rose : Fails shelf (rules_name words)
  pub printed : text ≡ failed_text role.Rules

-- the deal file could not be fetched
pub record IsDealFailure (shelf : Shelved) (words : List (List ℕ)) (text : List ℕ) : Type 0 where
  pub job : Job
  pub rules : RuleParts
  pub has_rules : HasRules shelf.files words job rules
  pub takes : IsTrue (takes_deal job)
  pub rose : Fails shelf (deal_name words)
  pub printed : text ≡ failed_text role.Deal

-- the line file could not be fetched
pub record IsLineFailure (shelf : Shelved) (words : List (List ℕ)) (text : List ℕ) : Type 0 where
  pub rules : RuleParts
  pub board : Board
  pub has_deal : HasDeal shelf.files words job.Replay rules board
  pub rose : Fails shelf (line_name words)
  pub printed : text ≡ failed_text role.Line

-- the rules file has the printed fault
pub record IsRulesRefusal (files : Option (List File)) (words : List (List ℕ)) (text : List ℕ) : Type 0 where
  pub job : Job
  pub named : job_of words ≡ Ok job
  pub bytes : List ℕ
  pub told : HasBytes files (rules_name words) bytes
  pub fault : RulesFault
  pub refused : rules_of bytes ≡ Err fault
  pub printed : text ≡ refused_text role.Rules (rules_fault_text fault)

-- the deal file has the printed fault
pub record IsDealRefusal (files : Option (List File)) (words : List (List ℕ)) (text : List ℕ) : Type 0 where
  pub job : Job
  pub rules : RuleParts
  pub has_rules : HasRules files words job rules
  pub takes : IsTrue (takes_deal job)
  pub bytes : List ℕ
  pub told : HasBytes files (deal_name words) bytes
  pub fault : DealFault
  pub refused : position_of rules bytes ≡ Err fault
  pub printed : text ≡ refused_text role.Deal (deal_fault_text fault)

-- no seed deals a board under the rules, and the fault is the printed one
pub record IsSeedRefusal (files : Option (List File)) (words : List (List ℕ)) (text : List ℕ) : Type 0 where
  pub job : Job
  pub rules : RuleParts
  pub has_rules : HasRules files words job rules
  pub seed : ℕ
  pub given : seed_of job ≡ Some seed
  pub fault : SeedFault
  pub refused : seed_fault rules ≡ Some fault
  pub printed : text ≡ refused_text role.Deal (seed_fault_text fault)

-- the line file has the printed fault
pub record IsBadLine (files : Option (List File)) (words : List (List ℕ)) (text : List ℕ) : Type 0 where
  pub rules : RuleParts
  pub board : Board
  pub has_deal : HasDeal files words job.Replay rules board
  pub bytes : List ℕ
  pub told : HasBytes files (line_name words) bytes
  pub fault : LineFault
  pub refused : line_of bytes ≡ Err fault
  pub printed : text ≡ refused_text role.Line (line_fault_text fault)

-- the printed move is the first that is not legal
pub record IsIllegalLine (files : Option (List File)) (words : List (List ℕ)) (text : List ℕ) : Type 0 where
  pub rules : RuleParts
  pub board : Board
  pub moves : List Move
  pub has_line : HasLine files words rules board moves
  pub at : ℕ
  pub illegal : IsReplayed rules board moves (replayed.Illegal at)
  pub printed : text ≡ refused_text role.Line (illegal_text at)

-- all moves are legal, and the last board is not won
pub record IsShortLine (files : Option (List File)) (words : List (List ℕ)) (text : List ℕ) : Type 0 where
  pub rules : RuleParts
  pub board : Board
  pub moves : List Move
  pub has_line : HasLine files words rules board moves
  pub short : IsReplayed rules board moves replayed.EndsShort
  pub printed : text ≡ refused_text role.Line ends_short_text

-- a verdict on the deal was printed, and it is true
pub record IsSolved (files : Option (List File)) (words : List (List ℕ)) (text : List ℕ) : Type 0 where
  pub asked : Asked
  pub rules : RuleParts
  pub start : Board
  pub has_start : HasStart files words (job_asked asked) rules start
  pub verdict : Verdict
  pub is_true : IsVerdict rules start (limits_asked asked) verdict
  -- where so few boards cover the game, the verdict is not undecided
  pub decides : IsSmall rules start (min asked.nodes asked.cache) → IsDecided verdict
  pub printed : text ≡ output_of verdict

-- the line of moves wins from the deal
pub record IsWinningLine (files : Option (List File)) (words : List (List ℕ)) (text : List ℕ) : Type 0 where
  pub rules : RuleParts
  pub board : Board
  pub moves : List Move
  pub has_line : HasLine files words rules board moves
  pub wins : IsReplayed rules board moves replayed.Wins
  pub printed : text ≡ wins_text (length moves)

-- the position that the seed deals was printed
pub record IsDealt (files : Option (List File)) (words : List (List ℕ)) (text : List ℕ) : Type 0 where
  pub seed : ℕ
  pub rules : RuleParts
  pub has_rules : HasRules files words (job.Deal seed) rules
  pub fits : seed_fault rules ≡ None
  pub printed : text ≡ line (position_text rules (seed_board rules seed))

-- the rules were printed in their one spelling
pub record IsSpelled (files : Option (List File)) (words : List (List ℕ)) (text : List ℕ) : Type 0 where
  pub rules : RuleParts
  pub has_rules : HasRules files words job.Rules rules
  pub printed : text ≡ line (rules_text rules)

-- the cause of a status and of its text
abbrev pub Explains : Shelved → List (List ℕ) → Status → List ℕ → Type 0
Explains shelf words Done text =
    IsSolved shelf.files words text
    ⊎ (IsWinningLine shelf.files words text ⊎ (IsDealt shelf.files words text ⊎ IsSpelled shelf.files words text))
Explains shelf words Usage text = IsUsage words text
Explains shelf words ShelfFailed text =
    IsRulesFailure shelf words text ⊎ (IsDealFailure shelf words text ⊎ IsLineFailure shelf words text)
Explains shelf words RulesRefused text = IsRulesRefusal shelf.files words text
Explains shelf words DealRefused text = IsDealRefusal shelf.files words text ⊎ IsSeedRefusal shelf.files words text
Explains shelf words LineRefused text =
    IsBadLine shelf.files words text ⊎ (IsIllegalLine shelf.files words text ⊎ IsShortLine shelf.files words text)
Explains shelf words SinkFailed text = ⊥
Explains shelf words Memory text = ⊥
