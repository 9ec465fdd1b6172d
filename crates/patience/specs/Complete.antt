-- Completeness: how a job ends where its files and its seed are accepted and no fault rose.
use Rattle.std.specs.Prelude.{ℕ, ◌≡◌, ◌⊎◌, ⊤, min, List, length, Option, Some, None, Ok}
use Rattle.std.specs.Io.KnownBytes.{Appends}
use Rattle.game_rules.specs.declared.RuleParts.{RuleParts}
use Rattle.game_rules.specs.declared.Move.{Move}
use Rattle.game_rules.specs.Board.{Board}
use Rattle.solver_words.specs.declared.job.Job.TheVariants as job
use Rattle.rules_json.specs.Spelling.{rules_text}
use Rattle.deal_reader.specs.Spelling.{position_text}
use Rattle.seed_deal.specs.Seeds.{seed_board, seed_fault}
use Rattle.line_printer.specs.LineFile.{line_of}
use Rattle.line_printer.specs.declared.verdict.Verdict.{Verdict}
use Rattle.line_printer.specs.VerdictText.{output_of}
use Rattle.win_replay.specs.declared.Replayed.TheVariants as replayed
use Rattle.win_replay.specs.Replays.{IsReplayed}
use Rattle.solve_job.specs.Verdicts.{IsVerdict, IsDecided, IsSmall}
use Rattle.patience.specs.declared.asked.Asked.{Asked}
use Rattle.patience.specs.declared.report.FileRole.TheVariants as role
use Rattle.patience.specs.declared.status.Status.{Status}
use Rattle.patience.specs.declared.status.Status.TheVariants.{Done, LineRefused, Memory}
use Rattle.patience.specs.Asked.{job_asked, limits_asked}
use Rattle.patience.specs.Answers.{Gives, GivesRules, GivesDeal}
use Rattle.patience.specs.Causes.{Shelved, line_name, seed_of}
use Rattle.patience.specs.Texts.{line, refused_text, ends_short_text, illegal_text, wins_text}

-- the status is Done with such a text, or Memory, and no other
abbrev pub Finishes : (List ℕ → Type 0) → Option (List ℕ) → Option (List ℕ) → Status → Type 0
Finishes prints old new Done = (text : List ℕ) × prints text × Appends old new text
Finishes prints old new Memory = ⊤
Finishes prints old new status = ⊥

-- the status is Done with the one text, LineRefused with the other, or Memory, and no other
abbrev pub Judges : (List ℕ → Type 0) → (List ℕ → Type 0) → Option (List ℕ) → Option (List ℕ) → Status → Type 0
Judges wins fails old new LineRefused = (text : List ℕ) × fails text × Appends old new text
Judges wins fails old new status = Finishes wins old new status

-- one of the three verdicts, which is true, and decided where few boards cover the game
pub record PrintsSolution (rules : RuleParts) (start : Board) (asked : Asked) (text : List ℕ) : Type 0 where
  pub verdict : Verdict
  pub is_true : IsVerdict rules start (limits_asked asked) verdict
  pub decides : IsSmall rules start (min asked.nodes asked.cache) → IsDecided verdict
  pub printed : text ≡ output_of verdict

-- the line wins, and the text says so
abbrev pub PrintsWin : RuleParts → Board → List Move → List ℕ → Type 0
PrintsWin rules start moves text = IsReplayed rules start moves replayed.Wins × (text ≡ wins_text (length moves))

-- the line has an illegal move or ends short, and the text says which
abbrev pub PrintsNoWin : RuleParts → Board → List Move → List ℕ → Type 0
PrintsNoWin rules start moves text =
    (IsReplayed rules start moves replayed.EndsShort × (text ≡ refused_text role.Line ends_short_text))
    ⊎ ((at : ℕ) × IsReplayed rules start moves (replayed.Illegal at)
    × (text ≡ refused_text role.Line (illegal_text at)))

-- how each job ends that is given accepted files and an accepted seed
pub record IsComplete (shelf : Shelved) (words : List (List ℕ)) (old new : Option (List ℕ))
    (result : Status) : Type 0 where
  pub solves : (asked : Asked) (rules : RuleParts) (board : Board) → GivesDeal shelf words (job_asked asked) rules board
      → Finishes (PrintsSolution rules board asked) old new result
  pub solves_seed : (asked : Asked) (rules : RuleParts) (seed : ℕ) → GivesRules shelf words (job_asked asked) rules
      → seed_of (job_asked asked) ≡ Some seed → seed_fault rules ≡ None
      → Finishes (PrintsSolution rules (seed_board rules seed) asked) old new result
  pub deals : (rules : RuleParts) (seed : ℕ) → GivesRules shelf words (job.Deal seed) rules → seed_fault rules ≡ None
      → Finishes (λ text. text ≡ line (position_text rules (seed_board rules seed))) old new result
  pub spells : (rules : RuleParts) → GivesRules shelf words job.Rules rules
      → Finishes (λ text. text ≡ line (rules_text rules)) old new result
  pub replays : (rules : RuleParts) (board : Board) (bytes : List ℕ) (moves : List Move)
      → GivesDeal shelf words job.Replay rules board
      → Gives shelf (line_name words) bytes → line_of bytes ≡ Ok moves
      → Judges (PrintsWin rules board moves) (PrintsNoWin rules board moves) old new result
