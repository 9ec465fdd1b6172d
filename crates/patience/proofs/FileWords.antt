-- From the clauses of the top call to how jobs end, in the words of their files.
use Rattle.std.proofs.Common.{◌≡◌, ℕ, ◌≤◌, Bool, true, false, nat_lt, ltb-true, ltb-false, arith, inl, inr, ⊎_elim}
use Rattle.std.proofs.Common.{List, [], ◌∷◌, refl, sym, subst, ◌⊎◌}
use Rattle.std.specs.Prelude.{codes, length, Ok, Option}
use Rattle.std.specs.Io.KnownBytes.{Appends}
use Rattle.outside_io.specs.Faults.{Rose}
use Rattle.outside_io.specs.Shelf.{File}
use Rattle.outside_io.proofs.Rising.{Rose-earlier}
use Rattle.game_rules.specs.declared.RuleParts.{RuleParts}
use Rattle.game_rules.specs.declared.Move.{Move}
use Rattle.game_rules.specs.Board.{Board}
use Rattle.rules_json.specs.RulesFile.{rules_of}
use Rattle.solver_words.specs.declared.job.Job.TheVariants as job
use Rattle.solver_words.specs.declared.job.MemoWord.TheVariants as memo
use Rattle.solver_words.specs.declared.job.Source.TheVariants as source
use Rattle.solver_words.specs.declared.job.Way.TheVariants as way
use Rattle.solver_words.specs.Jobs.{job_of}
use Rattle.line_printer.specs.declared.verdict.Verdict.{Verdict}
use Rattle.line_printer.specs.VerdictText.{output_of}
use Rattle.win_replay.specs.declared.Replayed.TheVariants as replayed
use Rattle.win_replay.specs.Replays.{IsReplayed}
use Rattle.patience.specs.declared.asked.Asked.{Asked}
use Rattle.patience.specs.declared.status.Status.{Status}
use Rattle.patience.specs.declared.status.Status.TheVariants.{Done, Usage, ShelfFailed, RulesRefused, DealRefused}
use Rattle.patience.specs.declared.status.Status.TheVariants.{LineRefused, SinkFailed, Memory}
use Rattle.patience.specs.Answers.{Yields, Gives, GivesRules, GivesDeal, IsDue}
use Rattle.patience.specs.Asked.{job_asked, limits_asked}
use Rattle.patience.specs.Causes.{Shelved}
use Rattle.patience.specs.Complete.{Finishes, Judges, PrintsSolution, PrintsWin, PrintsNoWin, IsComplete}
use Rattle.patience.specs.FileWords.{Files, IsGiven, AreGiven, AreAccepted, Ends, EndsSolve, EndsReplay}
use Rattle.patience.specs.FileWords.{WritesVerdict, WritesWin}
use Rattle.patience.specs.PlainWords.{Says}
use Rattle.patience.specs.Texts.{wins_text}
use Rattle.patience.proofs.PlainWords.{solve_words, says-from_verdict}
use Rattle.patience.proofs.Replay.{wins-not_short, wins-not_illegal}

-- the words of the second job
abbrev pub replay_words : List (List ℕ)
replay_words = codes "replay" ∷ codes "rules" ∷ codes "deal" ∷ codes "line" ∷ []

-- what the first job was asked
abbrev pub asked : Asked
asked = record {
  source = source.File;
  cache = 100000;
  nodes = 1000000;
  narrow = 0;
  way = way.Both;
  memo = memo.Linked;
}

job_of-solve : job_of solve_words ≡ Ok (job_asked asked)
job_of-solve = refl

job_of-replay : job_of replay_words ≡ Ok job.Replay
job_of-replay = refl

-- a status that yields to want of memory and to a sink that failed
ends : (expected status : Status) → Yields expected status → Ends expected status
ends expected SinkFailed yields = inr (inl refl)
ends expected Memory yields = inr (inr refl)
ends expected Done yields = inl (yields (λ e. cc) (λ e. cc))
ends expected Usage yields = inl (yields (λ e. cc) (λ e. cc))
ends expected ShelfFailed yields = inl (yields (λ e. cc) (λ e. cc))
ends expected RulesRefused yields = inl (yields (λ e. cc) (λ e. cc))
ends expected DealRefused yields = inl (yields (λ e. cc) (λ e. cc))
ends expected LineRefused yields = inl (yields (λ e. cc) (λ e. cc))

-- a count that rose, seen from a later end
Rose-later : (before now later : ℕ) → before ≤ now → now ≤ later → Rose before now → Rose before later
Rose-later before now later first second rose =
    let by_test : (b : Bool) → nat_lt before later ≡ b → Rose before later =
    λ b. elim b as (λ b. nat_lt before later ≡ b → Rose before later) [
      | true ↦ λ e. inl (ltb-true _ _ e)
      | false ↦ λ e. ⊎_elim (λ less. inl (omega (arith, less, second)))
          (λ last. inr (omega (arith, last, first, second, ltb-false _ _ e))) rose
    ] in
    by_test (nat_lt before later) refl

-- a count that did not rise in two calls did not rise in the first
pub calm_first : (before now later : ℕ) → before ≤ now → now ≤ later → ¬ Rose before later → ¬ Rose before now
calm_first before now later first second calm = λ rose. calm (Rose-later before now later first second rose)

-- nor in the second
pub calm_second : (before now later : ℕ) → before ≤ now → ¬ Rose before later → ¬ Rose now later
calm_second before now later first calm = λ rose. calm (Rose-earlier before now later first rose)

module _ (told other : Option (List File)) (before now later : List ℕ → ℕ) (files : Files)
    (first : (name : List ℕ) → before name ≤ now name) (second : (name : List ℕ) → now name ≤ later name)
    (given : AreGiven told before later files) where
  file_first : (name bytes : List ℕ) → IsGiven told before later name bytes → IsGiven told before now name bytes
  file_first name bytes is = record {
    told = is.told;
    calm = calm_first (before name) (now name) (later name) (first name) (second name) is.calm;
  }

  file_second : (name bytes : List ℕ) → IsGiven told before later name bytes → IsGiven told now later name bytes
  file_second name bytes is = record {
    told = is.told;
    calm = calm_second (before name) (now name) (later name) (first name) is.calm;
  }

  -- files that are given in two calls are given in the first
  pub given_first : AreGiven told before now files
  given_first = record {
    rules = file_first (codes "rules") files.rules given.rules;
    deal = file_first (codes "deal") files.deal given.deal;
    line = file_first (codes "line") files.line given.line;
  }

  -- and in the second, where the shelf tells the same
  pub given_second : other ≡ told → AreGiven other now later files
  given_second same =
      let told_again : AreGiven told now later files = record {
        rules = file_second (codes "rules") files.rules given.rules;
        deal = file_second (codes "deal") files.deal given.deal;
        line = file_second (codes "line") files.line given.line;
      } in
      subst (λ t. AreGiven t now later files) (sym same) told_again

-- a verdict that was written is true
finish-verdict : (rules : RuleParts) (start : Board) (old new : Option (List ℕ)) (status : Status)
    → Finishes (PrintsSolution rules start asked) old new status
    → (status ≡ Memory)
    ⊎ ((status ≡ Done) × ((verdict : Verdict) × Says rules start 1000000 verdict × Appends old new (output_of verdict)))
finish-verdict rules start old new Done h = inr (
  refl,
  (
    h.1.verdict,
    says-from_verdict rules start (limits_asked asked) h.1.verdict h.1.is_true,
    subst (Appends old new) h.1.printed h.2,
  ),
)
finish-verdict rules start old new Memory h = inl refl
finish-verdict rules start old new Usage h = absurd h
finish-verdict rules start old new ShelfFailed h = absurd h
finish-verdict rules start old new RulesRefused h = absurd h
finish-verdict rules start old new DealRefused h = absurd h
finish-verdict rules start old new LineRefused h = absurd h
finish-verdict rules start old new SinkFailed h = absurd h

-- a line that wins was not refused
finish-win : (rules : RuleParts) (start : Board) (moves : List Move) → IsReplayed rules start moves replayed.Wins
    → (old new : Option (List ℕ)) (status : Status)
    → Judges (PrintsWin rules start moves) (PrintsNoWin rules start moves) old new status
    → (status ≡ Memory) ⊎ ((status ≡ Done) × Appends old new (wins_text (length moves)))
finish-win rules start moves won old new Done h = inr (refl, subst (Appends old new) h.1.1 h.2)
finish-win rules start moves won old new Memory h = inl refl
finish-win rules start moves won old new LineRefused h = elim h.1 [
  | inl short ↦ absurd (wins-not_short rules start moves won short.0)
  | inr illegal ↦ absurd (wins-not_illegal rules start moves illegal.0 won illegal.1)
]
finish-win rules start moves won old new Usage h = absurd h
finish-win rules start moves won old new ShelfFailed h = absurd h
finish-win rules start moves won old new RulesRefused h = absurd h
finish-win rules start moves won old new DealRefused h = absurd h
finish-win rules start moves won old new SinkFailed h = absurd h

module _ (told : Option (List File)) (before after : List ℕ → ℕ) (files : Files)
    (given : AreGiven told before after files) where
  abbrev shelf : Shelved
  shelf = record { files = told; before = before; after = after }

  gives : (name bytes : List ℕ) → IsGiven told before after name bytes → Gives shelf name bytes
  gives name bytes is = record { tells = is.told; calm = is.calm }

  -- the shelf gives both jobs their rules
  rules_to_solve : (rules : RuleParts) → rules_of files.rules ≡ Ok rules
      → GivesRules shelf solve_words (job_asked asked) rules
  rules_to_solve rules is = record {
    named = job_of-solve;
    bytes = files.rules;
    given = gives (codes "rules") files.rules given.rules;
    accepted = is;
  }

  rules_to_replay : (rules : RuleParts) → rules_of files.rules ≡ Ok rules
      → GivesRules shelf replay_words job.Replay rules
  rules_to_replay rules is = record {
    named = job_of-replay;
    bytes = files.rules;
    given = gives (codes "rules") files.rules given.rules;
    accepted = is;
  }

  -- and their deal
  deal_to_solve : (rules : RuleParts) (start : Board) → AreAccepted files rules start
      → GivesDeal shelf solve_words (job_asked asked) rules start
  deal_to_solve rules start is = record {
    has_rules = rules_to_solve rules is.is_rules;
    takes = refl;
    bytes = files.deal;
    given = gives (codes "deal") files.deal given.deal;
    accepted = is.is_deal;
  }

  deal_to_replay : (rules : RuleParts) (start : Board) → AreAccepted files rules start
      → GivesDeal shelf replay_words job.Replay rules start
  deal_to_replay rules start is = record {
    has_rules = rules_to_replay rules is.is_rules;
    takes = refl;
    bytes = files.deal;
    given = gives (codes "deal") files.deal given.deal;
    accepted = is.is_deal;
  }

  pub ends_solve : (status : Status) → IsDue shelf solve_words status → EndsSolve files status
  ends_solve status due = record {
    solved = λ rules start is. ends Done status (due.solved asked rules start (deal_to_solve rules start is));
    rules_refused = λ fault is. ends RulesRefused status
        (due.rules_refused (job_asked asked) files.rules fault job_of-solve
        (gives (codes "rules") files.rules given.rules) is);
    deal_refused = λ rules fault is refused. ends DealRefused status
        (due.deal_refused (job_asked asked) rules files.deal fault (rules_to_solve rules is) refl
        (gives (codes "deal") files.deal given.deal) refused);
  }

  pub ends_replay : (status : Status) → IsDue shelf replay_words status → EndsReplay files status
  ends_replay status due = record {
    rules_refused = λ fault is. ends RulesRefused status
        (due.rules_refused job.Replay files.rules fault job_of-replay
        (gives (codes "rules") files.rules given.rules) is);
    deal_refused = λ rules fault is refused. ends DealRefused status
        (due.deal_refused job.Replay rules files.deal fault (rules_to_replay rules is) refl
        (gives (codes "deal") files.deal given.deal) refused);
    bad_line = λ rules start fault is refused. ends LineRefused status
        (due.bad_line rules start files.line fault (deal_to_replay rules start is)
        (gives (codes "line") files.line given.line) refused);
    wins = λ rules start moves end is read line won. ends Done status
        (due.win rules start files.line moves (deal_to_replay rules start is)
        (gives (codes "line") files.line given.line) read (end, line, won));
    no_win = λ rules start moves is read none. ends LineRefused status
        (due.no_win rules start files.line moves (deal_to_replay rules start is)
        (gives (codes "line") files.line given.line) read (λ won. none won.0 won.1 won.2));
  }

  pub writes_verdict : (old new : Option (List ℕ)) (status : Status) → IsComplete shelf solve_words old new status
      → WritesVerdict files old new status
  writes_verdict old new status complete = λ rules start is.
      finish-verdict rules start old new status (complete.solves asked rules start (deal_to_solve rules start is))

  pub writes_win : (old new : Option (List ℕ)) (status : Status) → IsComplete shelf replay_words old new status
      → WritesWin files old new status
  writes_win old new status complete = λ rules start moves end is read line won.
      finish-win rules start moves (end, line, won) old new status
      (complete.replays rules start files.line moves (deal_to_replay rules start is)
      (gives (codes "line") files.line given.line) read)
