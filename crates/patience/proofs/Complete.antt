-- From the cause of an answer to how a job ends whose files and seed are accepted.
use Rattle.std.proofs.Common.{◌≡◌, ℕ, List, refl, sym, ◌∙◌, ap, inl, inr, subst, IsTrue}
use Rattle.std.specs.declared.option.Option.{Option}
use Rattle.std.specs.declared.option.Option.TheVariants.{Some, None}
use Rattle.std.specs.Prelude.{length, Ok}
use Rattle.std.specs.Io.KnownBytes.{Appends}
use Rattle.game_rules.specs.declared.RuleParts.{RuleParts}
use Rattle.game_rules.specs.declared.Move.{Move}
use Rattle.game_rules.specs.Board.{Board}
use Rattle.solver_words.specs.declared.job.Job.{Job}
use Rattle.solver_words.specs.declared.job.Job.TheVariants as job
use Rattle.solver_words.specs.Jobs.{job_of}
use Rattle.rules_json.specs.Spelling.{rules_text}
use Rattle.deal_reader.specs.Spelling.{position_text}
use Rattle.seed_deal.specs.Seeds.{seed_board, seed_fault}
use Rattle.line_printer.specs.LineFile.{line_of}
use Rattle.win_replay.specs.declared.Replayed.TheVariants as replayed
use Rattle.patience.specs.declared.asked.Asked.{Asked}
use Rattle.patience.specs.declared.status.Status.{Status}
use Rattle.patience.specs.declared.status.Status.TheVariants.{Done, Memory}
use Rattle.patience.specs.Asked.{job_asked}
use Rattle.patience.specs.Answers.{Gives, GivesRules, GivesDeal}
use Rattle.patience.specs.Causes.{Shelved, Explains, line_name, seed_of, IsSolved, IsWinningLine, HasDeal, HasLine}
use Rattle.patience.specs.Complete.{Finishes, Judges, PrintsSolution, PrintsWin, PrintsNoWin, IsComplete}
use Rattle.patience.specs.Texts.{line, wins_text}
use Rattle.patience.proofs.Due.{one_file, one_ok, no_both, no_file, started, same_rules, rules_stand, takes_or_not}
use Rattle.patience.proofs.Due.{deal_stands, same_deal, line_stands, same_replay, by_cause, no_replay, solved_is}
use Rattle.patience.proofs.Due.{no_deal_file, dealt_is, spelled_is}

-- what was asked is known by its job
asked_or : Asked → Job → Asked
asked_or other (job.Solve source cache nodes narrow way memo) = record {
  source = source;
  cache = cache;
  nodes = nodes;
  narrow = narrow;
  way = way;
  memo = memo;
}
asked_or other _ = other

same_asked : (asked other : Asked) → job_asked asked ≡ job_asked other → asked ≡ other
unfolding asked_or
same_asked asked other same = ap (asked_or asked) same

-- one seed of one job
same_seed : (a b : Job) (seed other : ℕ) → a ≡ b → seed_of a ≡ Some seed → seed_of b ≡ Some other → seed ≡ other
same_seed a b seed other same first second = let both : Some seed ≡ Some other = sym first
    ∙ ap seed_of same ∙ second in cc

-- without memory a job may end so
pub no_memory : (shelf : Shelved) (words : List (List ℕ)) (old new : Option (List ℕ))
    → IsComplete shelf words old new Memory
no_memory shelf words old new = record {
  solves = λ asked rules board gives. tt;
  solves_seed = λ asked rules seed by given fits. tt;
  deals = λ rules seed by fits. tt;
  spells = λ rules by. tt;
  replays = λ rules board bytes moves gives given accepted. tt;
}

module _ (shelf : Shelved) (words : List (List ℕ)) (old new : Option (List ℕ)) (status : Status) (text : List ℕ)
    (cause : Explains shelf words status text) (grew : Appends old new text) where
  -- a job that is done, whose text was written
  finishes : (P : List ℕ → Type 0) → status ≡ Done → (Explains shelf words Done text → P text)
      → Finishes P old new status
  finishes P done prints =
      subst (Finishes P old new) (sym done) (text, prints (subst (λ s. Explains shelf words s text) done cause), grew)

  -- what was solved is what was asked
  as_asked : (asked : Asked) (rules : RuleParts) (start : Board) (s : IsSolved shelf.files words text)
      → job_asked asked ≡ job_asked s.asked
      → rules ≡ s.rules → start ≡ s.start → PrintsSolution rules start asked text
  as_asked asked rules start s job same_rules same_start =
      let solved : PrintsSolution s.rules s.start s.asked text =
      record { verdict = s.verdict; is_true = s.is_true; decides = s.decides; printed = s.printed } in
      subst (λ a. PrintsSolution rules start a text) (sym (same_asked asked s.asked job))
      (subst (λ b. PrintsSolution rules b s.asked text) (sym same_start)
      (subst (λ r. PrintsSolution r s.start s.asked text) (sym same_rules) solved))

  -- the deal file is solved
  solution : (asked : Asked) (rules : RuleParts) (board : Board) → GivesDeal shelf words (job_asked asked) rules board
      → Explains shelf words Done text → PrintsSolution rules board asked text
  solution asked rules board gives (inl s) = elim s.has_start [
    | inl has ↦
        let same = same_deal shelf words (job_asked asked) (job_asked s.asked) rules s.rules board s.start gives has in
        as_asked asked rules board s same.0 same.1 same.2
    | inr dealt ↦ takes_or_not (job_asked asked) (job_asked s.asked) gives.takes
        (no_file (job_asked s.asked) dealt.seed dealt.given)
        (same_rules shelf words (job_asked asked) (job_asked s.asked) rules s.rules gives.has_rules dealt.has_rules).0
  ]
  solution asked rules board gives (inr (inl won)) = no_replay shelf words asked rules won.rules board won.board gives
      won.has_line.has_deal
  solution asked rules board gives (inr (inr (inl dealt))) = takes_or_not (job_asked asked)
      (job.Deal dealt.seed) gives.takes refl
      (same_rules shelf words (job_asked asked) (job.Deal dealt.seed) rules dealt.rules gives.has_rules
      dealt.has_rules).0
  solution asked rules board gives (inr (inr (inr spelled))) = takes_or_not (job_asked asked) job.Rules gives.takes refl
      (same_rules shelf words (job_asked asked) job.Rules rules spelled.rules gives.has_rules spelled.has_rules).0

  -- the seed's deal is solved
  seed_solution : (asked : Asked) (rules : RuleParts) (seed : ℕ) → GivesRules shelf words (job_asked asked) rules
      → seed_of (job_asked asked) ≡ Some seed → Explains shelf words Done text
      → PrintsSolution rules (seed_board rules seed) asked text
  seed_solution asked rules seed by given (inl s) = elim s.has_start [
    | inl has ↦ no_deal_file shelf words (job_asked asked)
        (job_asked s.asked) seed rules s.rules by given has.has_rules has.takes
    | inr dealt ↦
        let same = same_rules shelf words (job_asked asked) (job_asked s.asked) rules s.rules by dealt.has_rules in
        let seeds : seed ≡ dealt.seed = same_seed (job_asked asked)
        (job_asked s.asked) seed dealt.seed same.0 given dealt.given in
        as_asked asked rules (seed_board rules seed) s same.0 same.1
        (ap (λ r. seed_board r seed) same.1 ∙ ap (seed_board s.rules) seeds ∙ sym dealt.dealt)
  ]
  seed_solution asked rules seed by given (inr (inl won)) =
      no_deal_file shelf words (job_asked asked) job.Replay seed rules won.rules by given
      won.has_line.has_deal.has_rules refl
  seed_solution asked rules seed by given (inr (inr (inl dealt))) = absurd
      (let same : job_asked asked ≡ job.Deal dealt.seed =
      (same_rules shelf words (job_asked asked) (job.Deal dealt.seed) rules dealt.rules by dealt.has_rules).0 in cc)
  seed_solution asked rules seed by given (inr (inr (inr spelled))) = absurd (let same : job_asked asked ≡ job.Rules =
      (same_rules shelf words (job_asked asked) job.Rules rules spelled.rules by spelled.has_rules).0 in cc)

  -- the seed's deal is printed
  deal_text : (rules : RuleParts) (seed : ℕ) → GivesRules shelf words (job.Deal seed) rules
      → Explains shelf words Done text
      → text ≡ line (position_text rules (seed_board rules seed))
  deal_text rules seed by (inl s) = absurd (let same : job.Deal seed ≡ job_asked s.asked =
      (same_rules shelf words (job.Deal seed) (job_asked s.asked) rules s.rules by
      (started shelf.files words (job_asked s.asked) s.rules s.start s.has_start)).0 in cc)
  deal_text rules seed by (inr (inl won)) = absurd (let same : job.Deal seed ≡ job.Replay =
      (same_rules shelf words (job.Deal seed) job.Replay rules won.rules by won.has_line.has_deal.has_rules).0 in cc)
  deal_text rules seed by (inr (inr (inl dealt))) =
      let same = same_rules shelf words (job.Deal seed) (job.Deal dealt.seed) rules dealt.rules by dealt.has_rules in
      let seeds : seed ≡ dealt.seed = same_seed (job.Deal seed)
      (job.Deal dealt.seed) seed dealt.seed same.0 refl refl in
      dealt.printed ∙ sym (ap (λ r. line (position_text r (seed_board r seed))) same.1
      ∙ ap (λ n. line (position_text dealt.rules (seed_board dealt.rules n))) seeds)
  deal_text rules seed by (inr (inr (inr spelled))) = absurd (let same : job.Deal seed ≡ job.Rules =
      (same_rules shelf words (job.Deal seed) job.Rules rules spelled.rules by spelled.has_rules).0 in cc)

  -- the rules are printed
  rules_line : (rules : RuleParts) → GivesRules shelf words job.Rules rules → Explains shelf words Done text
      → text ≡ line (rules_text rules)
  rules_line rules by (inl s) = absurd (let same : job.Rules ≡ job_asked s.asked =
      (same_rules shelf words job.Rules (job_asked s.asked) rules s.rules by
      (started shelf.files words (job_asked s.asked) s.rules s.start s.has_start)).0 in cc)
  rules_line rules by (inr (inl won)) = absurd (let same : job.Rules ≡ job.Replay =
      (same_rules shelf words job.Rules job.Replay rules won.rules by won.has_line.has_deal.has_rules).0 in cc)
  rules_line rules by (inr (inr (inl dealt))) = absurd (let same : job.Rules ≡ job.Deal dealt.seed =
      (same_rules shelf words job.Rules (job.Deal dealt.seed) rules dealt.rules by dealt.has_rules).0 in cc)
  rules_line rules by (inr (inr (inr spelled))) =
      spelled.printed ∙ sym (ap (λ r. line (rules_text r))
      (same_rules shelf words job.Rules job.Rules rules spelled.rules by spelled.has_rules).1)

  -- the line wins, or it does not
  judged : (rules : RuleParts) (board : Board) (bytes : List ℕ) (moves : List Move)
      → GivesDeal shelf words job.Replay rules board
      → Gives shelf (line_name words) bytes → line_of bytes ≡ Ok moves
      → Judges (PrintsWin rules board moves) (PrintsNoWin rules board moves) old new status
  judged rules board bytes moves gives given accepted =
      by_cause shelf words (Judges (PrintsWin rules board moves) (PrintsNoWin rules board moves) old new) text
      (λ x. no_both (job_of words) job.Replay x.fault gives.has_rules.named x.names_no_job)
      (λ x. absurd (gives.has_rules.given.calm x.rose))
      (λ x. rules_stand shelf words job.Replay rules text gives.has_rules x)
      (λ x. absurd (gives.given.calm x.rose))
      (λ x. deal_stands shelf words job.Replay rules board text gives x)
      (λ x. takes_or_not job.Replay x.job refl (no_file x.job x.seed x.given)
      (same_rules shelf words job.Replay x.job rules x.rules gives.has_rules x.has_rules).0)
      (λ x. absurd (given.calm x.rose))
      (λ x. line_stands shelf words bytes moves text given accepted x)
      (λ x. (
        text,
        inr (
          x.at,
          same_replay shelf words rules x.rules board x.board bytes moves x.moves
              (replayed.Illegal x.at) gives given accepted x.has_line x.illegal,
          x.printed,
        ),
        grew,
      ))
      (λ x. (
        text,
        inl (
          same_replay shelf words rules x.rules board x.board bytes moves x.moves replayed.EndsShort gives
              given accepted x.has_line x.short,
          x.printed,
        ),
        grew,
      ))
      (λ x. absurd (let same : job.Replay ≡ job_asked x.asked =
      (same_rules shelf words job.Replay (job_asked x.asked) rules x.rules gives.has_rules
      (started shelf.files words (job_asked x.asked) x.rules x.start x.has_start)).0 in cc))
      (λ x. (
        text,
        (
          same_replay shelf words rules x.rules board x.board bytes moves x.moves replayed.Wins gives given accepted
              x.has_line x.wins,
          x.printed ∙ sym (ap (λ (m : List Move). wins_text (length m)) (one_ok (line_of bytes) moves x.moves accepted
              (ap line_of (one_file shelf.files (line_name words) bytes x.has_line.bytes given.tells x.has_line.told)
              ∙ x.has_line.accepted))),
        ),
        grew,
      ))
      (λ x. takes_or_not job.Replay (job.Deal x.seed) refl refl
      (same_rules shelf words job.Replay (job.Deal x.seed) rules x.rules gives.has_rules x.has_rules).0)
      (λ x. takes_or_not job.Replay job.Rules refl refl
      (same_rules shelf words job.Replay job.Rules rules x.rules gives.has_rules x.has_rules).0)
      status cause

  -- an answer whose text was written whole
  pub is_complete : IsComplete shelf words old new status
  is_complete = record {
    solves = λ asked rules board gives. finishes (PrintsSolution rules board asked)
        (solved_is shelf words text asked rules board gives status cause) (solution asked rules board gives);
    solves_seed = λ asked rules seed by given fits. finishes (PrintsSolution rules (seed_board rules seed) asked)
        (dealt_is shelf words text (job_asked asked) rules seed by given fits status cause)
        (seed_solution asked rules seed by given);
    deals = λ rules seed by fits. finishes (λ t. t ≡ line (position_text rules (seed_board rules seed)))
        (dealt_is shelf words text (job.Deal seed) rules seed by refl fits status cause) (deal_text rules seed by);
    spells = λ rules by. finishes (λ t. t ≡ line (rules_text rules)) (spelled_is shelf words text rules by status cause)
        (rules_line rules by);
    replays = judged;
  }
