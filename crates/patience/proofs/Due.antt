-- The causes exclude each other: a status that has its cause is the one that must be answered.
use Rattle.std.proofs.Common.{◌≡◌, ℕ, List, true, false, refl, sym, ◌∙◌, ap, inl, inr, subst, Result, Ok, Err, IsTrue}
use Rattle.std.specs.declared.option.Option.{Option}
use Rattle.std.specs.declared.option.Option.TheVariants.{Some, None}
use Rattle.outside_io.specs.Shelf.{File, HasBytes, Tells}
use Rattle.game_rules.specs.declared.RuleParts.{RuleParts}
use Rattle.game_rules.specs.declared.Move.{Move}
use Rattle.game_rules.specs.Board.{Board}
use Rattle.solver_words.specs.declared.fault.WordFault.{WordFault}
use Rattle.solver_words.specs.declared.job.Job.{Job}
use Rattle.solver_words.specs.declared.job.Job.TheVariants as job
use Rattle.solver_words.specs.declared.job.Source.TheVariants as source
use Rattle.solver_words.specs.Jobs.{job_of}
use Rattle.rules_json.specs.declared.fault.RulesFault.{RulesFault}
use Rattle.rules_json.specs.RulesFile.{rules_of}
use Rattle.deal_reader.specs.declared.fault.DealFault.{DealFault}
use Rattle.deal_reader.specs.Position.{position_of}
use Rattle.seed_deal.specs.declared.fault.SeedFault.{SeedFault}
use Rattle.seed_deal.specs.Seeds.{seed_fault}
use Rattle.line_printer.specs.declared.fault.LineFault.{LineFault}
use Rattle.line_printer.specs.LineFile.{line_of}
use Rattle.win_replay.specs.declared.Replayed.{Replayed}
use Rattle.win_replay.specs.declared.Replayed.TheVariants as replayed
use Rattle.win_replay.specs.Replays.{IsReplayed}
use Rattle.patience.specs.declared.asked.Asked.{Asked}
use Rattle.patience.specs.declared.status.Status.{Status}
use Rattle.patience.specs.declared.status.Status.TheVariants.{Done, Usage, ShelfFailed, RulesRefused, DealRefused}
use Rattle.patience.specs.declared.status.Status.TheVariants.{LineRefused, SinkFailed, Memory}
use Rattle.patience.specs.Asked.{job_asked}
use Rattle.patience.specs.Causes.{Shelved, Explains, rules_name, deal_name, line_name, takes_deal, seed_of, HasRules}
use Rattle.patience.specs.Causes.{HasDeal, HasStart, HasLine, IsUsage, IsRulesFailure, IsDealFailure, IsLineFailure}
use Rattle.patience.specs.Causes.{IsRulesRefusal, IsDealRefusal, IsSeedRefusal, IsBadLine, IsIllegalLine, IsShortLine}
use Rattle.patience.specs.Causes.{IsSolved, IsWinningLine, IsDealt, IsSpelled}
use Rattle.patience.specs.Answers.{Gives, GivesRules, GivesDeal, IsDue}
use Rattle.patience.proofs.Replay.{wins-not_short, wins-not_illegal}

-- a file has one list of bytes
pub one_file : (files : Option (List File)) (name bytes other : List ℕ) → Tells files name bytes
    → HasBytes files name other → bytes ≡ other
one_file None name bytes other told has = absurd told
one_file (Some files) name bytes other told has =
    let both : Some bytes ≡ Some other = sym told ∙ has in
    cc

-- a result is not two things
pub one_ok : {A E : Type 0} (r : Result A E) (a b : A) → r ≡ Ok a → r ≡ Ok b → a ≡ b
one_ok r a b first second = cc

pub no_both : {A E C : Type 0} (r : Result A E) (a : A) (e : E) → r ≡ Ok a → r ≡ Err e → C
no_both r a e first second = absurd (let both : Ok a ≡ Err e = sym first ∙ second in cc)

-- a job with a seed has no deal file
pub no_file : (j : Job) (seed : ℕ) → seed_of j ≡ Some seed → takes_deal j ≡ false
no_file (job.Solve source.File cache nodes narrow way memo) seed h = cc
no_file (job.Solve (source.FromSeed other) cache nodes narrow way memo) seed h = refl
no_file job.Replay seed h = cc
no_file (job.Deal other) seed h = refl
no_file job.Rules seed h = cc

-- rules under which no seed deals have a fault, and others none
fits_or_not : {C : Type 0} (rules other : RuleParts) (fault : SeedFault) → rules ≡ other → seed_fault rules ≡ Some fault
    → seed_fault other ≡ None → C
fits_or_not rules other fault same refused fits = absurd
    (let both : Some fault ≡ None = sym refused ∙ ap seed_fault same ∙ fits in cc)

-- a job with a seed is not one without
seed_or_not : {C : Type 0} (a b : Job) (seed : ℕ) → seed_of a ≡ Some seed → seed_of b ≡ None → a ≡ b → C
seed_or_not a b seed given none same = absurd (let both : Some seed ≡ None = sym given ∙ ap seed_of same ∙ none in cc)

-- a job with a deal is not one without
pub takes_or_not : {C : Type 0} (a b : Job) → IsTrue (takes_deal a) → takes_deal b ≡ false → a ≡ b → C
takes_or_not a b takes not same = absurd (let both : true ≡ false = sym takes ∙ ap takes_deal same ∙ not in cc)

-- the rules of a start
pub started : (files : Option (List File)) (words : List (List ℕ)) (j : Job) (rules : RuleParts) (board : Board)
    → HasStart files words j rules board → HasRules files words j rules
started files words j rules board (inl x) = x.has_rules
started files words j rules board (inr x) = x.has_rules

module _ (shelf : Shelved) (words : List (List ℕ)) where
  -- the rules that the shelf gives are those that were read
  pub same_rules : (a b : Job) (rules other : RuleParts) → GivesRules shelf words a rules
      → HasRules shelf.files words b other
      → (a ≡ b) × (rules ≡ other)
  same_rules a b rules other gives has =
      let job : a ≡ b = one_ok (job_of words) a b gives.named has.named in
      let bytes : gives.bytes ≡ has.bytes = one_file shelf.files
      (rules_name words) gives.bytes has.bytes gives.given.tells has.told in
      let read : rules_of gives.bytes ≡ Ok other = ap rules_of bytes ∙ has.accepted in
      (job, one_ok (rules_of gives.bytes) rules other gives.accepted read)

  -- rules that the shelf gives were not refused
  pub rules_stand : {C : Type 0} (a : Job) (rules : RuleParts) (text : List ℕ) → GivesRules shelf words a rules
      → IsRulesRefusal shelf.files words text → C
  rules_stand a rules text gives refusal =
      let bytes : gives.bytes ≡ refusal.bytes = one_file shelf.files
      (rules_name words) gives.bytes refusal.bytes gives.given.tells refusal.told in
      let read : rules_of gives.bytes ≡ Err refusal.fault = ap rules_of bytes ∙ refusal.refused in
      no_both (rules_of gives.bytes) rules refusal.fault gives.accepted read

  -- rules that are refused were not read
  rules_fall : {C : Type 0} (b : Job) (bytes : List ℕ) (fault : RulesFault) (rules : RuleParts)
      → Gives shelf (rules_name words) bytes
      → rules_of bytes ≡ Err fault → HasRules shelf.files words b rules → C
  rules_fall b bytes fault rules gives refused has =
      let same : bytes ≡ has.bytes = one_file shelf.files (rules_name words) bytes has.bytes gives.tells has.told in
      let read : rules_of bytes ≡ Ok rules = ap rules_of same ∙ has.accepted in
      no_both (rules_of bytes) rules fault read refused

  -- a deal that the shelf gives was not refused
  pub deal_stands : {C : Type 0} (a : Job) (rules : RuleParts) (board : Board) (text : List ℕ)
      → GivesDeal shelf words a rules board
      → IsDealRefusal shelf.files words text → C
  deal_stands a rules board text gives refusal =
      let same = same_rules a refusal.job rules refusal.rules gives.has_rules refusal.has_rules in
      let bytes : gives.bytes ≡ refusal.bytes = one_file shelf.files
      (deal_name words) gives.bytes refusal.bytes gives.given.tells refusal.told in
      let read : position_of rules gives.bytes ≡ Err refusal.fault =
      ap (λ r. position_of r gives.bytes) same.1 ∙ ap (position_of refusal.rules) bytes ∙ refusal.refused in
      no_both (position_of rules gives.bytes) board refusal.fault gives.accepted read

  -- a deal that is refused was not read
  deal_falls : {C : Type 0} (a b : Job) (rules other : RuleParts) (bytes : List ℕ) (fault : DealFault) (board : Board)
      → GivesRules shelf words a rules
      → Gives shelf (deal_name words) bytes → position_of rules bytes ≡ Err fault
      → HasDeal shelf.files words b other board → C
  deal_falls a b rules other bytes fault board by gives refused has =
      let same = same_rules a b rules other by has.has_rules in
      let one : bytes ≡ has.bytes = one_file shelf.files (deal_name words) bytes has.bytes gives.tells has.told in
      let read : position_of rules bytes ≡ Ok board = ap (λ r. position_of r bytes) same.1
      ∙ ap (position_of other) one ∙ has.accepted in
      no_both (position_of rules bytes) board fault read refused

  -- nor is anything solved where the deal is refused
  start_falls : {C : Type 0} (a b : Job) (rules other : RuleParts) (bytes : List ℕ) (fault : DealFault) (board : Board)
      → GivesRules shelf words a rules
      → IsTrue (takes_deal a) → Gives shelf (deal_name words) bytes → position_of rules bytes ≡ Err fault
      → HasStart shelf.files words b other board → C
  start_falls a b rules other bytes fault board by takes gives refused
      (inl has) = deal_falls a b rules other bytes fault board by gives refused has
  start_falls a b rules other bytes fault board by takes gives refused (inr has) =
      takes_or_not a b takes (no_file b has.seed has.given) (same_rules a b rules other by has.has_rules).0

  -- the deal that the shelf gives is the one that was read
  pub same_deal : (a b : Job) (rules other : RuleParts) (board start : Board) → GivesDeal shelf words a rules board
      → HasDeal shelf.files words b other start
      → (a ≡ b) × (rules ≡ other) × (board ≡ start)
  same_deal a b rules other board start gives has =
      let same = same_rules a b rules other gives.has_rules has.has_rules in
      let one : gives.bytes ≡ has.bytes = one_file shelf.files
      (deal_name words) gives.bytes has.bytes gives.given.tells has.told in
      let read : position_of rules gives.bytes ≡ Ok start = ap (λ r. position_of r gives.bytes) same.1
      ∙ ap (position_of other) one ∙ has.accepted in
      (same.0, same.1, one_ok (position_of rules gives.bytes) board start gives.accepted read)

  -- a line that is refused was not read
  line_falls : {C : Type 0} (rules : RuleParts) (board : Board) (bytes : List ℕ) (fault : LineFault) (moves : List Move)
      → Gives shelf (line_name words) bytes
      → line_of bytes ≡ Err fault → HasLine shelf.files words rules board moves → C
  line_falls rules board bytes fault moves gives refused has =
      let one : bytes ≡ has.bytes = one_file shelf.files (line_name words) bytes has.bytes gives.tells has.told in
      no_both (line_of bytes) moves fault (ap line_of one ∙ has.accepted) refused

  -- a line that the shelf gives was not refused
  pub line_stands : {C : Type 0} (bytes : List ℕ) (moves : List Move) (text : List ℕ)
      → Gives shelf (line_name words) bytes → line_of bytes ≡ Ok moves
      → IsBadLine shelf.files words text → C
  line_stands bytes moves text gives accepted bad =
      let one : bytes ≡ bad.bytes = one_file shelf.files (line_name words) bytes bad.bytes gives.tells bad.told in
      no_both (line_of bytes) moves bad.fault accepted (ap line_of one ∙ bad.refused)

  -- how the line that was read goes is how the line that the shelf gives goes
  pub same_replay : (rules other : RuleParts) (board start : Board) (bytes : List ℕ)
      (moves read : List Move) (r : Replayed)
      → GivesDeal shelf words job.Replay rules board → Gives shelf (line_name words) bytes → line_of bytes ≡ Ok moves
      → HasLine shelf.files words other start read → IsReplayed other start read r → IsReplayed rules board moves r
  same_replay rules other board start bytes moves read r gives given accepted has goes =
      let same = same_deal job.Replay job.Replay rules other board start gives has.has_deal in
      let one : bytes ≡ has.bytes = one_file shelf.files (line_name words) bytes has.bytes given.tells has.told in
      let line : moves ≡ read = one_ok (line_of bytes) moves read accepted (ap line_of one ∙ has.accepted) in
      subst (λ m. IsReplayed rules board m r) (sym line)
      (subst (λ b. IsReplayed rules b read r) (sym same.2) (subst (λ k. IsReplayed k start read r) (sym same.1) goes))

  -- what holds of a status where it holds for each cause
  pub by_cause : (P : Status → Type 0) (text : List ℕ)
      → (IsUsage words text → P Usage)
      → (IsRulesFailure shelf words text → P ShelfFailed)
      → (IsRulesRefusal shelf.files words text → P RulesRefused)
      → (IsDealFailure shelf words text → P ShelfFailed)
      → (IsDealRefusal shelf.files words text → P DealRefused)
      → (IsSeedRefusal shelf.files words text → P DealRefused)
      → (IsLineFailure shelf words text → P ShelfFailed)
      → (IsBadLine shelf.files words text → P LineRefused)
      → (IsIllegalLine shelf.files words text → P LineRefused)
      → (IsShortLine shelf.files words text → P LineRefused)
      → (IsSolved shelf.files words text → P Done)
      → (IsWinningLine shelf.files words text → P Done)
      → (IsDealt shelf.files words text → P Done)
      → (IsSpelled shelf.files words text → P Done)
      → (status : Status) → Explains shelf words status text → P status
  by_cause P text usage no_rules bad_rules no_deal bad_deal bad_seed no_line bad_line illegal short solved won dealt
      spelled Done (inl x) = solved x
  by_cause P text usage no_rules bad_rules no_deal bad_deal bad_seed no_line bad_line illegal short solved won dealt
      spelled Done (inr (inl x)) = won x
  by_cause P text usage no_rules bad_rules no_deal bad_deal bad_seed no_line bad_line illegal short solved won dealt
      spelled Done (inr (inr (inl x))) = dealt x
  by_cause P text usage no_rules bad_rules no_deal bad_deal bad_seed no_line bad_line illegal short solved won dealt
      spelled Done (inr (inr (inr x))) = spelled x
  by_cause P text usage no_rules bad_rules no_deal bad_deal bad_seed no_line bad_line illegal short solved won dealt
      spelled Usage x = usage x
  by_cause P text usage no_rules bad_rules no_deal bad_deal bad_seed no_line bad_line illegal short solved won dealt
      spelled ShelfFailed (inl x) = no_rules x
  by_cause P text usage no_rules bad_rules no_deal bad_deal bad_seed no_line bad_line illegal short solved won dealt
      spelled ShelfFailed (inr (inl x)) = no_deal x
  by_cause P text usage no_rules bad_rules no_deal bad_deal bad_seed no_line bad_line illegal short solved won dealt
      spelled ShelfFailed (inr (inr x)) = no_line x
  by_cause P text usage no_rules bad_rules no_deal bad_deal bad_seed no_line bad_line illegal short solved won dealt
      spelled RulesRefused x = bad_rules x
  by_cause P text usage no_rules bad_rules no_deal bad_deal bad_seed no_line bad_line illegal short solved won dealt
      spelled DealRefused (inl x) = bad_deal x
  by_cause P text usage no_rules bad_rules no_deal bad_deal bad_seed no_line bad_line illegal short solved won dealt
      spelled DealRefused (inr x) = bad_seed x
  by_cause P text usage no_rules bad_rules no_deal bad_deal bad_seed no_line bad_line illegal short solved won dealt
      spelled LineRefused (inl x) = bad_line x
  by_cause P text usage no_rules bad_rules no_deal bad_deal bad_seed no_line bad_line illegal short solved won dealt
      spelled LineRefused (inr (inl x)) = illegal x
  by_cause P text usage no_rules bad_rules no_deal bad_deal bad_seed no_line bad_line illegal short solved won dealt
      spelled LineRefused (inr (inr x)) = short x
  by_cause P text usage no_rules bad_rules no_deal bad_deal bad_seed no_line bad_line illegal short solved won dealt
      spelled SinkFailed x = absurd x
  by_cause P text usage no_rules bad_rules no_deal bad_deal bad_seed no_line bad_line illegal short solved won dealt
      spelled Memory x = absurd x

  -- the words name no job
  usage_is : (text : List ℕ) (fault : WordFault) → job_of words ≡ Err fault → (status : Status)
      → Explains shelf words status text → status ≡ Usage
  usage_is text fault no_job = by_cause (λ s. s ≡ Usage) text
      (λ x. refl)
      (λ x. no_both (job_of words) x.job fault x.named no_job)
      (λ x. no_both (job_of words) x.job fault x.named no_job)
      (λ x. no_both (job_of words) x.job fault x.has_rules.named no_job)
      (λ x. no_both (job_of words) x.job fault x.has_rules.named no_job)
      (λ x. no_both (job_of words) x.job fault x.has_rules.named no_job)
      (λ x. no_both (job_of words) job.Replay fault x.has_deal.has_rules.named no_job)
      (λ x. no_both (job_of words) job.Replay fault x.has_deal.has_rules.named no_job)
      (λ x. no_both (job_of words) job.Replay fault x.has_line.has_deal.has_rules.named no_job)
      (λ x. no_both (job_of words) job.Replay fault x.has_line.has_deal.has_rules.named no_job)
      (λ x. no_both (job_of words) (job_asked x.asked) fault
      (started shelf.files words (job_asked x.asked) x.rules x.start x.has_start).named no_job)
      (λ x. no_both (job_of words) job.Replay fault x.has_line.has_deal.has_rules.named no_job)
      (λ x. no_both (job_of words) (job.Deal x.seed) fault x.has_rules.named no_job)
      (λ x. no_both (job_of words) job.Rules fault x.has_rules.named no_job)

  -- the rules are refused
  rules_refused_is : (text : List ℕ) (j : Job) (bytes : List ℕ) (fault : RulesFault) → job_of words ≡ Ok j
      → Gives shelf (rules_name words) bytes
      → rules_of bytes ≡ Err fault → (status : Status) → Explains shelf words status text → status ≡ RulesRefused
  rules_refused_is text j bytes fault named gives refused = by_cause (λ s. s ≡ RulesRefused) text
      (λ x. no_both (job_of words) j x.fault named x.names_no_job)
      (λ x. absurd (gives.calm x.rose))
      (λ x. refl)
      (λ x. rules_fall x.job bytes fault x.rules gives refused x.has_rules)
      (λ x. rules_fall x.job bytes fault x.rules gives refused x.has_rules)
      (λ x. rules_fall x.job bytes fault x.rules gives refused x.has_rules)
      (λ x. rules_fall job.Replay bytes fault x.rules gives refused x.has_deal.has_rules)
      (λ x. rules_fall job.Replay bytes fault x.rules gives refused x.has_deal.has_rules)
      (λ x. rules_fall job.Replay bytes fault x.rules gives refused x.has_line.has_deal.has_rules)
      (λ x. rules_fall job.Replay bytes fault x.rules gives refused x.has_line.has_deal.has_rules)
      (λ x. rules_fall (job_asked x.asked) bytes fault x.rules gives refused
      (started shelf.files words (job_asked x.asked) x.rules x.start x.has_start))
      (λ x. rules_fall job.Replay bytes fault x.rules gives refused x.has_line.has_deal.has_rules)
      (λ x. rules_fall (job.Deal x.seed) bytes fault x.rules gives refused x.has_rules)
      (λ x. rules_fall job.Rules bytes fault x.rules gives refused x.has_rules)

  -- the deal is refused
  deal_refused_is : (text : List ℕ) (j : Job) (rules : RuleParts) (bytes : List ℕ) (fault : DealFault)
      → GivesRules shelf words j rules
      → IsTrue (takes_deal j) → Gives shelf (deal_name words) bytes → position_of rules bytes ≡ Err fault
      → (status : Status) → Explains shelf words status text → status ≡ DealRefused
  deal_refused_is text j rules bytes fault by takes gives refused = by_cause (λ s. s ≡ DealRefused) text
      (λ x. no_both (job_of words) j x.fault by.named x.names_no_job)
      (λ x. absurd (by.given.calm x.rose))
      (λ x. rules_stand j rules text by x)
      (λ x. absurd (gives.calm x.rose))
      (λ x. refl)
      (λ x. refl)
      (λ x. deal_falls j job.Replay rules x.rules bytes fault x.board by gives refused x.has_deal)
      (λ x. deal_falls j job.Replay rules x.rules bytes fault x.board by gives refused x.has_deal)
      (λ x. deal_falls j job.Replay rules x.rules bytes fault x.board by gives refused x.has_line.has_deal)
      (λ x. deal_falls j job.Replay rules x.rules bytes fault x.board by gives refused x.has_line.has_deal)
      (λ x. start_falls j (job_asked x.asked) rules x.rules bytes fault x.start by takes gives refused x.has_start)
      (λ x. deal_falls j job.Replay rules x.rules bytes fault x.board by gives refused x.has_line.has_deal)
      (λ x. takes_or_not j (job.Deal x.seed) takes refl (same_rules j (job.Deal x.seed) rules x.rules by x.has_rules).0)
      (λ x. takes_or_not j job.Rules takes refl (same_rules j job.Rules rules x.rules by x.has_rules).0)

  -- what the line of a replay comes to
  replay_is : (expected : Status) (text : List ℕ) (rules : RuleParts) (board : Board) (bytes : List ℕ)
      → GivesDeal shelf words job.Replay rules board
      → Gives shelf (line_name words) bytes
      → (IsBadLine shelf.files words text → LineRefused ≡ expected)
      → (IsIllegalLine shelf.files words text → LineRefused ≡ expected)
      → (IsShortLine shelf.files words text → LineRefused ≡ expected)
      → (IsWinningLine shelf.files words text → Done ≡ expected)
      → (status : Status) → Explains shelf words status text → status ≡ expected
  replay_is expected text rules board bytes gives given bad illegal short won = by_cause (λ s. s ≡ expected) text
      (λ x. no_both (job_of words) job.Replay x.fault gives.has_rules.named x.names_no_job)
      (λ x. absurd (gives.has_rules.given.calm x.rose))
      (λ x. rules_stand job.Replay rules text gives.has_rules x)
      (λ x. absurd (gives.given.calm x.rose))
      (λ x. deal_stands job.Replay rules board text gives x)
      (λ x. takes_or_not job.Replay x.job refl (no_file x.job x.seed x.given)
      (same_rules job.Replay x.job rules x.rules gives.has_rules x.has_rules).0)
      (λ x. absurd (given.calm x.rose))
      bad
      illegal
      short
      (λ x. absurd (let same : job.Replay ≡ job_asked x.asked =
      (same_rules job.Replay (job_asked x.asked) rules x.rules gives.has_rules
      (started shelf.files words (job_asked x.asked) x.rules x.start x.has_start)).0 in cc))
      won
      (λ x. takes_or_not job.Replay (job.Deal x.seed) refl refl
      (same_rules job.Replay (job.Deal x.seed) rules x.rules gives.has_rules x.has_rules).0)
      (λ x. takes_or_not job.Replay job.Rules refl refl
      (same_rules job.Replay job.Rules rules x.rules gives.has_rules x.has_rules).0)

  -- the line file is refused
  bad_line_is : (text : List ℕ) (rules : RuleParts) (board : Board) (bytes : List ℕ) (fault : LineFault)
      → GivesDeal shelf words job.Replay rules board
      → Gives shelf (line_name words) bytes → line_of bytes ≡ Err fault → (status : Status)
      → Explains shelf words status text → status ≡ LineRefused
  bad_line_is text rules board bytes fault gives given refused =
      replay_is LineRefused text rules board bytes gives given
      (λ x. refl) (λ x. refl) (λ x. refl)
      (λ x. line_falls x.rules x.board bytes fault x.moves given refused x.has_line)

  -- the line does not win
  no_win_is : (text : List ℕ) (rules : RuleParts) (board : Board) (bytes : List ℕ) (moves : List Move)
      → GivesDeal shelf words job.Replay rules board
      → Gives shelf (line_name words) bytes → line_of bytes ≡ Ok moves → (¬ IsReplayed rules board moves replayed.Wins)
      → (status : Status) → Explains shelf words status text → status ≡ LineRefused
  no_win_is text rules board bytes moves gives given accepted no_win =
      replay_is LineRefused text rules board bytes gives given
      (λ x. refl) (λ x. refl) (λ x. refl)
      (λ x. absurd (no_win (same_replay rules x.rules board x.board bytes moves x.moves replayed.Wins gives given
      accepted x.has_line x.wins)))

  -- the line wins
  win_is : (text : List ℕ) (rules : RuleParts) (board : Board) (bytes : List ℕ) (moves : List Move)
      → GivesDeal shelf words job.Replay rules board
      → Gives shelf (line_name words) bytes → line_of bytes ≡ Ok moves → IsReplayed rules board moves replayed.Wins
      → (status : Status) → Explains shelf words status text → status ≡ Done
  win_is text rules board bytes moves gives given accepted wins = replay_is Done text rules board bytes gives given
      (λ x. line_stands bytes moves text given accepted x)
      (λ x. absurd (wins-not_illegal rules board moves x.at wins
      (same_replay rules x.rules board x.board bytes moves x.moves
      (replayed.Illegal x.at) gives given accepted x.has_line x.illegal)))
      (λ x. absurd (wins-not_short rules board moves wins
      (same_replay rules x.rules board x.board bytes moves x.moves replayed.EndsShort gives given accepted
      x.has_line x.short)))
      (λ x. refl)

  -- a job that solves has no line
  pub no_replay : {C : Type 0} (asked : Asked) (rules other : RuleParts) (board start : Board)
      → GivesDeal shelf words (job_asked asked) rules board
      → HasDeal shelf.files words job.Replay other start → C
  no_replay asked rules other board start gives has = absurd (let same : job_asked asked ≡ job.Replay =
      (same_rules (job_asked asked) job.Replay rules other gives.has_rules has.has_rules).0 in cc)

  -- the deal is solved
  pub solved_is : (text : List ℕ) (asked : Asked) (rules : RuleParts) (board : Board)
      → GivesDeal shelf words (job_asked asked) rules board
      → (status : Status) → Explains shelf words status text → status ≡ Done
  solved_is text asked rules board gives =
      by_cause (λ s. s ≡ Done) text
      (λ x. no_both (job_of words) (job_asked asked) x.fault gives.has_rules.named x.names_no_job)
      (λ x. absurd (gives.has_rules.given.calm x.rose))
      (λ x. rules_stand (job_asked asked) rules text gives.has_rules x)
      (λ x. absurd (gives.given.calm x.rose))
      (λ x. deal_stands (job_asked asked) rules board text gives x)
      (λ x. takes_or_not (job_asked asked) x.job gives.takes (no_file x.job x.seed x.given)
      (same_rules (job_asked asked) x.job rules x.rules gives.has_rules x.has_rules).0)
      (λ x. no_replay asked rules x.rules board x.board gives x.has_deal)
      (λ x. no_replay asked rules x.rules board x.board gives x.has_deal)
      (λ x. no_replay asked rules x.rules board x.board gives x.has_line.has_deal)
      (λ x. no_replay asked rules x.rules board x.board gives x.has_line.has_deal)
      (λ x. refl)
      (λ x. refl)
      (λ x. refl)
      (λ x. refl)

  -- a job with a seed has no deal file, and so no line either
  pub no_deal_file : {C : Type 0} (j b : Job) (seed : ℕ) (rules other : RuleParts) → GivesRules shelf words j rules
      → seed_of j ≡ Some seed
      → HasRules shelf.files words b other → IsTrue (takes_deal b) → C
  no_deal_file j b seed rules other by given has takes = takes_or_not b j takes (no_file j seed given)
      (sym (same_rules j b rules other by has).0)

  -- nothing is solved where no seed deals
  seed_falls : {C : Type 0} (j b : Job) (seed : ℕ) (rules other : RuleParts) (fault : SeedFault) (board : Board)
      → GivesRules shelf words j rules
      → seed_of j ≡ Some seed → seed_fault rules ≡ Some fault → HasStart shelf.files words b other board → C
  seed_falls j b seed rules other fault board by given refused (inl has) = no_deal_file j b seed rules other by given
      has.has_rules has.takes
  seed_falls j b seed rules other fault board by given refused (inr has) = fits_or_not rules other fault
      (same_rules j b rules other by has.has_rules).1 refused has.fits

  -- no seed deals a board
  seed_refused_is : (text : List ℕ) (j : Job) (rules : RuleParts) (seed : ℕ) (fault : SeedFault)
      → GivesRules shelf words j rules
      → seed_of j ≡ Some seed → seed_fault rules ≡ Some fault → (status : Status) → Explains shelf words status text
      → status ≡ DealRefused
  seed_refused_is text j rules seed fault by given refused = by_cause (λ s. s ≡ DealRefused) text
      (λ x. no_both (job_of words) j x.fault by.named x.names_no_job)
      (λ x. absurd (by.given.calm x.rose))
      (λ x. rules_stand j rules text by x)
      (λ x. no_deal_file j x.job seed rules x.rules by given x.has_rules x.takes)
      (λ x. refl)
      (λ x. refl)
      (λ x. no_deal_file j job.Replay seed rules x.rules by given x.has_deal.has_rules refl)
      (λ x. no_deal_file j job.Replay seed rules x.rules by given x.has_deal.has_rules refl)
      (λ x. no_deal_file j job.Replay seed rules x.rules by given x.has_line.has_deal.has_rules refl)
      (λ x. no_deal_file j job.Replay seed rules x.rules by given x.has_line.has_deal.has_rules refl)
      (λ x. seed_falls j (job_asked x.asked) seed rules x.rules fault x.start by given refused x.has_start)
      (λ x. no_deal_file j job.Replay seed rules x.rules by given x.has_line.has_deal.has_rules refl)
      (λ x. fits_or_not rules x.rules fault
      (same_rules j (job.Deal x.seed) rules x.rules by x.has_rules).1 refused x.fits)
      (λ x. seed_or_not j job.Rules seed given refl (same_rules j job.Rules rules x.rules by x.has_rules).0)

  -- the seed deals a board
  pub dealt_is : (text : List ℕ) (j : Job) (rules : RuleParts) (seed : ℕ) → GivesRules shelf words j rules
      → seed_of j ≡ Some seed → seed_fault rules ≡ None → (status : Status)
      → Explains shelf words status text → status ≡ Done
  dealt_is text j rules seed by given fits = by_cause (λ s. s ≡ Done) text
      (λ x. no_both (job_of words) j x.fault by.named x.names_no_job)
      (λ x. absurd (by.given.calm x.rose))
      (λ x. rules_stand j rules text by x)
      (λ x. no_deal_file j x.job seed rules x.rules by given x.has_rules x.takes)
      (λ x. no_deal_file j x.job seed rules x.rules by given x.has_rules x.takes)
      (λ x. fits_or_not x.rules rules x.fault (sym (same_rules j x.job rules x.rules by x.has_rules).1) x.refused fits)
      (λ x. no_deal_file j job.Replay seed rules x.rules by given x.has_deal.has_rules refl)
      (λ x. no_deal_file j job.Replay seed rules x.rules by given x.has_deal.has_rules refl)
      (λ x. no_deal_file j job.Replay seed rules x.rules by given x.has_line.has_deal.has_rules refl)
      (λ x. no_deal_file j job.Replay seed rules x.rules by given x.has_line.has_deal.has_rules refl)
      (λ x. refl)
      (λ x. refl)
      (λ x. refl)
      (λ x. refl)

  -- the rules are spelled
  pub spelled_is : (text : List ℕ) (rules : RuleParts) → GivesRules shelf words job.Rules rules
      → (status : Status) → Explains shelf words status text → status ≡ Done
  spelled_is text rules by =
      by_cause (λ s. s ≡ Done) text
      (λ x. no_both (job_of words) job.Rules x.fault by.named x.names_no_job)
      (λ x. absurd (by.given.calm x.rose))
      (λ x. rules_stand job.Rules rules text by x)
      (λ x. takes_or_not x.job job.Rules x.takes refl (sym (same_rules job.Rules x.job rules x.rules by x.has_rules).0))
      (λ x. takes_or_not x.job job.Rules x.takes refl (sym (same_rules job.Rules x.job rules x.rules by x.has_rules).0))
      (λ x. seed_or_not x.job job.Rules x.seed x.given refl
      (sym (same_rules job.Rules x.job rules x.rules by x.has_rules).0))
      (λ x. takes_or_not job.Replay job.Rules refl refl
      (sym (same_rules job.Rules job.Replay rules x.rules by x.has_deal.has_rules).0))
      (λ x. takes_or_not job.Replay job.Rules refl refl
      (sym (same_rules job.Rules job.Replay rules x.rules by x.has_deal.has_rules).0))
      (λ x. takes_or_not job.Replay job.Rules refl refl
      (sym (same_rules job.Rules job.Replay rules x.rules by x.has_line.has_deal.has_rules).0))
      (λ x. takes_or_not job.Replay job.Rules refl refl
      (sym (same_rules job.Rules job.Replay rules x.rules by x.has_line.has_deal.has_rules).0))
      (λ x. refl)
      (λ x. refl)
      (λ x. refl)
      (λ x. refl)

  -- the status that has its cause is the one that must be answered
  pub is_due : (status : Status) (text : List ℕ) → Explains shelf words status text → IsDue shelf words status
  is_due status text cause = record {
    usage = λ fault h sunk memory. usage_is text fault h status cause;
    rules_refused = λ j bytes fault named gives refused sunk memory.
        rules_refused_is text j bytes fault named gives refused status cause;
    deal_refused = λ j rules bytes fault by takes gives refused sunk memory.
        deal_refused_is text j rules bytes fault by takes gives refused status cause;
    seed_refused = λ j rules seed fault by given refused sunk memory.
        seed_refused_is text j rules seed fault by given refused status cause;
    bad_line = λ rules board bytes fault gives given refused sunk memory.
        bad_line_is text rules board bytes fault gives given refused status cause;
    no_win = λ rules board bytes moves gives given accepted no sunk memory.
        no_win_is text rules board bytes moves gives given accepted no status cause;
    win = λ rules board bytes moves gives given accepted wins sunk memory.
        win_is text rules board bytes moves gives given accepted wins status cause;
    solved = λ asked rules board gives sunk memory. solved_is text asked rules board gives status cause;
    dealt = λ j rules seed by given fits sunk memory. dealt_is text j rules seed by given fits status cause;
    spelled = λ rules by sunk memory. spelled_is text rules by status cause;
  }
