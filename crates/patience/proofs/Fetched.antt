-- What was fetched of a file says what the file says.
use Rattle.std.proofs.Common.{◌≡◌, ℕ, List, [], Result, Ok, Err, IfOk, ap, sym, ◌∙◌, IsTrue, subst, inl, inr}
use Rattle.std.specs.declared.option.Option.{Option}
use Rattle.std.specs.declared.option.Option.TheVariants.{Some, None}
use Rattle.game_rules.specs.declared.RuleParts.{RuleParts}
use Rattle.game_rules.specs.declared.Move.{Move}
use Rattle.game_rules.specs.Board.{Board}
use Rattle.deal_reader.specs.Position.{position_of}
use Rattle.deal_reader.proofs.Reading.{position_of-take}
use Rattle.line_printer.specs.LineFile.{line_of}
use Rattle.line_printer.proofs.Reading.{line_of_front}
use Rattle.outside_io.specs.Shelf.{File, HasBytes}
use Rattle.outside_io.specs.Calls.{Fetches}
use Rattle.rules_json.specs.RulesFile.{rules_of}
use Rattle.rules_json.proofs.Reading.{rules_of-take}
use Rattle.solver_words.specs.declared.job.Job.{Job}
use Rattle.solver_words.specs.declared.job.Job.TheVariants as job
use Rattle.solver_words.specs.declared.job.Source.{Source}
use Rattle.solver_words.specs.declared.job.Source.TheVariants as source
use Rattle.seed_deal.specs.Seeds.{seed_board, seed_fault}
use Rattle.solver_words.specs.Jobs.{job_of}
use Rattle.patience.specs.declared.asked.Asked.{Asked}
use Rattle.patience.specs.declared.report.Stop.{Stop}
use Rattle.patience.specs.declared.report.Stop.TheVariants.{Told, NoMemory}
use Rattle.patience.specs.declared.status.Status.TheVariants.{RulesRefused, DealRefused, LineRefused}
use Rattle.patience.specs.Asked.{job_asked}
use Rattle.patience.specs.Causes.{Shelved, Explains, HasRules, HasDeal, HasStart, HasLine, takes_deal, seed_of}
use Rattle.patience.specs.Causes.{rules_name, deal_name, line_name}
use Rattle.patience.specs.Stages.{Stops, RefusesRules, RefusesDeal, RefusesSeed, RefusesLine}

-- the bytes that were read are those that were fetched
pub read_as : (files : Option (List File)) (name read bytes : List ℕ) (limit : ℕ) → read ≡ bytes
    → Fetches files name limit [] bytes → Fetches files name limit [] read
read_as files name read bytes limit same fetched = subst (λ b. Fetches files name limit [] b) (sym same) fetched

rules_of-fetched : (files : Option (List File)) (name bytes : List ℕ) (fetched : Fetches files name 65536 [] bytes)
    → rules_of fetched.bytes ≡ rules_of bytes
rules_of-fetched files name bytes fetched = sym (ap rules_of fetched.grew ∙ rules_of-take fetched.bytes)

position_of-fetched : (files : Option (List File)) (name bytes : List ℕ) (rules : RuleParts)
    (fetched : Fetches files name 65536 [] bytes)
    → position_of rules fetched.bytes ≡ position_of rules bytes
position_of-fetched files name bytes rules fetched =
    sym (ap (position_of rules) fetched.grew ∙ position_of-take rules fetched.bytes)

line_of-fetched : (files : Option (List File)) (name bytes : List ℕ) (fetched : Fetches files name 67108864 [] bytes)
    → line_of fetched.bytes ≡ line_of bytes
line_of-fetched files name bytes fetched = sym (ap line_of fetched.grew ∙ line_of_front fetched.bytes)

-- the rules that were read are those of the file
pub has_rules : (files : Option (List File)) (words : List (List ℕ)) (j : Job) (name bytes : List ℕ) (rules : RuleParts)
    → name ≡ rules_name words → job_of words ≡ Ok j → Fetches files name 65536 [] bytes → rules_of bytes ≡ Ok rules
    → HasRules files words j rules
has_rules files words j name bytes rules named job fetched accepted = record {
  named = job;
  bytes = fetched.bytes;
  told = subst (λ n. HasBytes files n fetched.bytes) named fetched.told;
  accepted = rules_of-fetched files name bytes fetched ∙ accepted;
}

-- the deal that was read is that of the file
pub has_deal : (files : Option (List File)) (words : List (List ℕ)) (j : Job) (name bytes : List ℕ)
    (rules : RuleParts) (board : Board)
    → name ≡ deal_name words → HasRules files words j rules → IsTrue (takes_deal j) → Fetches files name 65536 [] bytes
    → position_of rules bytes ≡ Ok board → HasDeal files words j rules board
has_deal files words j name bytes rules board named by takes fetched accepted = record {
  has_rules = by;
  takes = takes;
  bytes = fetched.bytes;
  told = subst (λ n. HasBytes files n fetched.bytes) named fetched.told;
  accepted = position_of-fetched files name bytes rules fetched ∙ accepted;
}

-- what stopped the reading of the rules has its cause in the file
pub rules-stopped : (shelf : Shelved) (words : List (List ℕ)) (j : Job) (name bytes : List ℕ) (stop : Stop)
    → name ≡ rules_name words → job_of words ≡ Ok j → Fetches shelf.files name 65536 [] bytes
    → Stops (RefusesRules bytes) stop
    → Stops (Explains shelf words) stop
rules-stopped shelf words j name bytes NoMemory named job fetched stopped = tt
rules-stopped shelf words j name bytes (Told report) named job fetched stopped =
    let cause : Explains shelf words RulesRefused report.text.items = record {
      job = j;
      named = job;
      bytes = fetched.bytes;
      told = subst (λ n. HasBytes shelf.files n fetched.bytes) named fetched.told;
      fault = stopped.0;
      refused = rules_of-fetched shelf.files name bytes fetched ∙ stopped.1;
      printed = stopped.3;
    } in
    subst (λ status. Explains shelf words status report.text.items) (sym stopped.2) cause

-- what stopped the reading of the deal has its cause in the file
pub deal-stopped : (shelf : Shelved) (words : List (List ℕ)) (j : Job) (name bytes : List ℕ)
    (rules : RuleParts) (stop : Stop)
    → name ≡ deal_name words → HasRules shelf.files words j rules → IsTrue (takes_deal j)
    → Fetches shelf.files name 65536 [] bytes
    → Stops (RefusesDeal rules bytes) stop → Stops (Explains shelf words) stop
deal-stopped shelf words j name bytes rules NoMemory named by takes fetched stopped = tt
deal-stopped shelf words j name bytes rules (Told report) named by takes fetched stopped =
    let cause : Explains shelf words DealRefused report.text.items = inl (record {
      job = j;
      rules = rules;
      has_rules = by;
      takes = takes;
      bytes = fetched.bytes;
      told = subst (λ n. HasBytes shelf.files n fetched.bytes) named fetched.told;
      fault = stopped.0;
      refused = position_of-fetched shelf.files name bytes rules fetched ∙ stopped.1;
      printed = stopped.3;
    }) in
    subst (λ status. Explains shelf words status report.text.items) (sym stopped.2) cause

-- the board of a seed is that of the rules
pub has_dealt : (files : Option (List File)) (words : List (List ℕ)) (asked : Asked) (seed : ℕ)
    (rules : RuleParts) (board : Board)
    → asked.source ≡ source.FromSeed seed → HasRules files words (job_asked asked) rules → seed_fault rules ≡ None
    → board ≡ seed_board rules seed
    → HasStart files words (job_asked asked) rules board
has_dealt files words asked seed rules board is by fits dealt = inr (record {
  has_rules = by;
  seed = seed;
  given = ap (λ (s : Source). seed_of (job.Solve s asked.cache asked.nodes asked.narrow asked.way asked.memo)) is;
  fits = fits;
  dealt = dealt;
})

pub dealt-start : (files : Option (List File)) (words : List (List ℕ)) (asked : Asked) (seed : ℕ) (rules : RuleParts)
    (result : Result Board Stop)
    → asked.source ≡ source.FromSeed seed → HasRules files words (job_asked asked) rules
    → IfOk result (λ board. board ≡ seed_board rules seed)
    → IfOk result (λ board. seed_fault rules ≡ None) → IfOk result (HasStart files words (job_asked asked) rules)
dealt-start files words asked seed rules (Ok board) is by dealt fits = has_dealt files words asked seed rules
    board is by fits dealt
dealt-start files words asked seed rules (Err stop) is by dealt fits = tt

-- what stopped the deal of a seed has its cause in the rules
pub seed-stopped : (shelf : Shelved) (words : List (List ℕ)) (j : Job) (rules : RuleParts) (seed : ℕ) (stop : Stop)
    → HasRules shelf.files words j rules → seed_of j ≡ Some seed → Stops (RefusesSeed rules) stop
    → Stops (Explains shelf words) stop
seed-stopped shelf words j rules seed NoMemory by given stopped = tt
seed-stopped shelf words j rules seed (Told report) by given stopped =
    let cause : Explains shelf words DealRefused report.text.items = inr (record {
      job = j;
      rules = rules;
      has_rules = by;
      seed = seed;
      given = given;
      fault = stopped.0;
      refused = stopped.1;
      printed = stopped.3;
    }) in
    subst (λ status. Explains shelf words status report.text.items) (sym stopped.2) cause

-- the moves that were read are those of the file
pub has_line : (files : Option (List File)) (words : List (List ℕ)) (name bytes : List ℕ) (rules : RuleParts)
    (board : Board) (moves : List Move)
    → name ≡ line_name words → HasDeal files words job.Replay rules board → Fetches files name 67108864 [] bytes
    → line_of bytes ≡ Ok moves → HasLine files words rules board moves
has_line files words name bytes rules board moves named by fetched accepted = record {
  has_deal = by;
  bytes = fetched.bytes;
  told = subst (λ n. HasBytes files n fetched.bytes) named fetched.told;
  accepted = line_of-fetched files name bytes fetched ∙ accepted;
}

-- what stopped the reading of the line has its cause in the file
pub line-stopped : (shelf : Shelved) (words : List (List ℕ)) (name bytes : List ℕ) (rules : RuleParts)
    (board : Board) (stop : Stop)
    → name ≡ line_name words → HasDeal shelf.files words job.Replay rules board
    → Fetches shelf.files name 67108864 [] bytes
    → Stops (RefusesLine bytes) stop → Stops (Explains shelf words) stop
line-stopped shelf words name bytes rules board NoMemory named by fetched stopped = tt
line-stopped shelf words name bytes rules board (Told report) named by fetched stopped =
    let cause : Explains shelf words LineRefused report.text.items = inl (record {
      rules = rules;
      board = board;
      has_deal = by;
      bytes = fetched.bytes;
      told = subst (λ n. HasBytes shelf.files n fetched.bytes) named fetched.told;
      fault = stopped.0;
      refused = line_of-fetched shelf.files name bytes fetched ∙ stopped.1;
      printed = stopped.3;
    }) in
    subst (λ status. Explains shelf words status report.text.items) (sym stopped.2) cause
