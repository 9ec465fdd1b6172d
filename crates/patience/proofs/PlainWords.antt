-- From the causes of an answer to what may be printed of two files in memory.
use Rattle.std.proofs.Common.{◌≡◌, ℕ, inl, inr, List, [], ◌∷◌, Some, None, Ok, Err, refl, sym, subst, ◌∙◌}
use Rattle.std.specs.Prelude.{codes}
use Rattle.std.specs.Io.KnownBytes.{Keeps}
use Rattle.outside_io.specs.Shelf.{File, file_bytes}
use Rattle.game_rules.specs.declared.RuleParts.{RuleParts}
use Rattle.game_rules.specs.Board.{Board}
use Rattle.solver_words.specs.declared.job.Job.{Job}
use Rattle.solver_words.specs.declared.job.Job.TheVariants as job
use Rattle.solver_words.specs.declared.job.MemoWord.TheVariants as memo
use Rattle.solver_words.specs.declared.job.Way.TheVariants as way
use Rattle.solve_job.specs.declared.limits.Limits.{Limits}
use Rattle.solver_words.specs.declared.job.Source.TheVariants as source
use Rattle.solver_words.specs.Jobs.{job_of}
use Rattle.rules_json.specs.RulesFile.{rules_of}
use Rattle.deal_reader.specs.Position.{position_of}
use Rattle.line_printer.specs.declared.verdict.Verdict.{Verdict}
use Rattle.line_printer.specs.declared.verdict.Verdict.TheVariants as verdict
use Rattle.solve_job.specs.Verdicts.{IsVerdict}
use Rattle.solve_job.proofs.Fixed.{line_wins, no_line_wins}
use Rattle.patience.specs.declared.status.Status.{Status}
use Rattle.patience.specs.declared.status.Status.TheVariants.{Done, Usage, ShelfFailed, RulesRefused, DealRefused}
use Rattle.patience.specs.declared.status.Status.TheVariants.{LineRefused, SinkFailed, Memory}
use Rattle.patience.specs.Asked.{job_asked, limits_asked}
use Rattle.patience.specs.Answers.{WritesWhole}
use Rattle.patience.specs.Causes.{Shelved, Explains, IsSolved, IsRulesRefusal, IsDealRefusal, seed_of}
use Rattle.patience.specs.PlainWords.{Says, Prints, PrintsVerdict, PrintsRulesFault, PrintsDealFault}

-- the words of the job
abbrev pub solve_words : List (List ℕ)
solve_words = codes "solve" ∷ codes "rules" ∷ codes "deal" ∷ []

-- the two files
abbrev pub two_files : List ℕ → List ℕ → List File
two_files rules deal = record { name = codes "rules"; bytes = rules }
    ∷ record { name = codes "deal"; bytes = deal } ∷ []

job_of-solve_words : job_of solve_words ≡ Ok (job.Solve source.File 100000 1000000 0 way.Both memo.Linked)
job_of-solve_words = refl

-- the words name no other job
one_job : (other : Job) → job_of solve_words ≡ Ok other
    → other ≡ job.Solve source.File 100000 1000000 0 way.Both memo.Linked
one_job other named = let same : Ok (job.Solve source.File 100000 1000000 0 way.Both memo.Linked) ≡ Ok other =
    sym job_of-solve_words ∙ named in cc

no_replay : job_of solve_words ≡ Ok job.Replay → ⊥
no_replay named = let same : job.Replay ≡ job.Solve source.File 100000 1000000 0 way.Both memo.Linked =
    one_job job.Replay named in cc

-- the job has no seed
no_seed : (other : Job) (seed : ℕ) → job_of solve_words ≡ Ok other → seed_of other ≡ Some seed → ⊥
no_seed other seed named given =
    let none : None ≡ Some seed = subst (λ (j : Job). seed_of j ≡ Some seed) (one_job other named) given in
    cc

same_rules : (rules deal bytes : List ℕ)
    → file_bytes (codes "rules") (two_files rules deal) ≡ Some bytes → bytes ≡ rules
same_rules rules deal bytes told = let same : Some rules ≡ Some bytes = told in cc

same_deal : (rules deal bytes : List ℕ) → file_bytes (codes "deal") (two_files rules deal) ≡ Some bytes → bytes ≡ deal
same_deal rules deal bytes told = let same : Some deal ≡ Some bytes = told in cc

-- what a true verdict says
pub says-from_verdict : (rules : RuleParts) (start : Board) (limits : Limits) (v : Verdict) → IsVerdict rules start limits v
    → Says rules start limits.nodes v
says-from_verdict rules start limits (verdict.Winnable moves nodes narrow_nodes) is = line_wins rules start limits moves
    nodes narrow_nodes is
says-from_verdict rules start limits (verdict.Unwinnable nodes narrow_nodes) is = λ moves end line won.
    no_line_wins rules start moves end is.0.never line won
says-from_verdict rules start limits (verdict.Undecided nodes narrow_nodes) is = is.0.ends.spent

prints-solved : (rules deal text : List ℕ) → IsSolved (Some (two_files rules deal)) solve_words text
    → PrintsVerdict rules deal text
prints-solved rules deal text s = elim s.has_start [
  | inl has ↦
      let same = one_job (job_asked s.asked) has.has_rules.named in
      let nodes : s.asked.nodes ≡ 1000000 = cc in (
      record {
        rules = s.rules;
        start = s.start;
        is_rules = subst (λ b. rules_of b ≡ Ok s.rules) (same_rules rules deal has.has_rules.bytes has.has_rules.told)
            has.has_rules.accepted;
        is_deal = subst (λ b. position_of s.rules b ≡ Ok s.start)
            (same_deal rules deal has.bytes has.told) has.accepted;
        verdict = s.verdict;
        says = subst (λ n. Says s.rules s.start n s.verdict) nodes
            (says-from_verdict s.rules s.start (limits_asked s.asked) s.verdict s.is_true);
        printed = s.printed;
      }
      )
  | inr dealt ↦ absurd (no_seed (job_asked s.asked) dealt.seed dealt.has_rules.named dealt.given)
]

prints-rules_fault : (rules deal text : List ℕ) → IsRulesRefusal (Some (two_files rules deal)) solve_words text
    → PrintsRulesFault rules text
prints-rules_fault rules deal text r = record {
  fault = r.fault;
  is_fault = subst (λ b. rules_of b ≡ Err r.fault) (same_rules rules deal r.bytes r.told) r.refused;
  printed = r.printed;
}

prints-deal_fault : (rules deal text : List ℕ) → IsDealRefusal (Some (two_files rules deal)) solve_words text
    → PrintsDealFault rules deal text
prints-deal_fault rules deal text r = record {
  rules = r.rules;
  fault = r.fault;
  is_rules = subst (λ b. rules_of b ≡ Ok r.rules) (same_rules rules deal r.has_rules.bytes r.has_rules.told)
      r.has_rules.accepted;
  is_fault = subst (λ b. position_of r.rules b ≡ Err r.fault) (same_deal rules deal r.bytes r.told) r.refused;
  printed = r.printed;
}

module _ (rules deal : List ℕ) (before after : List ℕ → ℕ) where
  abbrev shelf : Shelved
  shelf = record { files = Some (two_files rules deal); before = before; after = after }

  prints-explained : (status : Status) (text : List ℕ) → Explains shelf solve_words status text
      → Prints rules deal status text
  prints-explained Done text cause = elim cause [
    | inl solved ↦ prints-solved rules deal text solved
    | inr others ↦ elim others [
      | inl wins ↦ absurd (no_replay wins.has_line.has_deal.has_rules.named)
      | inr more ↦ elim more [
        | inl dealt ↦
            let same : job.Deal dealt.seed ≡ job.Solve source.File 100000 1000000 0 way.Both memo.Linked = one_job
            (job.Deal dealt.seed) dealt.has_rules.named in
            let none : ⊥ = cc in absurd none
        | inr spelled ↦
            let same : job.Rules ≡ job.Solve source.File 100000 1000000 0 way.Both memo.Linked =
            one_job job.Rules spelled.has_rules.named in
            let none : ⊥ = cc in absurd none
      ]
    ]
  ]
  prints-explained Usage text cause =
      let same : Ok (job.Solve source.File 100000 1000000 0 way.Both memo.Linked) ≡ Err cause.fault =
      sym job_of-solve_words ∙ cause.names_no_job in cc
  prints-explained ShelfFailed text cause = elim cause [
    | inl rules ↦ inl rules.printed
    | inr others ↦ elim others [
      | inl deal ↦ inr deal.printed
      | inr line ↦ absurd (no_replay line.has_deal.has_rules.named)
    ]
  ]
  prints-explained RulesRefused text cause = prints-rules_fault rules deal text cause
  prints-explained DealRefused text cause = elim cause [
    | inl refused ↦ prints-deal_fault rules deal text refused
    | inr seed ↦ absurd (no_seed seed.job seed.seed seed.has_rules.named seed.given)
  ]
  prints-explained LineRefused text cause = elim cause [
    | inl bad ↦ absurd (no_replay bad.has_deal.has_rules.named)
    | inr others ↦ elim others [
      | inl illegal ↦ absurd (no_replay illegal.has_line.has_deal.has_rules.named)
      | inr short ↦ absurd (no_replay short.has_line.has_deal.has_rules.named)
    ]
  ]
  prints-explained SinkFailed text cause = absurd cause
  prints-explained Memory text cause = absurd cause

  -- what was written to an empty sink
  pub prints-whole : (status : Status) (new : List ℕ)
      → WritesWhole (Explains shelf solve_words) (Some []) (Some new) status
      → (status ≡ Memory → Keeps (Some []) (Some new)) → Prints rules deal status new
  prints-whole SinkFailed new whole memory = tt
  prints-whole Memory new whole memory = memory refl
  prints-whole Done new whole memory = subst (Prints rules deal Done) (sym whole.2)
      (prints-explained Done whole.0 whole.1)
  prints-whole Usage new whole memory = subst (Prints rules deal Usage) (sym whole.2)
      (prints-explained Usage whole.0 whole.1)
  prints-whole ShelfFailed new whole memory = subst (Prints rules deal ShelfFailed) (sym whole.2)
      (prints-explained ShelfFailed whole.0 whole.1)
  prints-whole RulesRefused new whole memory = subst (Prints rules deal RulesRefused) (sym whole.2)
      (prints-explained RulesRefused whole.0 whole.1)
  prints-whole DealRefused new whole memory = subst (Prints rules deal DealRefused) (sym whole.2)
      (prints-explained DealRefused whole.0 whole.1)
  prints-whole LineRefused new whole memory = subst (Prints rules deal LineRefused) (sym whole.2)
      (prints-explained LineRefused whole.0 whole.1)
