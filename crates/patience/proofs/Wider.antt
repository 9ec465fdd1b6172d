-- A cause seen from an earlier start and a later end.
use Rattle.std.proofs.Common.{◌≡◌, ◌≤◌, ℕ, List, inl, inr, subst}
use Rattle.std.specs.declared.option.Option.{Option}
use Rattle.outside_io.specs.Faults.{Rose}
use Rattle.outside_io.specs.Shelf.{File}
use Rattle.outside_io.proofs.Rising.{Rose-earlier}
use Rattle.patience.specs.declared.report.Stop.{Stop}
use Rattle.patience.specs.declared.report.Stop.TheVariants.{Told, NoMemory}
use Rattle.patience.specs.declared.status.Status.{Status}
use Rattle.patience.specs.declared.status.Status.TheVariants.{Done, Usage, ShelfFailed, RulesRefused, DealRefused}
use Rattle.patience.specs.declared.status.Status.TheVariants.{LineRefused, SinkFailed, Memory}
use Rattle.patience.specs.Causes.{Explains}
use Rattle.patience.specs.Stages.{Stops}

-- a count that rose rose also from an earlier value to the same one
rose-wider : (b0 b1 a1 a2 : ℕ) → b0 ≤ b1 → a1 ≡ a2 → Rose b1 a1 → Rose b0 a2
rose-wider b0 b1 a1 a2 earlier same rose = subst (Rose b0) same (Rose-earlier b0 b1 a1 earlier rose)

module _ (files : Option (List File)) (b0 b1 a1 a2 : List ℕ → ℕ) (words : List (List ℕ)) (text : List ℕ)
    (earlier : (name : List ℕ) → b0 name ≤ b1 name) (later : (name : List ℕ) → a1 name ≡ a2 name) where
  failure-wider : Explains (record { files = files; before = b1; after = a1 }) words ShelfFailed text
      → Explains (record { files = files; before = b0; after = a2 }) words ShelfFailed text
  failure-wider (inl x) = inl (record {
    job = x.job;
    named = x.named;
    rose = rose-wider _ _ _ _ (earlier _)
        (later _) x.rose;
    printed = x.printed;
  })
  failure-wider (inr (inl x)) = inr (inl (record {
    job = x.job;
    rules = x.rules;
    has_rules = x.has_rules;
    takes = x.takes;
    rose = rose-wider _ _ _ _ (earlier _) (later _) x.rose;
    printed = x.printed;
  }))
  failure-wider (inr (inr x)) = inr (inr (record {
    rules = x.rules;
    board = x.board;
    has_deal = x.has_deal;
    rose = rose-wider _ _ _ _ (earlier _) (later _) x.rose;
    printed = x.printed;
  }))

  pub explains-wider : (status : Status)
      → Explains (record { files = files; before = b1; after = a1 }) words status text
      → Explains (record { files = files; before = b0; after = a2 }) words status text
  explains-wider Done h = h
  explains-wider Usage h = h
  explains-wider ShelfFailed h = failure-wider h
  explains-wider RulesRefused h = h
  explains-wider DealRefused h = h
  explains-wider LineRefused h = h
  explains-wider SinkFailed h = h
  explains-wider Memory h = h

-- a stop's cause seen from an earlier start and a later end
pub stops-wider : (files files' : Option (List File)) (b0 b1 a1 a2 : List ℕ → ℕ) (words : List (List ℕ)) (stop : Stop)
    → files' ≡ files → ((name : List ℕ) → b0 name ≤ b1 name) → ((name : List ℕ) → a1 name ≡ a2 name)
    → Stops (Explains (record { files = files'; before = b1; after = a1 }) words) stop
    → Stops (Explains (record { files = files; before = b0; after = a2 }) words) stop
stops-wider files files' b0 b1 a1 a2 words (Told report) same earlier later h =
    explains-wider files b0 b1 a1 a2 words report.text.items earlier later report.status
    (subst (λ f. Explains (record { files = f; before = b1; after = a1 }) words report.status report.text.items) same h)
stops-wider files files' b0 b1 a1 a2 words NoMemory same earlier later h = tt
