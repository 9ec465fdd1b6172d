use Rattle.std.proofs.Common.{◌≡◌, ℕ, List, ap, ◌∙◌, subst}
use Rattle.std.specs.Prelude.{Option}
use Rattle.outside_io.specs.Shelf.{File}
use Rattle.solver_words.specs.Texts.{texts}
use Rattle.patience.specs.Answers.{IsDue}
use Rattle.patience.specs.Complete.{IsComplete}
use Rattle.patience.proofs.PlainWords.{solve_words}
use Rattle.patience.proofs.FileWords.{replay_words, given_first, given_second, calm_first, calm_second, ends_solve}
use Rattle.patience.proofs.FileWords.{ends_replay, writes_verdict, writes_win}
use Rattle.patience.proofs.file_words_tests.solve_and_replay.Goals as goal

pub returns-clause-solved : goal.returns-clause-solved
returns-clause-solved g c = λ files given.
    let told : Option (List File) = g.S.Shelf.files c.args.shelf.now in
    let before : List ℕ → ℕ = g.S.Shelf.faults c.args.shelf.now in
    let now : List ℕ → ℕ = g.S.Shelf.faults c.patience-solved.new.shelf in
    let later : List ℕ → ℕ = g.S.Shelf.faults c.patience-replayed.new.shelf in
    let words : texts c.deref.result.now ≡ solve_words = ap texts c.deref.ensures.value ∙ c.in_ok-words.ensures in
    ends_solve told before now files
    (given_first told told before now later files c.patience-solved.ensures.shelf_never_falls
    c.patience-replayed.ensures.shelf_never_falls given)
    c.patience-solved.result
    (subst
    (λ (ws : List (List ℕ)). IsDue (record { files = told; before = before; after = now }) ws c.patience-solved.result)
    words c.patience-solved.ensures.exact)

pub returns-clause-replayed : goal.returns-clause-replayed
returns-clause-replayed g c = λ files given.
    let told : Option (List File) = g.S.Shelf.files c.args.shelf.now in
    let again : Option (List File) = g.S.Shelf.files c.patience-solved.new.shelf in
    let before : List ℕ → ℕ = g.S.Shelf.faults c.args.shelf.now in
    let now : List ℕ → ℕ = g.S.Shelf.faults c.patience-solved.new.shelf in
    let later : List ℕ → ℕ = g.S.Shelf.faults c.patience-replayed.new.shelf in
    let words : texts c.deref-2.result.now ≡ replay_words = ap texts c.deref-2.ensures.value
    ∙ c.in_ok-words-2.ensures in
    ends_replay again now later files
    (given_second told again before now later files c.patience-solved.ensures.shelf_never_falls
    c.patience-replayed.ensures.shelf_never_falls given c.patience-solved.ensures.files)
    c.patience-replayed.result
    (subst
    (λ (ws : List (List ℕ)). IsDue (record { files = again; before = now; after = later }) ws
    c.patience-replayed.result)
    words c.patience-replayed.ensures.exact)

pub returns-clause-written : goal.returns-clause-written
returns-clause-written g c = λ calm files given.
    let told : Option (List File) = g.S.Shelf.files c.args.shelf.now in
    let again : Option (List File) = g.S.Shelf.files c.patience-solved.new.shelf in
    let before : List ℕ → ℕ = g.S.Shelf.faults c.args.shelf.now in
    let now : List ℕ → ℕ = g.S.Shelf.faults c.patience-solved.new.shelf in
    let later : List ℕ → ℕ = g.S.Shelf.faults c.patience-replayed.new.shelf in
    let old : Option (List ℕ) = g.K.Sink.written c.args.sink.now in
    let mid : Option (List ℕ) = g.K.Sink.written c.patience-solved.new.sink in
    let new : Option (List ℕ) = g.K.Sink.written c.patience-replayed.new.sink in
    let first : texts c.deref.result.now ≡ solve_words = ap texts c.deref.ensures.value ∙ c.in_ok-words.ensures in
    let second : texts c.deref-2.result.now ≡ replay_words = ap texts c.deref-2.ensures.value
    ∙ c.in_ok-words-2.ensures in
    record {
      between = mid;
      verdict = writes_verdict told before now files
          (given_first told told before now later files c.patience-solved.ensures.shelf_never_falls
          c.patience-replayed.ensures.shelf_never_falls given)
          old mid c.patience-solved.result
          (subst
          (λ (ws : List (List ℕ)). IsComplete (record { files = told; before = before; after = now }) ws old mid
          c.patience-solved.result)
          first
          (c.patience-solved.ensures.complete
          (calm_first (g.K.Sink.faults c.args.sink.now) (g.K.Sink.faults c.patience-solved.new.sink)
          (g.K.Sink.faults c.patience-replayed.new.sink) c.patience-solved.ensures.sink_never_falls
          c.patience-replayed.ensures.sink_never_falls calm)));
      win = writes_win again now later files
          (given_second told again before now later files c.patience-solved.ensures.shelf_never_falls
          c.patience-replayed.ensures.shelf_never_falls given c.patience-solved.ensures.files)
          mid new c.patience-replayed.result
          (subst
          (λ (ws : List (List ℕ)). IsComplete (record { files = again; before = now; after = later }) ws mid new
          c.patience-replayed.result)
          second
          (c.patience-replayed.ensures.complete
          (calm_second (g.K.Sink.faults c.args.sink.now) (g.K.Sink.faults c.patience-solved.new.sink)
          (g.K.Sink.faults c.patience-replayed.new.sink) c.patience-solved.ensures.sink_never_falls calm)));
    }
