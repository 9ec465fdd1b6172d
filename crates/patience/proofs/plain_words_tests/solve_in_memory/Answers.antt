use Rattle.std.proofs.Common.{◌≡◌, ℕ, ◌∙◌, ◌++◌, List, [], ◌∷◌, Some, ap, sym, subst}
use Rattle.std.specs.Prelude.{codes}
use Rattle.std.specs.Io.KnownBytes.{Keeps}
use Rattle.outside_io.specs.Shelf.{File}
use Rattle.outside_io.specs.MemoryShelf.{shelf_files, shelf_faults}
use Rattle.outside_io.specs.MemorySink.{sink_bytes}
use Rattle.solver_words.specs.Texts.{texts}
use Rattle.patience.specs.Answers.{WritesWhole}
use Rattle.patience.specs.Causes.{Explains}
use Rattle.patience.specs.PlainWords.{Prints}
use Rattle.patience.proofs.PlainWords.{solve_words, two_files, prints-whole}
use Rattle.patience.proofs.plain_words_tests.solve_in_memory.Goals as goal

pub returns : goal.returns
returns c =
    let rules = c.args.rules.now in
    let deal = c.args.deal.now in
    let status = c.patience-status.result in
    let written : List ℕ = sink_bytes c.patience-status.new.sink in
    let before : List ℕ → ℕ = shelf_faults c.add-2.new.self in
    let after : List ℕ → ℕ = shelf_faults c.patience-status.new.shelf in
    let first : shelf_files c.add.new.self ≡ record { name = codes "rules"; bytes = rules } ∷ [] =
    c.in_ok-add.ensures.added ∙ ap (λ (fs : List File). fs ++ record { name = codes "rules"; bytes = rules } ∷ [])
    c.new-shelf.ensures.empty in
    let files : shelf_files c.add-2.new.self ≡ two_files rules deal =
    c.in_ok-add-2.ensures.added
    ∙ ap (λ (fs : List File). fs ++ record { name = codes "deal"; bytes = deal } ∷ []) first in
    let words : texts c.deref.result.now ≡ solve_words = ap texts c.deref.ensures.value ∙ c.in_ok-words.ensures in
    let text : c.in_ok-text.text.items ≡ written = c.in_ok-text.ensures.items_if_clones_equal (λ x y same. same)
    ∙ c.bytes.ensures in
    let empty : WritesWhole
    (Explains (record { files = Some (shelf_files c.add-2.new.self); before = before; after = after })
    (texts c.deref.result.now))
    (Some []) (Some written) status =
    subst
    (λ (old : List ℕ).
    WritesWhole (Explains (record { files = Some (shelf_files c.add-2.new.self); before = before; after = after })
    (texts c.deref.result.now))
    (Some old) (Some written) status)
    c.in_ok-sink.ensures.empty c.patience-status.ensures.whole in
    let worded = subst
    (λ (ws : List (List ℕ)). WritesWhole
    (Explains (record { files = Some (shelf_files c.add-2.new.self); before = before; after = after }) ws)
    (Some []) (Some written) status)
    words empty in
    let whole = subst
    (λ (fs : List File). WritesWhole (Explains (record { files = Some fs; before = before; after = after }) solve_words)
    (Some []) (Some written) status)
    files worded in
    subst (λ (t : List ℕ). Prints rules deal status t) (sym text)
    (prints-whole rules deal before after status written whole
    (λ is. subst (λ (old : List ℕ). Keeps (Some old) (Some written)) c.in_ok-sink.ensures.empty
    (c.patience-status.ensures.memory is)))
