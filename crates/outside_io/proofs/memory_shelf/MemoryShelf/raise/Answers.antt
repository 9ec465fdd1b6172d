use Rattle.std.proofs.Common.{◌∙◌, ap, sym, refl, not, cond, position}
use Rattle.std.proofs.lemmas.Slice.Eq.{bytes_eq-Decides}
use Rattle.std.specs.Str.{bytes_eq}
use Rattle.outside_io.specs.Calls.{one_more}
use Rattle.outside_io.specs.MemoryShelf.{is_named, count_of, shelf_faults, was_added}
use Rattle.outside_io.proofs.Entries.{some_file, no_file, common_count_raised, count_with_more}
use Rattle.outside_io.proofs.Rising.{Rose-raised}
use Rattle.outside_io.proofs.memory_shelf.MemoryShelf.raise.Goals as goal

pub returns-in-Some-clause-raised : goal.returns-in-Some-clause-raised
returns-in-Some-clause-raised c other =
    let shelf = c.args.self.now in
    let name = c.args.name.now in
    let n = shelf_faults shelf other in
    let at = sym (c.in-Some.ensures ∙ ap (position (is_named name)) c.deref.ensures.value) in
    c.raise_at.ensures.raised shelf.missing name other at
    ∙ sym (ap (λ b. cond (cond b (bytes_eq name other) (not (was_added shelf other))) (one_more n) n)
    (some_file shelf.entries.items name _ at))

pub returns-in-None-clause-raised : goal.returns-in-None-clause-raised
returns-in-None-clause-raised c other =
    let shelf = c.args.self.now in
    let name = c.args.name.now in
    let n = shelf_faults shelf other in
    let absent = sym (c.in-None.ensures ∙ ap (position (is_named name)) c.deref.ensures.value) in
    ap (λ missing. count_of missing shelf.entries.items other) c.raise.ensures.by_one
    ∙ common_count_raised shelf.missing shelf.entries.items other
    ∙ sym (ap (λ b. cond (cond b (bytes_eq name other) (not (was_added shelf other))) (one_more n) n)
    (no_file shelf.entries.items name absent))

pub returns-in-None-clause-never_falls : goal.returns-in-None-clause-never_falls
returns-in-None-clause-never_falls c other =
    count_with_more c.args.self.now.missing c.raise.new.count c.args.self.now.entries.items other
    c.raise.ensures.never_falls

pub returns-in-Some-clause-rose : goal.returns-in-Some-clause-rose
returns-in-Some-clause-rose c =
    let shelf = c.args.self.now in
    let name = c.args.name.now in
    let n = shelf_faults shelf name in
    let at = sym (c.in-Some.ensures ∙ ap (position (is_named name)) c.deref.ensures.value) in
    Rose-raised n _ (c.raise_at.ensures.raised shelf.missing name name at ∙ ap (λ b. cond b (one_more n) n)
    ((bytes_eq-Decides name name).1 refl))

pub returns-in-None-clause-rose : goal.returns-in-None-clause-rose
returns-in-None-clause-rose c =
    let shelf = c.args.self.now in
    let name = c.args.name.now in
    let n = shelf_faults shelf name in
    let absent = sym (c.in-None.ensures ∙ ap (position (is_named name)) c.deref.ensures.value) in
    Rose-raised n _ (ap (λ missing. count_of missing shelf.entries.items name) c.raise.ensures.by_one
    ∙ common_count_raised shelf.missing shelf.entries.items name
    ∙ ap (λ b. cond (not b) (one_more n) n) (no_file shelf.entries.items name absent))
