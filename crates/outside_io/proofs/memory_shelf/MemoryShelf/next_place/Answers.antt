use Rattle.std.proofs.Common.{◌≡◌, ◌∙◌, ◌==◌, ◌||◌, ap, sym, not, false, is_none, position}
use Rattle.std.specs.List.{list_any}
use Rattle.outside_io.specs.MemoryShelf.{is_named, next_is_listed, was_added}
use Rattle.outside_io.proofs.Entries.{not-is_some-file_bytes}
use Rattle.outside_io.proofs.memory_shelf.MemoryShelf.next_place.Goals as goal

pub returns-clause-exact : goal.returns-clause-exact
returns-clause-exact c =
    let shelf = c.args.self.now in
    let name = c.args.name.now in
    let listed : next_is_listed shelf ≡ false =
    ap (list_any (λ call. call == shelf.calls)) (sym c.deref.ensures.value) ∙ sym c.contains.ensures.value
    ∙ c.if-contains.false in
    let place = ap (position (is_named name)) (sym c.deref-2.ensures.value) ∙ sym c.place_of.ensures in
    ap (λ b. b || not (was_added shelf name)) listed
    ∙ not-is_some-file_bytes shelf.entries.items name
    ∙ ap is_none place
