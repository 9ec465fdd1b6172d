use Rattle.std.proofs.Common.{◌≡◌, drop}
use Rattle.serde_json.specs.View.{items_view}
use Rattle.deal_reader.specs.Entries.{entries_from}
use Rattle.deal_reader.proofs.Lists.{with_front}
use Rattle.deal_reader.proofs.entries.entries_from.Given as goal

-- the entries so far, before those of the rest, are those of the whole
abbrev pub invariant-loop-value : goal.invariant-loop-value
invariant-loop-value g l =
    with_front l.entries (entries_from (g.E.Entry.read l.part) l.at (items_view (drop l.value-index l.list)))
    ≡ entries_from (g.E.Entry.read l.part) l.place (items_view l.list)
