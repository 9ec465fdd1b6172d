use Rattle.std.proofs.Common.{◌≡◌, drop}
use Rattle.serde_json.specs.View.{items_view}
use Rattle.deal_reader.specs.Entries.{lists_from}
use Rattle.deal_reader.proofs.Lists.{with_front}
use Rattle.deal_reader.proofs.entries.lists_from.Given as goal

-- the lists so far, before those of the rest, are those of the whole
abbrev pub invariant-loop-value : goal.invariant-loop-value
invariant-loop-value g l =
    with_front l.lists (lists_from l.part (g.E.Entry.read l.part) l.at (items_view (drop l.value-index l.list)))
    ≡ lists_from l.part (g.E.Entry.read l.part) 0 (items_view l.list)
