use Rattle.std.proofs.Common.{◌≡◌, take, map}
use Rattle.serde_json.specs.View.{view}
use Rattle.deal_reader.specs.Spelling.{entry_tree}
use Rattle.deal_reader.proofs.write.entries_value.Given as goal

abbrev pub invariant-loop-entry : goal.invariant-loop-entry
invariant-loop-entry l = map view l.list.items ≡ map entry_tree (take l.entry-index l.entries)
