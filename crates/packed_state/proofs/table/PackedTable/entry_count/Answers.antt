use Rattle.std.proofs.Common.{◌∙◌}
use Rattle.packed_state.proofs.Parts.{entries_long}
use Rattle.packed_state.proofs.table.PackedTable.entry_count.Goals as goal

pub returns : goal.returns
returns c = c.from.ensures ∙ entries_long _ _ c.self.view_is
