use Rattle.std.proofs.Common.{◌+◌, ap, ◌∙◌}
use Rattle.game_rules.specs.Board.{top_of}
use Rattle.packed_state.specs.Packed.{cards_at}
use Rattle.packed_state.proofs.Parts.{cell_top}
use Rattle.packed_state.proofs.table.PackedTable.cell.Goals as goal

pub returns : goal.returns
returns c =
    c.top_card.ensures ∙ ap (λ p. top_of (cards_at c.args.self.now (20 + p))) c.from.ensures
    ∙ cell_top c.args.self.now c.keep.ensures c.args.i c.requires
