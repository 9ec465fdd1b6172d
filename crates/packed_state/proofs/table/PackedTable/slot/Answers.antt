use Rattle.std.proofs.Common.{◌+◌, ap, ◌∙◌, arith}
use Rattle.game_rules.specs.Board.{top_of}
use Rattle.packed_state.specs.Packed.{cards_at}
use Rattle.packed_state.proofs.Parts.{slot_low, slot_top}
use Rattle.packed_state.proofs.table.PackedTable.slot.Goals as goal

pub top_card-requires : goal.top_card-requires
top_card-requires c =
    let low = slot_low c.args.self.now c.keep.ensures c.args.i c.requires in
    let same = c.from.ensures in
    omega arith

pub returns : goal.returns
returns c =
    c.top_card.ensures ∙ ap (λ p. top_of (cards_at c.args.self.now (107 + p))) c.from.ensures
    ∙ slot_top c.args.self.now c.keep.ensures c.args.i c.requires
