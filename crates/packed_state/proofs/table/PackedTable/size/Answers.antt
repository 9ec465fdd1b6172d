use Rattle.std.proofs.Common.{length, ap, ◌∙◌}
use Rattle.packed_state.specs.Packed.{cards_at}
use Rattle.packed_state.proofs.Parts.{pile_cards}
use Rattle.packed_state.proofs.table.PackedTable.size.Goals as goal

pub returns : goal.returns
returns c =
    c.from-2.ensures ∙ c.count.ensures.cards ∙ ap (λ p. length (cards_at c.args.self.now p)) c.from.ensures
    ∙ ap length (pile_cards c.args.self.now c.keep.ensures c.args.i c.requires)
