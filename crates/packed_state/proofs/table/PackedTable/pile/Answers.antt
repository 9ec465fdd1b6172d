use Rattle.std.proofs.Common.{ap, ◌∙◌}
use Rattle.card_links.specs.Chains.{top_at, size_at}
use Rattle.packed_state.proofs.Parts.{whole_part, whole_cards}
use Rattle.packed_state.proofs.table.PackedTable.pile.Goals as goal

pub returns-clause-stands : goal.returns-clause-stands
returns-clause-stands c =
    whole_part _ _ c.self.view_is c.keep.ensures c.args.i _ _ c.requires
    (c.top.ensures ∙ ap (top_at c.self.inside.links) c.from.ensures)
    (c.size.ensures ∙ ap (size_at c.self.inside.links) c.from-2.ensures)

pub returns-clause-cards : goal.returns-clause-cards
returns-clause-cards c =
    whole_cards _ _ c.self.view_is c.keep.ensures c.args.i _ _ c.requires
    (c.top.ensures ∙ ap (top_at c.self.inside.links) c.from.ensures)
    (c.size.ensures ∙ ap (size_at c.self.inside.links) c.from-2.ensures)
