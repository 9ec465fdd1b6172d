use Rattle.std.proofs.Common.{◌+◌, ap, ◌∙◌}
use Rattle.game_rules.specs.Board.{top_of}
use Rattle.packed_state.specs.Packed.{cards_at}
use Rattle.packed_state.proofs.Parts.{last_some}
use Rattle.packed_state.proofs.table.PackedTable.last_entry.Goals as goal

pub returns-else-self-eq0 : goal.returns-else-self-eq0
returns-else-self-eq0 c =
    c.top_card.ensures ∙ ap (λ p. top_of (cards_at c.args.self.now (36 + p))) c.from.ensures
    ∙ last_some _ _ c.self.view_is c.keep.ensures c.if-self-eq0.false
