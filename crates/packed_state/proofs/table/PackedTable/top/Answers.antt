use Rattle.std.proofs.Common.{Some, ap, ◌∙◌}
use Rattle.std.specs.Prelude.{Option}
use Rattle.card_piles.specs.declared.Card.{Card}
use Rattle.packed_state.proofs.Parts.{part_top}
use Rattle.packed_state.proofs.table.PackedTable.top.Goals as goal

pub returns-else-stack-eq0 : goal.returns-else-stack-eq0
returns-else-stack-eq0 c =
    ap (λ (x : Card). let y : Option Card = Some x in y) c.card_of.ensures
    ∙ part_top c.args.self.now c.args.stack c.if-stack-eq0.false
