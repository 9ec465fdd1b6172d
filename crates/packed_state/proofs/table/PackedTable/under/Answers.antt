use Rattle.std.proofs.Common.{ap, refl, ◌∙◌}
use Rattle.card_links.specs.Chains.{link}
use Rattle.packed_state.proofs.Parts.{part_under, part_rest}
use Rattle.packed_state.proofs.table.PackedTable.under.Goals as goal

pub returns-clause-stands : goal.returns-clause-stands
returns-clause-stands c =
    part_under c.args.self.now c.args.stack _ _ c.requires c.if-stack-eq0.false
    (c.under.ensures ∙ ap (λ x. link x.links.under c.args.stack.slot) c.self.view_is) refl

pub returns-clause-cards : goal.returns-clause-cards
returns-clause-cards c =
    part_rest c.args.self.now c.args.stack _ _ c.if-stack-eq0.false
    (c.under.ensures ∙ ap (λ x. link x.links.under c.args.stack.slot) c.self.view_is) refl
