use Rattle.std.proofs.Common.{◌∙◌, ap}
use Rattle.card_links.specs.Chains.{size_at}
use Rattle.packed_state.proofs.Tops.{size_is}
use Rattle.packed_state.proofs.Packed.count.Goals as goal

pub returns-clause-cards : goal.returns-clause-cards
returns-clause-cards c = c.size.ensures ∙ ap (λ x. size_at x.links c.args.place) c.self.view_is
    ∙ size_is c.args.self.now c.args.place
