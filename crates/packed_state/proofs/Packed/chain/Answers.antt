use Rattle.std.proofs.Common.{◌∙◌, ap, ap₂}
use Rattle.card_links.specs.Chains.{top_at, size_at}
use Rattle.packed_state.specs.CardsLeft.{cards_left}
use Rattle.packed_state.proofs.Downward.{chain_cards}
use Rattle.packed_state.proofs.Packed.chain.Goals as goal

pub returns : goal.returns
returns c =
    ap₂ (λ slot left. cards_left c.args.self.now slot left 0)
    (c.top.ensures ∙ ap (λ x. top_at x.links c.args.place) c.self.view_is)
    (c.size.ensures ∙ ap (λ x. size_at x.links c.args.place) c.self.view_is)
    ∙ chain_cards c.args.self.now c.args.place
