use Rattle.std.proofs.Common.{◌∙◌, ap}
use Rattle.std.specs.Prelude.{nat_eq}
use Rattle.packed_state.proofs.Won.{no_card_left}
use Rattle.packed_state.proofs.Packed.is_cleared.Goals as goal

pub returns : goal.returns
returns c =
    rw c.requires
    (ap (λ n. nat_eq n 0) (c.low.ensures ∙ ap (λ x. x.links.low) c.self.view_is)
    ∙ no_card_left c.args.self.now c.keep.ensures)
