use Rattle.card_sets.proofs.Bits.{has-with}
use Rattle.card_sets.proofs.CardSet.with.Goals as goal

pub returns : goal.returns
returns c = λ card ranked.
    rw c.bit_of.ensures.value (has-with c.args.self.bits c.args.suit c.args.rank card c.requires ranked)
