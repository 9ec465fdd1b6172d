use Rattle.card_sets.proofs.Bits.{set_bit}
use Rattle.card_sets.proofs.CardSet.with_bit.Goals as goal

pub returns : goal.returns
returns c = λ b. set_bit c.args.self.bits c.args.bit.place b.place c.requires
