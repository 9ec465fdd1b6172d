use Rattle.card_sets.proofs.Bits.{has-all}
use Rattle.card_sets.proofs.CardSet.all.Goals as goal

pub returns : goal.returns
returns c = λ card ranked. has-all card ranked
