use Rattle.std.proofs.lemmas.Bool.{eqb-true, not-false}
use Rattle.card_sets.proofs.Bits.{has-apart}
use Rattle.card_sets.proofs.CardSet.meets.Goals as goal

pub returns : goal.returns
returns c = λ no bit one. has-apart c.args.self.bits c.args.other.bits bit.place (eqb-true _ _ (not-false _ no)) one
