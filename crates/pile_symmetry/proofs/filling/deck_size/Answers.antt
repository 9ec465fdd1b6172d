use Rattle.std.proofs.Common.{sym}
use Rattle.game_rules.proofs.PositionFacts.{deck_size-is}
use Rattle.pile_symmetry.proofs.filling.deck_size.Goals as goal

pub returns : goal.returns
returns c = sym deck_size-is
