use Rattle.game_rules.proofs.Limits.{limits_of}
use Rattle.game_rules.proofs.Ranks.{ranks-belong}
use Rattle.game_rules.proofs.laws.cards_have_ranks.Goals as goal

pub returns : goal.returns
returns c = λ rules board playable belongs. ranks-belong rules board (limits_of rules playable) belongs
