-- The card that the hole begins with.
use Rattle.game_rules.specs.declared.Goal.{Goal}
use Rattle.game_rules.specs.declared.Goal.TheVariants.{Foundations, Hole, Sequences}
use Rattle.game_rules.specs.declared.HoleStart.TheVariants.{Dealt, Named}
use Rattle.card_piles.specs.Ranks.{IsRank}

-- a named start has one of the thirteen ranks, as every card of the program has
abbrev pub HasStart : Goal → Type 0
HasStart (Foundations base started take_back complete_runs) = Unit {0}
HasStart (Hole wrap Dealt) = Unit {0}
HasStart (Hole wrap (Named card)) = IsRank card.rank
HasStart Sequences = Unit {0}
