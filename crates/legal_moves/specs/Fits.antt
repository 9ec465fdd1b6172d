-- The sets of cards that places accept.
use Rattle.std.specs.Prelude.{◌≡◌, Bool, true, false, ◌==◌, ◌&&◌, ◌||◌, not, List, ◌∷◌, length}
use Rattle.card_piles.specs.declared.Card.{Card}
use Rattle.card_piles.specs.Ranks.{IsRank}
use Rattle.card_sets.specs.declared.CardSet.{CardSet}
use Rattle.card_sets.specs.Sets.{has}
use Rattle.game_rules.specs.declared.RuleParts.{RuleParts}
use Rattle.game_rules.specs.declared.Place.{Place}
use Rattle.game_rules.specs.declared.Place.TheVariants.{Tableau, Foundation}
use Rattle.game_rules.specs.Rules.{takes_complete_runs}
use Rattle.game_rules.specs.Board.{Board}
use Rattle.game_rules.specs.Putting.{can_put}

-- whether several cards may be put on the place at once, by the first of them alone
abbrev pub takes_groups : Place → Bool
takes_groups (Tableau i) = true
takes_groups place = false

-- whether the first card alone says what may be put on the place: not where foundations take complete runs
abbrev pub is_asked_card_by_card : RuleParts → Place → Bool
is_asked_card_by_card rules (Foundation f) = not (takes_complete_runs rules.goal)
is_asked_card_by_card rules place = true

-- the set has a card exactly where cards that begin with it can be put on the place, one alone where one is asked
abbrev pub Fits : RuleParts → Board → Place → CardSet → Type 0
Fits rules board to set =
    (card : Card) (cards : List Card) → IsRank card.rank
    → can_put rules board to (card ∷ cards) ≡ (takes_groups to || (length cards == 0)) && has set card
