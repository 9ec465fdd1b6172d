-- The board of a seed, and the rules whose deck cannot be laid out.
use Rattle.std.specs.Prelude.{ℕ, ◌+◌, ◌*◌, ◌/◌, ◌==◌, ◌&&◌, nat_lt, Option, Some, None, if◌then◌else◌}
use Rattle.game_rules.specs.declared.RuleParts.{RuleParts}
use Rattle.game_rules.specs.declared.Layout.{Layout}
use Rattle.game_rules.specs.declared.Layout.TheVariants.{Even, Triangle}
use Rattle.game_rules.specs.Rules.{is_hole_goal, is_sequence_goal, is_started}
use Rattle.game_rules.specs.Board.{Board}
use Rattle.seed_deal.specs.declared.fault.SeedFault.{SeedFault}
use Rattle.seed_deal.specs.declared.fault.SeedFault.TheVariants.{TooFewCards, TooManyCards}
use Rattle.seed_deal.specs.Shuffle.{shuffled_deck}
use Rattle.seed_deal.specs.Layout.{board_of_deck}

-- how many cards all decks have
abbrev pub cards_in_decks : RuleParts → ℕ
cards_in_decks rules = 4 * rules.max_rank * rules.decks

-- how many cards a triangle of so many piles has
abbrev pub cards_of_triangle : Layout → ℕ → ℕ
cards_of_triangle Even piles = 0
cards_of_triangle Triangle piles = piles * (piles + 1) / 2

-- how many cards the steps before the last need
abbrev pub cards_needed : RuleParts → ℕ
cards_needed rules =
    (if is_started rules.goal then 4 * rules.decks else 0)
    + (if is_hole_goal rules.goal then 1 else 0)
    + rules.cells_filled
    + rules.reserve
    + rules.stock
    + cards_of_triangle rules.layout rules.piles

-- too few cards: the steps before the last need more than the decks have
-- too many cards: there are no piles for a card that remains for the last step
abbrev pub seed_fault : RuleParts → Option SeedFault
seed_fault rules =
    if is_sequence_goal rules.goal then None else
    if nat_lt (cards_in_decks rules) (cards_needed rules) then Some TooFewCards else
    if (rules.piles == 0) && nat_lt (cards_needed rules) (cards_in_decks rules) then Some TooManyCards else None

-- the board that the seed deals
unfoldable pub seed_board : RuleParts → ℕ → Board
seed_board rules seed = board_of_deck rules (shuffled_deck rules seed)
