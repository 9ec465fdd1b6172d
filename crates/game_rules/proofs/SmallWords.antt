-- Words for small games: cards, rules with nothing beside piles and foundations, and boards of them.
use Rattle.std.proofs.Common.{ℕ, false, List, []}
use Rattle.card_piles.specs.declared.Card.{Card}
use Rattle.card_piles.specs.declared.Suit.{Suit}
use Rattle.card_piles.specs.declared.Suit.TheVariants.{Clubs, Diamonds, Hearts, Spades}
use Rattle.card_piles.specs.declared.Build.TheVariants.{NoBuild}
use Rattle.game_rules.specs.declared.RuleParts.{RuleParts}
use Rattle.game_rules.specs.declared.Layout.TheVariants.{Even}
use Rattle.game_rules.specs.declared.Face.TheVariants.{AllUp}
use Rattle.game_rules.specs.declared.Groups.TheVariants.{One}
use Rattle.game_rules.specs.declared.Spaces.TheVariants.{Any}
use Rattle.game_rules.specs.declared.Target.TheVariants.{ToWaste}
use Rattle.game_rules.specs.declared.Redeals.TheVariants.{Times}
use Rattle.game_rules.specs.declared.Goal.TheVariants.{Foundations}
use Rattle.game_rules.specs.declared.Move.{Move}
use Rattle.game_rules.specs.declared.Move.TheVariants.{Carry}
use Rattle.game_rules.specs.declared.Place.{Place}
use Rattle.game_rules.specs.Board.{Board, Pile}

-- cards by their suit and rank
abbrev pub card : Suit → ℕ → Card
card suit rank = record { suit = suit; rank = rank }

abbrev pub club : ℕ → Card
club r = card Clubs r

abbrev pub diamond : ℕ → Card
diamond r = card Diamonds r

abbrev pub heart : ℕ → Card
heart r = card Hearts r

abbrev pub spade : ℕ → Card
spade r = card Spades r

-- so many ranks and piles, and foundations from the ace; nothing builds, and any card fills a space
abbrev pub plain : ℕ → ℕ → RuleParts
plain max_rank piles = record {
  decks = 1;
  max_rank = max_rank;
  piles = piles;
  layout = Even;
  face = AllUp;
  build = NoBuild;
  wrap = false;
  groups = One;
  group_build = NoBuild;
  spaces = Any;
  goal = Foundations 1 false false false;
  cells = 0;
  cells_filled = 0;
  reserve = 0;
  stacked = false;
  stock = 0;
  target = ToWaste;
  draw = 1;
  redeals = Times 0;
}

-- a board of piles and foundations, and nothing else
abbrev pub board_of : List Pile → List ℕ → Board
board_of piles heights = record {
  piles = piles;
  cells = [];
  reserve = [];
  stock = [];
  waste = [];
  redeals_left = 0;
  heights = heights;
  hole = [];
  slots = [];
}

-- a pile of cards that all lie face up
abbrev pub up : List Card → Pile
up cards = record { cards = cards; face_down = 0 }

-- one card goes from a place to another
abbrev pub go : Place → Place → Move
go from to = Carry from to 1
