-- The ranks of the cards on a board. What the program promises does not rest on this page.
use Rattle.std.specs.Prelude.{List, Option, IfSome}
use Rattle.std.specs.List.{All}
use Rattle.card_piles.specs.declared.Card.{Card}
use Rattle.card_piles.specs.Ranks.{IsRank}
use Rattle.game_rules.specs.Board.{Board}

-- each card has one of the thirteen ranks, as every card of the program has
abbrev pub AreCards : List Card → Type 0
AreCards cards = All (λ card. IsRank card.rank) cards

-- each card of the entries has one of the thirteen ranks
abbrev pub AreEntries : List (Option Card) → Type 0
AreEntries entries = All (λ entry. IfSome entry (λ card. IsRank card.rank)) entries

-- each card that lies somewhere on the board has one of the thirteen ranks
pub record HasRanks (board : Board) : Type 0 where
  pub piles : All (λ pile. AreCards pile.cards) board.piles
  pub cells : AreEntries board.cells
  pub reserve : AreEntries board.reserve
  pub stock : AreCards board.stock
  pub waste : AreCards board.waste
  pub hole : AreCards board.hole
  pub slots : AreEntries board.slots
