-- What the places of a board offer.
use Rattle.std.specs.Prelude.{◌≡◌, ℕ, ◌+◌, true, List, ◌∷◌, map, take, length, slice_get, Option, None, if◌then◌else◌}
use Rattle.std.specs.List.{filter}
use Rattle.card_piles.specs.declared.Card.{Card}
use Rattle.card_piles.specs.Ranks.{IsRank}
use Rattle.card_sets.specs.Sets.{bit_of}
use Rattle.game_rules.specs.declared.RuleParts.{RuleParts}
use Rattle.game_rules.specs.declared.Move.{Move}
use Rattle.game_rules.specs.declared.Move.TheVariants.{Carry}
use Rattle.game_rules.specs.declared.Place.{Place}
use Rattle.game_rules.specs.Board.{Board, Pile, top_part, has_place}
use Rattle.game_rules.specs.Taking.{pile_gives, can_take, taken}
use Rattle.game_rules.specs.Play.{is_legal_move}
use Rattle.legal_moves.specs.declared.offers.Offer.{Offer}

-- the board gives what is offered: the place, so many cards of it, and the bit of the first of them
pub record IsGiven (rules : RuleParts) (board : Board) (offer : Offer) : Type 0 where
  pub here : has_place rules board offer.from ≡ true
  pub can : can_take rules board offer.from offer.count ≡ true
  pub card : Card
  pub rest : List Card
  pub cards : taken rules board offer.from offer.count ≡ card ∷ rest
  pub count : length rest + 1 ≡ offer.count
  pub ranked : IsRank card.rank
  pub bit : offer.bit.place ≡ bit_of card.suit card.rank

-- the move of an offer to a place
abbrev pub carry_of : Place → Offer → Move
carry_of to offer = Carry offer.from to offer.count

-- the legal moves of offers to a place
abbrev pub legal_of : RuleParts → Board → List Offer → Place → List Move
legal_of rules board offers to = filter (is_legal_move rules board) (map (carry_of to) offers)

-- the first of so many cards of a pile, if it gives them
abbrev pub first_given : RuleParts → Pile → ℕ → Option Card
first_given rules pile count = if pile_gives rules pile count then slice_get (top_part count pile.cards) 0 else None

-- the first of so many cards of a place, if it gives them
abbrev pub first_taken : RuleParts → Board → Place → ℕ → Option Card
first_taken rules board from count =
    if can_take rules board from count then slice_get (taken rules board from count) 0 else None

-- the one list begins with the other
abbrev pub StartsWith : {A : Type 0} → List A → List A → Type 0
StartsWith xs start = take (length start) xs ≡ start
