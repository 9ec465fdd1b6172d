-- The card that a foundation takes next, and the places that give a card.
use Rattle.std.specs.Prelude.{◌≡◌, ℕ, ◌<◌, Bool, true, false, ◌&&◌, nat_lt, IsTrue, Option, Some, None, MatchOption}
use Rattle.std.specs.Prelude.{slice_get, if◌then◌else◌}
use Rattle.card_piles.specs.declared.Card.{Card}
use Rattle.game_rules.specs.declared.RuleParts.{RuleParts}
use Rattle.game_rules.specs.declared.Place.{Place}
use Rattle.game_rules.specs.Board.{Board, foundation_card, has_place, height_at}
use Rattle.game_rules.specs.Taking.{can_take, taken}
use Rattle.game_rules.specs.Belonging.{holds}
use Rattle.game_rules.specs.Before.{is_place_before, source_rank}
use Rattle.safe_moves.specs.Safe.{gives_safely, is_not_needed}

-- the card that a foundation of this height takes next, unless it is full
abbrev pub next_card : RuleParts → ℕ → ℕ → Option Card
next_card rules f height = if nat_lt height rules.max_rank then Some (foundation_card rules f height) else None

-- the card, if there is one and no other can still need it
abbrev pub unneeded : RuleParts → Board → Option Card → Option Card
unneeded rules board None = None
unneeded rules board (Some card) = if is_not_needed rules board card then Some card else None

-- the card that a foundation takes next, if no other can still need it
abbrev pub free_card : RuleParts → Board → ℕ → Option Card
free_card rules board f = unneeded rules board (next_card rules f (height_at board f))

-- whether the card can be taken alone from the place
abbrev pub gives : RuleParts → Board → Card → Place → Bool
gives rules board card from =
    has_place rules board from && can_take rules board from 1 && holds card (slice_get (taken rules board from 1) 0)

-- the least number that passes the test, if one does
abbrev pub IsLeast : (ℕ → Bool) → Option ℕ → Type 0
IsLeast test found =
    MatchOption found ((k : ℕ) → test k ≡ false) (λ i. (test i ≡ true) × ((k : ℕ) → k < i → test k ≡ false))

-- the place gives the card to be forced, and no such place stands before it
pub record IsFirstPlace (rules : RuleParts) (board : Board) (card : Card) (from : Place) : Type 0 where
  pub safely : IsTrue (gives_safely from)
  pub here : gives rules board card from ≡ true
  pub first : (p : Place) → IsTrue (gives_safely p) → IsTrue (is_place_before source_rank p from)
      → gives rules board card p ≡ false

-- the first place that gives the card to be forced, if one does
abbrev pub IsFirstGiving : RuleParts → Board → Card → Option Place → Type 0
IsFirstGiving rules board card found =
    MatchOption found ((p : Place) → IsTrue (gives_safely p) → gives rules board card p ≡ false)
    (IsFirstPlace rules board card)

-- the first place that gives the card which a foundation takes next, if that card is not needed
abbrev pub IsFirstOnto : RuleParts → Board → ℕ → Option Place → Type 0
IsFirstOnto rules board f found =
    MatchOption (free_card rules board f) (found ≡ None) (λ card. IsFirstGiving rules board card found)
