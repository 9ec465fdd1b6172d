-- What the places of a board give.
use Rattle.std.proofs.Common.{◌≡◌, ℕ, ◌+◌, ◌-◌, ◌<◌, ◌≤◌, Bool, true, false, ◌&&◌, List, [], ◌∷◌, length, refl, ap, sym}
use Rattle.std.proofs.Common.{◌∙◌, arith}
use Rattle.std.specs.Prelude.{IsTrue, Option, Some, None, is_some, nat_lt, nat_le, ◌==◌, slice_get}
use Rattle.std.specs.Option.{option_to_list}
use Rattle.std.proofs.lemmas.Bool.{and_from, le-leb, ltb-true}
use Rattle.card_piles.specs.declared.Card.{Card}
use Rattle.game_rules.specs.declared.RuleParts.{RuleParts}
use Rattle.game_rules.specs.declared.Place.{Place}
use Rattle.game_rules.specs.declared.Place.TheVariants.{Tableau, Cell, Reserve}
use Rattle.game_rules.specs.Board.{Board, Pile, pile_at, has_place, top_of, top_part}
use Rattle.game_rules.specs.Taking.{can_take, taken, single_at, pile_gives, is_run}
use Rattle.game_rules.specs.Belonging.{Belongs, holds}
use Rattle.game_rules.proofs.ListFacts.{drop_last}
use Rattle.safe_moves.proofs.SafeFacts.{face_up}
use Rattle.safe_foundation.specs.Giving.{gives}

-- an entry gives the card that it holds
first-of_entry : (entry : Option Card) → slice_get (option_to_list entry) 0 ≡ entry
first-of_entry None = refl
first-of_entry (Some card) = refl

entry-gives : (here : Bool) (card : Card) (entry : Option Card) → here ≡ true
    → (here && is_some entry && holds card (slice_get (option_to_list entry) 0)) ≡ holds card entry
entry-gives true card None h = refl
entry-gives true card (Some other) h = refl
entry-gives false card entry h = cc

pub gives-cell : (rules : RuleParts) (board : Board) (card : Card) (i : ℕ) → IsTrue (has_place rules board (Cell i))
    → gives rules board card (Cell i) ≡ holds card (single_at rules board (Cell i))
gives-cell rules board card i here = entry-gives (has_place rules board (Cell i)) card
    (single_at rules board (Cell i)) here

pub gives-entry : (rules : RuleParts) (board : Board) (card : Card) (i : ℕ) → IsTrue (has_place rules board (Reserve i))
    → gives rules board card (Reserve i) ≡ holds card (single_at rules board (Reserve i))
gives-entry rules board card i here = entry-gives (has_place rules board (Reserve i)) card
    (single_at rules board (Reserve i)) here

-- a pile gives its top
and-false : (b : Bool) → (b && false) ≡ false
and-false true = refl
and-false false = refl

single_run : (rules : RuleParts) (entry : Option Card) → is_run rules (option_to_list entry) ≡ true
single_run rules None = refl
single_run rules (Some card) = refl

pile_gives-one : (rules : RuleParts) (pile : Pile) → pile.face_down ≤ length pile.cards - 1 → 0 < length pile.cards
    → pile_gives rules pile 1 ≡ true
pile_gives-one rules pile up some =
    let enough : nat_le (pile.face_down + 1) (length pile.cards) ≡ true = le-leb _ _ (omega (arith, up, some)) in
    and_from _ _ (and_from _ _ (and_from (nat_lt 0 1) _ refl enough) refl)
    (ap (is_run rules) (drop_last pile.cards) ∙ single_run rules (top_of pile.cards))

top-gives : (rules : RuleParts) (cards : List Card) (down : ℕ) (card : Card) → down ≤ length cards - 1
    → (pile_gives rules (record { cards = cards; face_down = down }) 1 && holds card (slice_get (top_part 1 cards) 0))
    ≡ holds card (top_of cards)
top-gives rules [] down card up = and-false (pile_gives rules (record { cards = []; face_down = down }) 1)
top-gives rules (x ∷ xs) down card up =
    let held : Bool = holds card (slice_get (top_part 1 (x ∷ xs)) 0) in
    ap (λ (b : Bool). b && held) (pile_gives-one rules (record { cards = x ∷ xs; face_down = down }) up (omega arith))
    ∙ ap (λ (cards : List Card). holds card (slice_get cards 0)) (drop_last (x ∷ xs))
    ∙ ap (holds card) (first-of_entry (top_of (x ∷ xs)))

where_it_is : (here takes held : Bool) → here ≡ true → (here && takes && held) ≡ (takes && held)
where_it_is true takes held h = refl
where_it_is false takes held h = cc

pub gives-pile : (rules : RuleParts) (board : Board) (card : Card) (i : ℕ) → Belongs rules board
    → IsTrue (has_place rules board (Tableau i))
    → gives rules board card (Tableau i) ≡ holds card (top_of (pile_at board i).cards)
gives-pile rules board card i belongs here =
    let pile : Pile = pile_at board i in
    where_it_is (has_place rules board (Tableau i)) (pile_gives rules pile 1)
    (holds card (slice_get (top_part 1 pile.cards) 0)) here
    ∙ top-gives rules pile.cards pile.face_down card (face_up rules board i belongs here)

-- a place that the board does not have gives nothing
nowhere : (here takes held : Bool) → here ≡ false → (here && takes && held) ≡ false
nowhere true takes held h = cc
nowhere false takes held h = refl

pub gives-nowhere : (rules : RuleParts) (board : Board) (card : Card) (from : Place)
    → has_place rules board from ≡ false
    → gives rules board card from ≡ false
gives-nowhere rules board card from h =
    nowhere (has_place rules board from) (can_take rules board from 1)
    (holds card (slice_get (taken rules board from 1) 0)) h
