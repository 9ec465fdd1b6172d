-- The first safe move by foundations and places: the card that is next on a foundation and that no card can still need,
-- from the first place that gives it.
use Rattle.std.proofs.Common.{inl, inr, ◌≡◌, ℕ, ◌+◌, ◌<◌, ◌≤◌, Bool, true, false, ◌&&◌, ◌||◌, List, [], ◌∷◌, length}
use Rattle.std.proofs.Common.{refl, ap, sym, ◌∙◌, subst, arith, eq-eqb}
use Rattle.std.specs.Prelude.{IsTrue, not, Option, Some, None, MatchOption, nat_lt, ◌%◌, ◌==◌, slice_get, if◌then◌else◌}
use Rattle.std.specs.List.{list_all}
use Rattle.std.proofs.lemmas.Bool.{cases_Bool, cond-true, cond-false, eqb-true, ltb-true, lt-ltb, and_from, or_cases}
use Rattle.std.proofs.lemmas.Bool.Decides.{nat_tests}
use Rattle.card_piles.specs.declared.Card.{Card}
use Rattle.card_piles.specs.declared.Suit.{Suit}
use Rattle.card_piles.specs.Cards.{place_of}
use Rattle.game_rules.specs.declared.RuleParts.{RuleParts}
use Rattle.game_rules.specs.declared.Move.{Move}
use Rattle.game_rules.specs.declared.Move.TheVariants.{Carry, Deal, Redeal}
use Rattle.game_rules.specs.declared.Place.{Place}
use Rattle.game_rules.specs.declared.Place.TheVariants.{Tableau, Cell, Reserve, Waste, Foundation, Hole, Slot}
use Rattle.game_rules.specs.Rules.{takes_complete_runs, foundation_suit, foundation_rank}
use Rattle.game_rules.specs.Playable.{HasLimits}
use Rattle.game_rules.specs.Board.{Board, height_at, has_place, suit_at, foundation_card}
use Rattle.game_rules.specs.Taking.{can_take, taken}
use Rattle.game_rules.specs.Putting.{can_put, is_next_on, is_complete_run}
use Rattle.game_rules.specs.Play.{same_place, is_legal_move}
use Rattle.game_rules.specs.Before.{Before, is_place_before, source_rank}
use Rattle.game_rules.specs.Belonging.{holds, same_card}
use Rattle.game_rules.proofs.Limits.{both}
use Rattle.game_rules.proofs.Rooms.{suit-at_place, card-by_parts}
use Rattle.safe_moves.specs.Safe.{rules_allow, gives_safely, is_foundation, is_not_needed, is_safe, first_safe}
use Rattle.safe_moves.proofs.SafeFacts.{Allowed, allowed, SafeFacts}
use Rattle.safe_moves.proofs.SafeExchange.{sending_home, no_foundation, one_taken, same_cards}
use Rattle.safe_moves.proofs.HomePlace.{place-of_suit}
use Rattle.safe_moves.proofs.FirstSafe.{first_safe-found, first_safe-none}
use Rattle.safe_foundation.specs.Giving.{next_card, unneeded, free_card, gives, IsFirstPlace}
use Rattle.safe_foundation.specs.Giving.{IsFirstGiving, IsFirstOnto}

-- the card that is next
next-card : (rules : RuleParts) (f height : ℕ) (c : Card) → IsTrue (is_next_on rules f height c)
    → next_card rules f height ≡ Some c
next-card rules f height c h =
    let ranks = both (nat_lt height rules.max_rank && (place_of c.suit == foundation_suit f))
    (c.rank == foundation_rank rules height) h in
    let suits = both (nat_lt height rules.max_rank) (place_of c.suit == foundation_suit f) ranks.0 in
    let suit : c.suit ≡ suit_at (foundation_suit f) = suit-at_place c.suit (foundation_suit f) (eqb-true _ _ suits.1) in
    cond-true (nat_lt height rules.max_rank) (Some (foundation_card rules f height)) None suits.0
    ∙ ap Some
    (sym (card-by_parts c (suit_at (foundation_suit f)) (foundation_rank rules height) suit (eqb-true _ _ ranks.1)))

card-is_next : (rules : RuleParts) (f height : ℕ) (c : Card) → next_card rules f height ≡ Some c
    → IsTrue (is_next_on rules f height c)
card-is_next rules f height c h =
    elim (cases_Bool (nat_lt height rules.max_rank)) [
      | inl room ↦ (
          let e = cond-true (nat_lt height rules.max_rank) (Some (foundation_card rules f height)) None room in
          let same : foundation_card rules f height ≡ c = cc in
          let suit : place_of (suit_at (foundation_suit f)) ≡ foundation_suit f = place-of_suit (f % 4) (omega arith) in
          subst (λ (c : Card). IsTrue (is_next_on rules f height c)) same
          (and_from _ _ (and_from _ _ room (eq-eqb _ _ suit))
          (eq-eqb (foundation_rank rules height) (foundation_rank rules height) refl)))
      | inr full ↦
          (let e = cond-false (nat_lt height rules.max_rank) (Some (foundation_card rules f height)) None full in cc)
    ]

-- the card that is next and not needed
pub free-card : (rules : RuleParts) (board : Board) (f : ℕ) (c : Card)
    → IsTrue (is_next_on rules f (height_at board f) c)
    → IsTrue (is_not_needed rules board c) → free_card rules board f ≡ Some c
free-card rules board f c next free =
    ap (unneeded rules board) (next-card rules f (height_at board f) c next)
    ∙ cond-true (is_not_needed rules board c) (Some c) None free

record IsFree (rules : RuleParts) (board : Board) (f : ℕ) (c : Card) : Type 0 where
  next : IsTrue (is_next_on rules f (height_at board f) c)
  free : IsTrue (is_not_needed rules board c)

kept_card : (rules : RuleParts) (board : Board) (card : Option Card) (c : Card) → unneeded rules board card ≡ Some c
    → (card ≡ Some c) × IsTrue (is_not_needed rules board c)
kept_card rules board None c h = cc
kept_card rules board (Some d) c h =
    elim (cases_Bool (is_not_needed rules board d)) [
      | inl free ↦ (
          let e = cond-true (is_not_needed rules board d) (Some d) None free in
          let same : d ≡ c = cc in
          (ap Some same, subst (λ (c : Card). IsTrue (is_not_needed rules board c)) same free))
      | inr needed ↦ (let e = cond-false (is_not_needed rules board d) (Some d) None needed in cc)
    ]

card-is_free : (rules : RuleParts) (board : Board) (f : ℕ) (c : Card) → free_card rules board f ≡ Some c
    → IsFree rules board f c
card-is_free rules board f c h =
    let kept = kept_card rules board (next_card rules f (height_at board f)) c h in
    record { next = card-is_next rules f (height_at board f) c kept.0; free = kept.1 }

-- a place that gives the card gives it alone
holds-same : (a b : Card) → IsTrue (same_card a b) → b ≡ a
holds-same a b h =
    let parts = both (place_of a.suit == place_of b.suit) (a.rank == b.rank) h in
    same_cards b a (sym (eqb-true _ _ parts.0)) (sym (eqb-true _ _ parts.1))

holds-itself : (c : Card) → same_card c c ≡ true
holds-itself c = and_from _ _ (eq-eqb (place_of c.suit) (place_of c.suit) refl) (eq-eqb c.rank c.rank refl)

record Gives (rules : RuleParts) (board : Board) (c : Card) (from : Place) : Type 0 where
  place : IsTrue (has_place rules board from)
  takes : IsTrue (can_take rules board from 1)
  card : taken rules board from 1 ≡ c ∷ []

gives-facts : (rules : RuleParts) (board : Board) (c : Card) (from : Place) → IsTrue (gives_safely from)
    → gives rules board c from ≡ true
    → Gives rules board c from
gives-facts rules board c from safely h =
    let held = both (has_place rules board from && can_take rules board from 1)
    (holds c (slice_get (taken rules board from 1) 0)) h in
    let parts = both (has_place rules board from) (can_take rules board from 1) held.0 in
    let one = one_taken rules board from safely parts.1 in
    let same : IsTrue (same_card c one.c) =
    subst (λ (cards : List Card). IsTrue (holds c (slice_get cards 0))) one.is held.1 in
    record { place = parts.0; takes = parts.1; card = one.is ∙ ap (λ (d : Card). d ∷ []) (holds-same c one.c same) }

facts-give : (rules : RuleParts) (board : Board) (c : Card) (from : Place) → Gives rules board c from
    → gives rules board c from ≡ true
facts-give rules board c from facts =
    and_from _ _ (and_from _ _ facts.place facts.takes)
    (ap (λ (cards : List Card). holds c (slice_get cards 0)) facts.card ∙ holds-itself c)

-- such a move is safe
not_there : (from : Place) (f : ℕ) → IsTrue (gives_safely from) → same_place from (Foundation f) ≡ false
not_there (Tableau i) f h = refl
not_there (Cell i) f h = refl
not_there (Reserve i) f h = refl
not_there Waste f h = refl
not_there (Foundation g) f h = absurd (grind (arith, h))
not_there Hole f h = refl
not_there (Slot i) f h = refl

not_false : (b : Bool) → b ≡ false → IsTrue (not b)
not_false true h = cc
not_false false h = refl

single : (runs a b : Bool) → runs ≡ false → IsTrue b → IsTrue (if runs then a else b)
single true a b off h = cc
single false a b off h = h

safe-from_facts : (rules : RuleParts) (board : Board) (from : Place) (f : ℕ) (c : Card)
    → IsTrue (rules_allow rules) → HasLimits rules
    → IsTrue (gives_safely from) → Gives rules board c from → f < length board.heights → IsFree rules board f c
    → IsTrue (is_safe rules board (Carry from (Foundation f) 1))
safe-from_facts rules board from f c allow limits safely gives here free =
    let allows = allowed rules limits allow in
    let puts : IsTrue (can_put rules board (Foundation f) (c ∷ []))
    = single (takes_complete_runs rules.goal) (is_complete_run rules f (height_at board f) (c ∷ []))
    (is_next_on rules f (height_at board f) c) allows.single free.next in
    let legal : IsTrue (is_legal_move rules board (Carry from (Foundation f) 1))
    = and_from _ _ (and_from _ _
    (and_from _ _ (and_from _ _ gives.place (lt-ltb _ _ here)) (not_false _ (not_there from f safely))) gives.takes)
    (subst (λ (cards : List Card). IsTrue (can_put rules board (Foundation f) cards)) (sym gives.card) puts) in
    let needed : IsTrue (list_all (is_not_needed rules board) (c ∷ [])) = and_from _ _ free.free refl in
    and_from _ _ (and_from _ _ (and_from _ _ (and_from _ _ (and_from _ _ allow legal) refl) safely) refl)
    (subst (λ (cards : List Card). IsTrue (list_all (is_not_needed rules board) cards)) (sym gives.card) needed)

-- no safe move goes to the foundation
abbrev pub NoSafeOnto : RuleParts → Board → ℕ → Type 0
NoSafeOnto rules board f = (from : Place) (count : ℕ)
    → IsTrue (is_safe rules board (Carry from (Foundation f) count)) → ⊥

pub no_safe-not_free : (rules : RuleParts) (board : Board) (f : ℕ) → HasLimits rules → free_card rules board f ≡ None
    → NoSafeOnto rules board f
no_safe-not_free rules board f limits none from count safe =
    let sends = sending_home rules board from f count safe in
    let facts = sends.safe limits in
    let free = free-card rules board f sends.c facts.next facts.free in
    cc

-- a safe move carries the card that is free from a place that gives it
safe-gives : (rules : RuleParts) (board : Board) (from : Place) (f count : ℕ) (c : Card) → HasLimits rules
    → free_card rules board f ≡ Some c
    → IsTrue (is_safe rules board (Carry from (Foundation f) count)) → IsTrue (gives_safely from)
    × (gives rules board c from ≡ true)
safe-gives rules board from f count c limits some safe =
    let sends = sending_home rules board from f count safe in
    let facts = sends.safe limits in
    let free = free-card rules board f sends.c facts.next facts.free in
    let same : sends.c ≡ c = cc in (
      facts.gives,
      subst (λ (c : Card). gives rules board c from ≡ true) same
          (facts-give rules board sends.c from
          (record { place = facts.place; takes = facts.takes; card = facts.card })),
    )

pub no_safe-not_given : (rules : RuleParts) (board : Board) (f : ℕ) (c : Card) → HasLimits rules
    → free_card rules board f ≡ Some c
    → ((p : Place) → IsTrue (gives_safely p) → gives rules board c p ≡ false) → NoSafeOnto rules board f
no_safe-not_given rules board f c limits some none from count safe =
    let given = safe-gives rules board from f count c limits some safe in
    let not = none from given.0 in
    cc

-- the first safe move
before_it : (rules : RuleParts) (board : Board) (f g count : ℕ) (c : Card) (from p : Place) → HasLimits rules
    → free_card rules board f ≡ Some c
    → IsFirstPlace rules board c from → ((k : ℕ) → k < f → NoSafeOnto rules board k)
    → IsTrue (is_safe rules board (Carry p (Foundation g) count))
    → Before (Carry p (Foundation g) count) (Carry from (Foundation f) 1) → ⊥
before_it rules board f g count c from p limits some first below safe h =
    elim (or_cases (nat_lt g f) (same_place (Foundation g) (Foundation f)
    && (is_place_before source_rank p from || (same_place p from && nat_lt count 1))) h) [
      | inl lower ↦ below g (ltb-true g f lower) p count safe
      | inr here ↦ (
          let parts = both (same_place (Foundation g) (Foundation f))
          (is_place_before source_rank p from || (same_place p from && nat_lt count 1)) here in
          let same : g ≡ f = eqb-true g f parts.0 in
          let sends = sending_home rules board p g count safe in
          let one = sends.one in
          let safe_here : IsTrue (is_safe rules board (Carry p (Foundation f) count))
          = subst (λ (k : ℕ). IsTrue (is_safe rules board (Carry p (Foundation k) count))) same safe in
          elim (or_cases (is_place_before source_rank p from) (same_place p from && nat_lt count 1) parts.1) [
            | inl earlier ↦ (
                let given = safe-gives rules board p f count c limits some safe_here in
                let not = first.first p given.0 earlier in
                cc)
            | inr fewer ↦ (
                let less = ltb-true count 1 (both (same_place p from) (nat_lt count 1) fewer).1 in
                omega (arith, one, less))
          ])
    ]

pub first_safe-here : (rules : RuleParts) (board : Board) (f : ℕ) (c : Card) (from : Place)
    → IsTrue (rules_allow rules) → HasLimits rules
    → free_card rules board f ≡ Some c → IsFirstPlace rules board c from → f < length board.heights
    → ((k : ℕ) → k < f → NoSafeOnto rules board k) → first_safe rules board ≡ Some (Carry from (Foundation f) 1)
first_safe-here rules board f c from allow limits some first here below =
    first_safe-found rules board (Carry from (Foundation f) 1)
    (safe-from_facts rules board from f c allow limits first.safely
    (gives-facts rules board c from first.safely first.here) here
    (card-is_free rules board f c some))
    (λ other. elim other as
    (λ (other : Move). IsTrue (is_safe rules board other) → Before other (Carry from (Foundation f) 1) → ⊥) [
      | Carry p to count ↦ elim to as (λ (to : Place). IsTrue (is_safe rules board (Carry p to count))
          → Before (Carry p to count) (Carry from (Foundation f) 1) → ⊥) [
            | Tableau i ↦ λ safe h. no_foundation _ _ safe
            | Cell i ↦ λ safe h. no_foundation _ _ safe
            | Reserve i ↦ λ safe h. no_foundation _ _ safe
            | Waste ↦ λ safe h. no_foundation _ _ safe
            | Foundation g ↦ λ safe h. before_it rules board f g count c from p limits some first below safe h
            | Hole ↦ λ safe h. no_foundation _ _ safe
            | Slot i ↦ λ safe h. no_foundation _ _ safe
          ]
      | Deal ↦ λ safe h. grind (arith, safe)
      | Redeal ↦ λ safe h. grind (arith, safe)
    ])

-- the same by the first place that gives the card which is next
onto-none_by : (rules : RuleParts) (board : Board) (f : ℕ) (free : Option Card) (found : Option Place) → HasLimits rules
    → free_card rules board f ≡ free
    → MatchOption free (found ≡ None) (λ card. IsFirstGiving rules board card found) → found ≡ None
    → NoSafeOnto rules board f
onto-none_by rules board f None found limits e h none = no_safe-not_free rules board f limits e
onto-none_by rules board f (Some c) found limits e h none =
    no_safe-not_given rules board f c limits e
    (subst (λ (found : Option Place). IsFirstGiving rules board c found) none h)

pub onto-none : (rules : RuleParts) (board : Board) (f : ℕ) → HasLimits rules → IsFirstOnto rules board f None
    → NoSafeOnto rules board f
onto-none rules board f limits h = onto-none_by rules board f (free_card rules board f) None limits refl h refl

onto-some_by : (rules : RuleParts) (board : Board) (f : ℕ) (from : Place) (free : Option Card)
    → IsTrue (rules_allow rules) → HasLimits rules
    → free_card rules board f ≡ free
    → MatchOption free (Some from ≡ None) (λ card. IsFirstGiving rules board card (Some from))
    → f < length board.heights → ((k : ℕ) → k < f → NoSafeOnto rules board k)
    → first_safe rules board ≡ Some (Carry from (Foundation f) 1)
onto-some_by rules board f from None allow limits e h here below = cc
onto-some_by rules board f from (Some c) allow limits e h here below = first_safe-here rules board f c from allow
    limits e h here below

pub onto-some : (rules : RuleParts) (board : Board) (f : ℕ) (from : Place)
    → IsTrue (rules_allow rules) → HasLimits rules
    → IsFirstOnto rules board f (Some from) → f < length board.heights → ((k : ℕ) → k < f → NoSafeOnto rules board k)
    → first_safe rules board ≡ Some (Carry from (Foundation f) 1)
onto-some rules board f from allow limits h here below =
    onto-some_by rules board f from (free_card rules board f) allow limits refl h here below

-- no safe move
pub first_safe-nowhere : (rules : RuleParts) (board : Board) → HasLimits rules
    → ((k : ℕ) → k < length board.heights → NoSafeOnto rules board k)
    → first_safe rules board ≡ None
first_safe-nowhere rules board limits none =
    first_safe-none rules board
    (λ move. elim move as (λ (move : Move). IsTrue (is_safe rules board move) → ⊥) [
      | Carry p to count ↦ elim to as (λ (to : Place). IsTrue (is_safe rules board (Carry p to count)) → ⊥) [
        | Tableau i ↦ λ safe. no_foundation _ _ safe
        | Cell i ↦ λ safe. no_foundation _ _ safe
        | Reserve i ↦ λ safe. no_foundation _ _ safe
        | Waste ↦ λ safe. no_foundation _ _ safe
        | Foundation f ↦ λ safe. none f (ltb-true f (length board.heights)
            ((sending_home rules board p f count safe).safe limits).home) p count safe
        | Hole ↦ λ safe. no_foundation _ _ safe
        | Slot i ↦ λ safe. no_foundation _ _ safe
      ]
      | Deal ↦ λ safe. grind (arith, safe)
      | Redeal ↦ λ safe. grind (arith, safe)
    ])

pub first_safe-not_allowed : (rules : RuleParts) (board : Board) → HasLimits rules → rules_allow rules ≡ false
    → first_safe rules board ≡ None
first_safe-not_allowed rules board limits not =
    first_safe-nowhere rules board limits
    (λ f here p count safe. (let allow = (sending_home rules board p f count safe).allows in cc))
