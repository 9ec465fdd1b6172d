-- What is at one place stays when cards are moved at others, and moves at different places may change their order.
use Rattle.std.proofs.Common.{◌≡◌, ◌≢◌, ℕ, ◌+◌, Bool, true, false, ◌&&◌, List, [], ◌∷◌, length, refl, ap, sym, ◌∙◌}
use Rattle.std.proofs.Common.{get_or-set_other, length-set, arith}
use Rattle.std.specs.Prelude.{IsTrue, not, Option, None, is_none, is_some, nat_lt, ◌==◌, slice_set}
use Rattle.std.specs.Prelude.{slice_index_or, if◌then◌else◌}
use Rattle.std.specs.Option.{option_to_list, unwrap_or}
use Rattle.std.proofs.lemmas.List.{set_comm}
use Rattle.std.proofs.lemmas.Bool.Decides.{nat_tests}
use Rattle.card_piles.specs.declared.Card.{Card}
use Rattle.game_rules.specs.declared.RuleParts.{RuleParts}
use Rattle.game_rules.specs.declared.Place.{Place}
use Rattle.game_rules.specs.declared.Place.TheVariants.{Tableau, Cell, Reserve, Waste, Foundation, Hole, Slot}
use Rattle.game_rules.specs.Rules.{takes_complete_runs}
use Rattle.game_rules.specs.Board.{Board, Pile, empty_pile, pile_at, entry_at, height_at, has_place, top_of}
use Rattle.game_rules.specs.Board.{top_part, below_top}
use Rattle.game_rules.specs.Taking.{without, pile_without, pile_gives, single_at, can_take, taken}
use Rattle.game_rules.specs.Putting.{with_cards, can_put, goes_on_pile, is_complete_run, is_next_on}
use Rattle.game_rules.specs.Play.{same_place}
use Rattle.game_rules.proofs.Carrying.{apart_numbers, two_writes}

-- the places that cards are taken from, where foundations give nothing back
abbrev pub is_source : Place → Bool
is_source (Tableau i) = true
is_source (Cell i) = true
is_source (Reserve i) = true
is_source Waste = true
is_source place = false

-- a stacked reserve has one place
abbrev pub are_reserves_apart : RuleParts → Place → Place → Bool
are_reserves_apart rules (Reserve i) (Reserve j) = not rules.stacked
are_reserves_apart rules p q = true

-- the board after a carry, where nothing else moves
abbrev pub carried : RuleParts → Board → Place → Place → ℕ → Board
carried rules board from to count = with_cards (without rules board from count) to (taken rules board from count)

-- two places of which none changes with the other
pub record Apart (rules : RuleParts) (p q : Place) : Type 0 where
  pub places : same_place p q ≡ false
  pub reserves : IsTrue (are_reserves_apart rules p q)

-- what lies at a place is the same on both boards
abbrev pub AgreeAt : RuleParts → Board → Board → Place → Type 0
AgreeAt rules a b (Tableau i) = pile_at a i ≡ pile_at b i
AgreeAt rules a b (Cell i) = entry_at a.cells i ≡ entry_at b.cells i
AgreeAt rules a b (Reserve i) = single_at rules a (Reserve i) ≡ single_at rules b (Reserve i)
AgreeAt rules a b Waste = a.waste ≡ b.waste
AgreeAt rules a b (Foundation f) = height_at a f ≡ height_at b f
AgreeAt rules a b Hole = a.hole ≡ b.hole
AgreeAt rules a b (Slot i) = Unit {0}

pub same_places : (p q : Place) → same_place p q ≡ true → p ≡ q
same_places (Tableau i) (Tableau j) h = ap Tableau (grind (arith, nat_tests, h))
same_places (Cell i) (Cell j) h = ap Cell (grind (arith, nat_tests, h))
same_places (Reserve i) (Reserve j) h = ap Reserve (grind (arith, nat_tests, h))
same_places Waste Waste h = refl
same_places (Foundation i) (Foundation j) h = ap Foundation (grind (arith, nat_tests, h))
same_places Hole Hole h = refl
same_places (Slot i) (Slot j) h = ap Slot (grind (arith, nat_tests, h))
same_places p q h = cc

-- what was at i before a write at j is there after it
kept_other : {A : Type 0} (xs : List A) (i j : ℕ) (x d : A) → (j == i) ≡ false
    → slice_index_or xs i d ≡ slice_index_or (slice_set xs j x) i d
kept_other {A = A} xs i j x d h = sym (get_or-set_other xs j i x d (grind (arith, nat_tests)))

kept_reserve : (stacked : Bool) (xs : List (Option Card)) (i j : ℕ) → IsTrue (not stacked) → (j == i) ≡ false
    → (if stacked then unwrap_or (top_of xs) None else entry_at xs i)
    ≡ (if stacked then unwrap_or (top_of (if stacked then below_top 1 xs else slice_set xs j None)) None
    else entry_at (if stacked then below_top 1 xs else slice_set xs j None) i)
kept_reserve true xs i j h apart = cc
kept_reserve false xs i j h apart = kept_other xs i j None None apart

pub agree-without : (rules : RuleParts) (b : Board) (p q : Place) (k : ℕ) → IsTrue (is_source p) → Apart rules p q
    → AgreeAt rules b (without rules b p k) q
agree-without rules b p (Slot j) k s apart = tt
agree-without rules b (Tableau i) (Tableau j) k s apart = kept_other b.piles j i _ empty_pile apart.places
agree-without rules b (Cell i) (Cell j) k s apart = kept_other b.cells j i _ None apart.places
agree-without rules b (Reserve i) (Reserve j) k s apart = kept_reserve rules.stacked b.reserve j i
    apart.reserves apart.places
agree-without rules b Waste Waste k s apart = absurd (grind (arith, nat_tests, apart.places))
agree-without rules b (Foundation i) q k s apart = absurd (grind (arith, s))
agree-without rules b Hole q k s apart = absurd (grind (arith, s))
agree-without rules b (Slot i) q k s apart = absurd (grind (arith, s))
agree-without rules b p q k s apart = refl

pub agree-with : (rules : RuleParts) (b : Board) (p q : Place) (cards : List Card) → same_place p q ≡ false
    → AgreeAt rules b (with_cards b p cards) q
agree-with rules b p (Slot j) cards apart = tt
agree-with rules b (Tableau i) (Tableau j) cards apart = kept_other b.piles j i _ empty_pile apart
agree-with rules b (Cell i) (Cell j) cards apart = kept_other b.cells j i _ None apart
agree-with rules b (Foundation i) (Foundation j) cards apart = kept_other b.heights j i _ 0 apart
agree-with rules b Hole Hole cards apart = absurd (grind (arith, nat_tests, apart))
agree-with rules b Waste Waste cards apart = refl
agree-with rules b Waste (Tableau j) cards apart = refl
agree-with rules b (Reserve i) (Reserve j) cards apart = refl
agree-with rules b p q cards apart = refl

pub agree-trans : (rules : RuleParts) (a b c : Board) (q : Place) → AgreeAt rules a b q → AgreeAt rules b c q
    → AgreeAt rules a c q
agree-trans rules a b c (Slot i) h k = tt
agree-trans rules a b c q h k = h ∙ k

pub can_take-agree : (rules : RuleParts) (a b : Board) (q : Place) (n : ℕ) → IsTrue (is_source q) → AgreeAt rules a b q
    → can_take rules a q n ≡ can_take rules b q n
can_take-agree rules a b (Tableau i) n s h = ap (λ pile. pile_gives rules pile n) h
can_take-agree rules a b Waste n s h = ap (λ (cards : List Card). (n == 1) && is_some (top_of cards)) h
can_take-agree rules a b (Foundation f) n s h = absurd (grind (arith, s))
can_take-agree rules a b Hole n s h = absurd (grind (arith, s))
can_take-agree rules a b (Slot i) n s h = absurd (grind (arith, s))
can_take-agree rules a b q n s h = ap (λ e. (n == 1) && is_some e) h

pub taken-agree : (rules : RuleParts) (a b : Board) (q : Place) (n : ℕ) → IsTrue (is_source q) → AgreeAt rules a b q
    → taken rules a q n ≡ taken rules b q n
taken-agree rules a b (Tableau i) n s h = ap (λ (pile : Pile). top_part n pile.cards) h
taken-agree rules a b Waste n s h = ap (λ (cards : List Card). option_to_list (top_of cards)) h
taken-agree rules a b (Cell i) n s h = ap option_to_list h
taken-agree rules a b (Reserve i) n s h = ap option_to_list h
taken-agree rules a b q n s h = absurd (grind (arith, s))

-- the places that cards are put on where the goal is foundations
abbrev pub is_target : Place → Bool
is_target (Tableau i) = true
is_target (Cell i) = true
is_target (Foundation f) = true
is_target place = false

pub can_put-agree : (rules : RuleParts) (a b : Board) (q : Place) (cards : List Card) → IsTrue (is_target q)
    → AgreeAt rules a b q
    → can_put rules a q cards ≡ can_put rules b q cards
can_put-agree rules a b q [] s h = refl
can_put-agree rules a b (Tableau i) (card ∷ cards) s h =
    ap (λ (pile : Pile). goes_on_pile rules (top_of pile.cards) card) h
can_put-agree rules a b (Cell i) (card ∷ cards) s h = ap (λ e. (length cards == 0) && is_none e) h
can_put-agree rules a b (Foundation f) (card ∷ cards) s h =
    ap (λ (n : ℕ). if takes_complete_runs rules.goal then is_complete_run rules f n (card ∷ cards)
    else (length cards == 0) && is_next_on rules f n card) h
can_put-agree rules a b q (card ∷ cards) s h = absurd (grind (arith, s))

-- a board has the same places before and after a move
place_reserve : (stacked : Bool) (xs : List (Option Card)) (i j : ℕ)
    → (if stacked then j == 0 else nat_lt j (length (if stacked then below_top 1 xs else slice_set xs i None)))
    ≡ (if stacked then j == 0 else nat_lt j (length xs))
place_reserve true xs i j = refl
place_reserve false xs i j = ap (λ (n : ℕ). nat_lt j n) (length-set xs i None)

pub place-without : (rules : RuleParts) (b : Board) (p q : Place) (k : ℕ) → IsTrue (is_source p)
    → has_place rules (without rules b p k) q ≡ has_place rules b q
place-without rules b (Foundation i) q k s = absurd (grind (arith, s))
place-without rules b Hole q k s = absurd (grind (arith, s))
place-without rules b (Slot i) q k s = absurd (grind (arith, s))
place-without rules b (Tableau i) (Tableau j) k s = ap (λ (n : ℕ). nat_lt j n) (length-set b.piles i _)
place-without rules b (Cell i) (Cell j) k s = ap (λ (n : ℕ). nat_lt j n) (length-set b.cells i None)
place-without rules b (Reserve i) (Reserve j) k s = place_reserve rules.stacked b.reserve i j
place-without rules b Waste (Tableau j) k s = refl
place-without rules b p q k s = refl

pub place-with : (rules : RuleParts) (b : Board) (p q : Place) (cards : List Card) → IsTrue (is_target p)
    → has_place rules (with_cards b p cards) q ≡ has_place rules b q
place-with rules b (Tableau i) (Tableau j) cards s = ap (λ (n : ℕ). nat_lt j n) (length-set b.piles i _)
place-with rules b (Cell i) (Cell j) cards s = ap (λ (n : ℕ). nat_lt j n) (length-set b.cells i _)
place-with rules b (Foundation i) (Foundation j) cards s = ap (λ (n : ℕ). nat_lt j n) (length-set b.heights i _)
place-with rules b (Reserve i) q cards s = absurd (grind (arith, s))
place-with rules b Waste q cards s = absurd (grind (arith, s))
place-with rules b Hole q cards s = absurd (grind (arith, s))
place-with rules b (Slot i) q cards s = absurd (grind (arith, s))
place-with rules b p q cards s = refl

-- two places may be emptied in either order
both_reserves : (stacked : Bool) (xs : List (Option Card)) (i j : ℕ) → IsTrue (not stacked) → (i == j) ≡ false
    → (if stacked then below_top 1 (if stacked then below_top 1 xs else slice_set xs i None)
    else slice_set (if stacked then below_top 1 xs else slice_set xs i None) j None)
    ≡ (if stacked then below_top 1 (if stacked then below_top 1 xs else slice_set xs j None)
    else slice_set (if stacked then below_top 1 xs else slice_set xs j None) i None)
both_reserves true xs i j h apart = cc
both_reserves false xs i j h apart = set_comm xs i j None None (apart_numbers i j apart)

pub without_both : (rules : RuleParts) (b : Board) (p q : Place) (k n : ℕ) → IsTrue (is_source p)
    → IsTrue (is_source q) → Apart rules p q
    → without rules (without rules b p k) q n ≡ without rules (without rules b q n) p k
without_both rules b (Tableau i) (Tableau j) k n s t apart =
    sym (ap (λ (piles : List Pile). record b { piles = piles })
    (two_writes b.piles i j (pile_without k) (pile_without n) empty_pile (apart_numbers i j apart.places)))
without_both rules b (Cell i) (Cell j) k n s t apart =
    ap (λ (cells : List (Option Card)). record b { cells = cells })
    (set_comm b.cells i j None None (apart_numbers i j apart.places))
without_both rules b (Reserve i) (Reserve j) k n s t apart =
    ap (λ (entries : List (Option Card)). record b { reserve = entries })
    (both_reserves rules.stacked b.reserve i j apart.reserves apart.places)
without_both rules b Waste Waste k n s t apart = absurd (grind (arith, nat_tests, apart.places))
without_both rules b (Foundation f) q k n s t apart = absurd (grind (arith, s))
without_both rules b Hole q k n s t apart = absurd (grind (arith, s))
without_both rules b (Slot i) q k n s t apart = absurd (grind (arith, s))
without_both rules b p (Foundation f) k n s t apart = absurd (grind (arith, t))
without_both rules b p Hole k n s t apart = absurd (grind (arith, t))
without_both rules b p (Slot i) k n s t apart = absurd (grind (arith, t))
without_both rules b p q k n s t apart = refl

-- cards may be put on a foundation and on another place in either order
pub home_and_put : (b : Board) (f : ℕ) (q : Place) (cards others : List Card) → same_place (Foundation f) q ≡ false
    → with_cards (with_cards b (Foundation f) cards) q others ≡ with_cards (with_cards b q others) (Foundation f) cards
home_and_put b f (Foundation g) cards others apart =
    sym (ap (λ (heights : List ℕ). record b { heights = heights })
    (two_writes b.heights f g (λ h. h + length cards) (λ h. h + length others) 0 (apart_numbers f g apart)))
home_and_put b f q cards others apart = refl
