-- The first place that gives a card, from the first of each kind.
use Rattle.std.proofs.Common.{inl, inr, ◌≡◌, ℕ, ◌<◌, ◌≤◌, Bool, true, false, ◌&&◌, ◌||◌, length, refl, ap, sym}
use Rattle.std.proofs.Common.{◌∙◌, arith}
use Rattle.std.specs.Prelude.{IsTrue, Option, Some, None, nat_lt, ◌==◌, if◌then◌else◌}
use Rattle.std.proofs.lemmas.Bool.{cases_lt, eqb-true, lt-ltb}
use Rattle.std.proofs.lemmas.Bool.Decides.{nat_tests}
use Rattle.card_piles.specs.declared.Card.{Card}
use Rattle.game_rules.specs.declared.RuleParts.{RuleParts}
use Rattle.game_rules.specs.declared.Place.{Place}
use Rattle.game_rules.specs.declared.Place.TheVariants.{Tableau, Cell, Reserve, Waste, Foundation, Hole, Slot}
use Rattle.game_rules.specs.Board.{Board, has_place}
use Rattle.game_rules.specs.Belonging.{Belongs}
use Rattle.game_rules.specs.Before.{is_place_before, source_rank}
use Rattle.safe_moves.specs.Safe.{gives_safely}
use Rattle.safe_foundation.specs.Giving.{gives, IsLeast, IsFirstPlace}

-- a test that fails below a number and from it on fails
pub never : (test : ℕ → Bool) (n : ℕ) → ((k : ℕ) → k < n → test k ≡ false) → ((k : ℕ) → n ≤ k → test k ≡ false)
    → (k : ℕ) → test k ≡ false
never test n below past k = elim (cases_lt k n) [ inl lower ↦ below k lower | inr higher ↦ past k higher ]

-- the places that the board does not have
past-count : (k n : ℕ) → n ≤ k → nat_lt k n ≡ false
past-count k n h = grind (arith, nat_tests, h)

pub no_pile : (rules : RuleParts) (board : Board) (k : ℕ) → Belongs rules board → rules.piles ≤ k
    → has_place rules board (Tableau k) ≡ false
no_pile rules board k belongs h = (let n = belongs.piles in past-count k (length board.piles) (omega (arith, n, h)))

pub no_cell : (rules : RuleParts) (board : Board) (k : ℕ) → Belongs rules board → rules.cells ≤ k
    → has_place rules board (Cell k) ≡ false
no_cell rules board k belongs h = (let n = belongs.cells in past-count k (length board.cells) (omega (arith, n, h)))

entry-past : (stacked filled : Bool) (size count k : ℕ) → IsTrue (if stacked then filled else size == count)
    → (if stacked then 1 else count) ≤ k
    → (if stacked then k == 0 else nat_lt k size) ≡ false
entry-past true filled size count k h past = grind (arith, nat_tests, past)
entry-past false filled size count k h past =
    (let same = eqb-true size count h in past-count k size (omega (arith, same, past)))

pub no_entry : (rules : RuleParts) (board : Board) (k : ℕ) → Belongs rules board
    → (if rules.stacked then 1 else rules.reserve) ≤ k
    → has_place rules board (Reserve k) ≡ false
no_entry rules board k belongs past = entry-past rules.stacked _
    (length board.reserve) rules.reserve k belongs.reserve_filled past

-- and those that it has
pub a_pile : (rules : RuleParts) (board : Board) (k : ℕ) → Belongs rules board → k < rules.piles
    → IsTrue (has_place rules board (Tableau k))
a_pile rules board k belongs h = (let n = belongs.piles in lt-ltb k (length board.piles) (omega (arith, n, h)))

pub a_cell : (rules : RuleParts) (board : Board) (k : ℕ) → Belongs rules board → k < rules.cells
    → IsTrue (has_place rules board (Cell k))
a_cell rules board k belongs h = (let n = belongs.cells in lt-ltb k (length board.cells) (omega (arith, n, h)))

entry-here : (stacked filled : Bool) (size count k : ℕ) → IsTrue (if stacked then filled else size == count)
    → k < (if stacked then 1 else count)
    → IsTrue (if stacked then k == 0 else nat_lt k size)
entry-here true filled size count k h here = grind (arith, nat_tests, here)
entry-here false filled size count k h here =
    (let same = eqb-true size count h in lt-ltb k size (omega (arith, same, here)))

pub an_entry : (rules : RuleParts) (board : Board) (k : ℕ) → Belongs rules board
    → k < (if rules.stacked then 1 else rules.reserve)
    → IsTrue (has_place rules board (Reserve k))
an_entry rules board k belongs here = entry-here rules.stacked _
    (length board.reserve) rules.reserve k belongs.reserve_filled here

-- a place of the same kind that stands before
before-same_kind : (rank k i : ℕ) → IsTrue (nat_lt rank rank || ((rank == rank) && nat_lt k i)) → k < i
before-same_kind rank k i h = grind (arith, nat_tests, h)

-- what holds of piles, cells and entries of the reserve holds of each place that gives safely
by_place : (P : Place → Type 0) → ((k : ℕ) → P (Tableau k)) → ((k : ℕ) → P (Cell k)) → ((k : ℕ) → P (Reserve k))
    → (p : Place) → IsTrue (gives_safely p) → P p
by_place P piles cells entries (Tableau k) safely = piles k
by_place P piles cells entries (Cell k) safely = cells k
by_place P piles cells entries (Reserve k) safely = entries k
by_place P piles cells entries p safely = absurd (grind (arith, safely))

-- the first place of all, from the first of each kind
pub first-pile : (rules : RuleParts) (board : Board) (card : Card) (i : ℕ)
    → IsLeast (λ i. gives rules board card (Tableau i)) (Some i)
    → IsFirstPlace rules board card (Tableau i)
first-pile rules board card i least = record {
  safely = refl;
  here = least.0;
  first = by_place (λ p. is_place_before source_rank p (Tableau i) ≡ true → gives rules board card p ≡ false)
      (λ k h. least.1 k (before-same_kind 0 k i h)) (λ k h. absurd (grind (arith, h)))
      (λ k h. absurd (grind (arith, h)));
}

pub first-cell : (rules : RuleParts) (board : Board) (card : Card) (i : ℕ)
    → ((k : ℕ) → gives rules board card (Tableau k) ≡ false)
    → IsLeast (λ i. gives rules board card (Cell i)) (Some i) → IsFirstPlace rules board card (Cell i)
first-cell rules board card i piles least = record {
  safely = refl;
  here = least.0;
  first = by_place (λ p. is_place_before source_rank p (Cell i) ≡ true → gives rules board card p ≡ false)
      (λ k h. piles k) (λ k h. least.1 k (before-same_kind 1 k i h)) (λ k h. absurd (grind (arith, h)));
}

pub first-entry : (rules : RuleParts) (board : Board) (card : Card) (i : ℕ)
    → ((k : ℕ) → gives rules board card (Tableau k) ≡ false)
    → ((k : ℕ) → gives rules board card (Cell k) ≡ false)
    → IsLeast (λ i. gives rules board card (Reserve i)) (Some i) → IsFirstPlace rules board card (Reserve i)
first-entry rules board card i piles cells least = record {
  safely = refl;
  here = least.0;
  first = by_place (λ p. is_place_before source_rank p (Reserve i) ≡ true → gives rules board card p ≡ false)
      (λ k h. piles k) (λ k h. cells k) (λ k h. least.1 k (before-same_kind 2 k i h));
}

pub first-none : (rules : RuleParts) (board : Board) (card : Card)
    → ((k : ℕ) → gives rules board card (Tableau k) ≡ false)
    → ((k : ℕ) → gives rules board card (Cell k) ≡ false) → ((k : ℕ) → gives rules board card (Reserve k) ≡ false)
    → (p : Place) → IsTrue (gives_safely p) → gives rules board card p ≡ false
first-none rules board card piles cells entries = by_place (λ p. gives rules board card p ≡ false) piles cells entries
