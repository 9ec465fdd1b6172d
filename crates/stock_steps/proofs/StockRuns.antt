-- Stock steps along a run of stock moves, and that the bound on their recursion is enough.
use Rattle.std.proofs.Common.{◌≡◌, ◌≢◌, ◌⊎◌, inl, inr, ℕ, zero, suc, ◌+◌, ◌-◌, ◌*◌, ◌<◌, ◌≤◌, Bool, true, false, ◌||◌}
use Rattle.std.proofs.Common.{List, [], ◌∷◌, ◌++◌, length, reverse, refl, ap, sym, ◌∙◌, subst, arith, IsTrue, Some}
use Rattle.std.proofs.Common.{None, nat_lt, if◌then◌else◌, append-nil}
use Rattle.std.proofs.lemmas.List.{length-reverse}
use Rattle.std.proofs.lemmas.Bool.Decides.{nat_tests}
use Rattle.std.specs.List.{list_any}
use Rattle.card_piles.specs.declared.Card.{Card}
use Rattle.game_rules.specs.declared.RuleParts.{RuleParts}
use Rattle.game_rules.specs.Rules.{deals_to_waste, is_unlimited}
use Rattle.game_rules.specs.Board.{Board}
use Rattle.game_rules.specs.Play.{after}
use Rattle.game_rules.specs.StockMoves.{stock_move, after_stock_move, after_stock_moves}
use Rattle.game_rules.specs.NextByStock.{IsNextByStock, queue}
use Rattle.stock_steps.specs.Steps.{same_stock, next_stock_board, stock_steps_after, steps_from}
use Rattle.stock_steps.specs.Steps.{most_stock_moves, waste_carries}
use Rattle.stock_steps.specs.declared.Step.{Step}
use Rattle.game_rules.proofs.StockMoves.{Dealt, HasNext, with_stock, stock_move_cases}
use Rattle.stock_steps.proofs.StockKin.{Kin, Kin-refl, Kin-sym, Kin-trans, Redealt, size, next_cases, next_kin, next_is}
use Rattle.stock_steps.proofs.StockKin.{kin_size, kin_same, same_stock-equal, one_stock_move, dealt_less, dealt_redeals}

-- the board stands in the list
abbrev pub In : Board → List Board → Type 0
In b [] = ⊥
In b (x ∷ xs) = (b ≡ x) ⊎ In b xs

passes_step : (test : Board → Bool) (x : Board) (xs : List Board) (t : Bool) → test x ≡ t
    → IsTrue (t || list_any test xs)
    → (IsTrue (list_any test xs) → (b : Board) × In b xs × IsTrue (test b))
    → (b : Board) × In b (x ∷ xs) × IsTrue (test b)
passes_step test x xs true e h rest = (x, inl refl, e)
passes_step test x xs false e h rest = let found : (b : Board) × In b xs × IsTrue (test b) = rest h in
    (found.0, inr found.1, found.2)

passes_in : (test : Board → Bool) (xs : List Board) → IsTrue (list_any test xs)
    → (b : Board) × In b xs × IsTrue (test b)
passes_in test [] h = cc
passes_in test (x ∷ xs) h = passes_step test x xs (test x) refl h (passes_in test xs)

none_step : (s t : Bool) → (s || t) ≡ false → (s ≡ false) × (t ≡ false)
none_step true t h = cc
none_step false t h = (refl, h)

none_in : (test : Board → Bool) (xs : List Board) → list_any test xs ≡ false → (b : Board) → In b xs → test b ≡ false
none_in test [] h b here = absurd here
none_in test (x ∷ xs) h b here =
    let parts : (test x ≡ false) × (list_any test xs ≡ false) = none_step (test x) (list_any test xs) h in
    let rest : (c : Board) → In c xs → test c ≡ false = none_in test xs parts.1 in
    elim here [ inl e ↦ ap test e ∙ parts.0 | inr there ↦ rest b there ]

-- the next board is one that the list does not have yet
pub record IsFresh (rules : RuleParts) (seen : List Board) (board next : Board) : Type 0 where
  pub is_next : IsNextByStock rules board next
  pub is_new : (b : Board) → In b (board ∷ seen) → next ≢ b

-- no next board, or one that the list has
pub record IsClosed (rules : RuleParts) (seen : List Board) (board : Board) : Type 0 where
  pub ends : next_stock_board rules seen board (stock_move rules board) ≡ None
  pub closed : (next : Board) → IsNextByStock rules board next → In next (board ∷ seen)

pub record GoesOn (rules : RuleParts) (seen : List Board) (board : Board) : Type 0 where
  pub goes_on : next_stock_board rules seen board (stock_move rules board) ≡ Some (after_stock_move rules board)
  pub fresh : IsFresh rules seen board (after_stock_move rules board)

abbrev pub AreKin : List Board → Board → Type 0
AreKin seen board = (b : Board) → In b seen → Kin b board

kin_with : (seen : List Board) (board : Board) → AreKin seen board → AreKin (board ∷ seen) board
kin_with seen board kin b here = elim here [
  | inl e ↦ subst (λ (x : Board). Kin x board) (sym e) (Kin-refl board)
  | inr there ↦ kin b there
]

kin_on : (rules : RuleParts) (seen : List Board) (board : Board) → IsTrue (deals_to_waste rules.target)
    → AreKin seen board
    → (next : Board) → IsNextByStock rules board next → AreKin (board ∷ seen) next
kin_on rules seen board to_waste kin next is_next b here =
    Kin-trans b board next (kin_with seen board kin b here) (next_kin rules board next to_waste is_next)

by_test : (rules : RuleParts) (seen : List Board) (board : Board) → IsTrue (deals_to_waste rules.target)
    → AreKin seen board
    → (next : HasNext rules board) → (t : Bool) → list_any (same_stock (after rules board next.move)) (board ∷ seen) ≡ t
    → IsClosed rules seen board ⊎ GoesOn rules seen board
by_test rules seen board to_waste kin next true e =
    let found : (b : Board) × In b (board ∷ seen) × IsTrue (same_stock (after rules board next.move) b) = passes_in
    (same_stock (after rules board next.move)) (board ∷ seen) e in
    let one : stock_move rules board ≡ Some next.move = next.is_one in
    let test : IsTrue (same_stock (after_stock_move rules board) found.0) =
    subst (λ (x : Board). IsTrue (same_stock x found.0)) (sym next.is_after) found.2 in
    let kin_found : Kin found.0 (after_stock_move rules board) = kin_on rules seen board to_waste kin
    (after_stock_move rules board) next.is_next found.0 found.1 in
    let same : after_stock_move rules board ≡ found.0 =
    kin_same (after_stock_move rules board) found.0 (Kin-sym found.0 (after_stock_move rules board) kin_found) test in
    inl (record {
      ends = rw (one, e);
      closed = λ other is_next.
          subst (λ (x : Board). In x (board ∷ seen)) (sym (next_is rules board other to_waste is_next ∙ same)) found.1;
    })
by_test rules seen board to_waste kin next false e =
    let one : stock_move rules board ≡ Some next.move = next.is_one in
    inr (record {
      goes_on = rw (one, e) (ap (λ (x : Board). Some x) (sym next.is_after));
      fresh = record {
        is_next = next.is_next;
        is_new = λ b here same.
            let passed : IsTrue (same_stock (after rules board next.move) b) =
            same_stock-equal (after rules board next.move) b (sym next.is_after ∙ same) in
            let failed : same_stock (after rules board next.move) b ≡ false =
            none_in (same_stock (after rules board next.move)) (board ∷ seen) e b here in
            cc;
      };
    })

-- either the run ends here, or it goes on to a new board
next_or_end : (rules : RuleParts) (seen : List Board) (board : Board) → IsTrue (deals_to_waste rules.target)
    → AreKin seen board
    → IsClosed rules seen board ⊎ GoesOn rules seen board
next_or_end rules seen board to_waste kin = elim (stock_move_cases rules board to_waste) [
  | inl none ↦ inl (record {
    ends = rw none;
    closed = λ next is_next.
        let one : stock_move rules board ≡ Some is_next.move = one_stock_move rules board is_next.move to_waste
        is_next.is_stock_move is_next.legal in
        cc;
  })
  | inr next ↦ by_test rules seen board to_waste kin next
      (list_any (same_stock (after rules board next.move)) (board ∷ seen)) refl
]

-- the bound is enough: a run that goes on ends before it is used up
abbrev pub Ends : RuleParts → ℕ → List Board → Board → Type 0
Ends rules zero seen board = IsFresh rules seen board (after_stock_move rules board) → ⊥
Ends rules (suc fuel) seen board =
    IsFresh rules seen board (after_stock_move rules board)
    → Ends rules fuel (board ∷ seen) (after_stock_move rules board)

-- the steps after so many stock moves and after each stock move up to the last
abbrev pub steps_along : RuleParts → ℕ → ℕ → Board → List Step
steps_along rules zero deals board = steps_from deals (waste_carries rules board)
steps_along rules (suc last) deals board =
    steps_from deals (waste_carries rules board) ++ steps_along rules last (deals + 1) (after_stock_move rules board)

-- what the list of stock steps goes along
pub record Along (rules : RuleParts) (fuel deals : ℕ) (seen : List Board) (board : Board) : Type 0 where
  pub last : ℕ
  pub short : last ≤ fuel
  pub next : (i : ℕ) → i < last → IsNextByStock rules (after_stock_moves rules i board)
      (after_stock_moves rules (suc i) board)
  pub new : (i : ℕ) → i ≤ last → (b : Board) → In b seen → after_stock_moves rules i board ≢ b
  pub apart : (i j : ℕ) → i < j → j ≤ last → after_stock_moves rules i board ≢ after_stock_moves rules j board
  pub closed : (next : Board) → IsNextByStock rules (after_stock_moves rules last board) next
      → In next seen ⊎ ((i : ℕ) × (i ≤ last) × (after_stock_moves rules i board ≡ next))
  pub is_list : stock_steps_after rules fuel deals seen board ≡ steps_along rules last deals board

stops : (rules : RuleParts) (fuel deals : ℕ) (seen : List Board) (board : Board) → ((b : Board) → In b seen → board ≢ b)
    → IsClosed rules seen board → stock_steps_after rules fuel deals seen board ≡ steps_from deals
    (waste_carries rules board)
    → Along rules fuel deals seen board
stops rules fuel deals seen board new closed is_list = record {
  last = 0;
  short = omega arith;
  next = λ i h. absurd (omega arith);
  new = λ i h b here. let e : i ≡ 0 = omega arith in rw e (new b here);
  apart = λ i j h k. absurd (omega arith);
  closed = λ next is_next. elim (closed.closed next is_next) [
    | inl e ↦ inr (0, omega arith, sym e)
    | inr there ↦ inl there
  ];
  is_list = is_list;
}

goes_next : (rules : RuleParts) (board : Board) (last : ℕ) → IsNextByStock rules board (after_stock_move rules board)
    → ((i : ℕ) → i < last → IsNextByStock rules (after_stock_moves rules i (after_stock_move rules board))
    (after_stock_moves rules (suc i) (after_stock_move rules board)))
    → (i : ℕ) → i < suc last → IsNextByStock rules (after_stock_moves rules i board)
    (after_stock_moves rules (suc i) board)
goes_next rules board last first rest zero h = first
goes_next rules board last first rest (suc i) h = rest i (omega arith)

goes_new : (rules : RuleParts) (seen : List Board) (board : Board) (last : ℕ) → ((b : Board) → In b seen → board ≢ b)
    → ((i : ℕ) → i ≤ last → (b : Board) → In b (board ∷ seen)
    → after_stock_moves rules i (after_stock_move rules board) ≢ b)
    → (i : ℕ) → i ≤ suc last → (b : Board) → In b seen → after_stock_moves rules i board ≢ b
goes_new rules seen board last new rest zero h b here = new b here
goes_new rules seen board last new rest (suc i) h b here = rest i (omega arith) b (inr here)

goes_apart : (rules : RuleParts) (seen : List Board) (board : Board) (last : ℕ)
    → ((i : ℕ) → i ≤ last → (b : Board) → In b (board ∷ seen)
    → after_stock_moves rules i (after_stock_move rules board) ≢ b)
    → ((i j : ℕ) → i < j → j ≤ last → after_stock_moves rules i (after_stock_move rules board) ≢ after_stock_moves rules
    j (after_stock_move rules board))
    → (i j : ℕ) → i < j → j ≤ suc last → after_stock_moves rules i board ≢ after_stock_moves rules j board
goes_apart rules seen board last new rest i zero h k = absurd (omega arith)
goes_apart rules seen board last new rest zero (suc j) h k = λ e. new j (omega arith) board (inl refl) (sym e)
goes_apart rules seen board last new rest (suc i) (suc j) h k = rest i j (omega arith) (omega arith)

goes : (rules : RuleParts) (fuel deals : ℕ) (seen : List Board) (board : Board) → ((b : Board) → In b seen → board ≢ b)
    → GoesOn rules seen board → Along rules fuel (deals + 1) (board ∷ seen) (after_stock_move rules board)
    → Along rules (suc fuel) deals seen board
goes rules fuel deals seen board new on rest = record {
  last = suc rest.last;
  short = omega (arith, rest.short);
  next = goes_next rules board rest.last on.fresh.is_next rest.next;
  new = goes_new rules seen board rest.last new rest.new;
  apart = goes_apart rules seen board rest.last rest.new rest.apart;
  closed = λ next is_next. elim (rest.closed next is_next) [
    | inl there ↦ elim there [
      | inl e ↦ inr (0, omega arith, sym e)
      | inr further ↦ inl further
    ]
    | inr at ↦ inr (suc at.0, omega arith, at.2)
  ];
  is_list =
      let next : next_stock_board rules seen board
      (stock_move rules board) ≡ Some (after_stock_move rules board) = on.goes_on in
      rw next (ap (λ (found : List Step). steps_from deals (waste_carries rules board) ++ found) rest.is_list);
}

pub along : (rules : RuleParts) (fuel deals : ℕ) (seen : List Board) (board : Board)
    → IsTrue (deals_to_waste rules.target)
    → AreKin seen board → ((b : Board) → In b seen → board ≢ b) → Ends rules fuel seen board
    → Along rules fuel deals seen board
along rules zero deals seen board to_waste kin new ends = elim (next_or_end rules seen board to_waste kin) [
  | inl closed ↦ stops rules zero deals seen board new closed refl
  | inr on ↦ absurd (ends on.fresh)
]
along rules (suc fuel) deals seen board to_waste kin new ends = elim (next_or_end rules seen board to_waste kin) [
  | inl closed ↦
      let none : next_stock_board rules seen board (stock_move rules board) ≡ None = closed.ends in
      stops rules (suc fuel) deals seen board new closed
      (rw none (append-nil (steps_from deals (waste_carries rules board))))
  | inr on ↦
      goes rules fuel deals seen board new on
      (along rules fuel (deals + 1) (board ∷ seen) (after_stock_move rules board) to_waste
      (kin_on rules seen board to_waste kin (after_stock_move rules board) on.fresh.is_next)
      (λ b here e. on.fresh.is_new b here e) (ends on.fresh))
]

-- the bound, where redeals are counted

abbrev pub weight : Board → ℕ
weight board = board.redeals_left * (size board + 1) + length board.stock

redeal_falls : (ra rb sa wa sb wb : ℕ) → 0 < ra → rb ≡ ra - 1 → sa ≡ 0 → sb ≡ wa → wb ≡ 0
    → rb * (sb + wb + 1) + sb < ra * (sa + wa + 1) + sa
redeal_falls ra rb sa wa sb wb some left none turned empty =
    let more : ra ≡ rb + 1 = omega arith in
    rw (more, none, turned, empty) (omega arith)

some_left : (n : ℕ) → IsTrue (nat_lt 0 n) → 0 < n
some_left n h = grind (arith, nat_tests)

redealt_left : (rules : RuleParts) (a b : Board) → is_unlimited rules.redeals ≡ false → Redealt rules a b
    → (0 < a.redeals_left) × (b.redeals_left ≡ a.redeals_left - 1)
redealt_left rules a b counted h =
    let left : IsTrue (nat_lt 0 a.redeals_left) = rw counted at h.left in
    let one_less : b.redeals_left ≡ (if is_unlimited rules.redeals then a.redeals_left else a.redeals_left - 1) =
    ap (λ (x : Board). x.redeals_left) h.is_after in
    (some_left a.redeals_left left, rw counted at one_less)

pub next_is_lighter : (rules : RuleParts) (a b : Board) → is_unlimited rules.redeals ≡ false → 1 ≤ rules.draw
    → Kin a b → Dealt rules a b ⊎ Redealt rules a b → weight b < weight a
next_is_lighter rules a b counted draws kin h = elim h [
  | inl dealt ↦
      let sizes : size a ≡ size b = kin_size a b kin in
      let less : length b.stock < length a.stock = dealt_less rules a b draws dealt in
      let left : b.redeals_left ≡ a.redeals_left = dealt_redeals rules a b dealt in
      rw (left, ← sizes) (omega arith)
  | inr redealt ↦
      let left : (0 < a.redeals_left)
      × (b.redeals_left ≡ a.redeals_left - 1) = redealt_left rules a b counted redealt in
      redeal_falls a.redeals_left b.redeals_left (length a.stock) (length a.waste) (length b.stock) (length b.waste)
      left.0 left.1 (ap length redealt.none)
      (ap (λ (x : Board). length x.stock) redealt.is_after ∙ length-reverse a.waste)
      (ap (λ (x : Board). length x.waste) redealt.is_after)
]

ends_counted : (rules : RuleParts) (fuel : ℕ) (seen : List Board) (board : Board)
    → is_unlimited rules.redeals ≡ false → 1 ≤ rules.draw
    → IsTrue (deals_to_waste rules.target) → weight board ≤ fuel → Ends rules fuel seen board
ends_counted rules zero seen board counted draws to_waste h = λ fresh.
    let lighter : weight (after_stock_move rules board) < weight board =
    next_is_lighter rules board (after_stock_move rules board) counted draws
    (next_kin rules board (after_stock_move rules board) to_waste fresh.is_next)
    (next_cases rules board (after_stock_move rules board) to_waste fresh.is_next) in
    omega arith
ends_counted rules (suc fuel) seen board counted draws to_waste h = λ fresh.
    let lighter : weight (after_stock_move rules board) < weight board =
    next_is_lighter rules board (after_stock_move rules board) counted draws
    (next_kin rules board (after_stock_move rules board) to_waste fresh.is_next)
    (next_cases rules board (after_stock_move rules board) to_waste fresh.is_next) in
    ends_counted rules fuel (board ∷ seen) (after_stock_move rules board) counted draws to_waste (omega arith)

-- and where redeals are unlimited: after the first redeal the next one leads to the board after the first

abbrev start_of : Board → Board
start_of board = with_stock board (queue board) [] board.redeals_left

kin_start : (a b : Board) → Kin a b → b.redeals_left ≡ a.redeals_left → start_of b ≡ start_of a
kin_start a b kin left =
    ap (λ (x : Board). with_stock x (queue b) [] b.redeals_left) kin.rest
    ∙ ap (λ (xs : List Card). with_stock a xs [] b.redeals_left) (sym kin.queue)
    ∙ ap (λ (r : ℕ). with_stock a (queue a) [] r) left

redealt_start : (rules : RuleParts) (a b : Board) → IsTrue (is_unlimited rules.redeals)
    → Redealt rules a b → b ≡ start_of a
redealt_start rules a b unlimited h =
    let is_after : b ≡ with_stock a (reverse a.waste) [] a.redeals_left = rw unlimited at h.is_after in
    is_after ∙ sym (ap (λ (xs : List Card). with_stock a (xs ++ reverse a.waste) [] a.redeals_left) h.none)

second_pass : (rules : RuleParts) (seen : List Board) (a b : Board)
    → IsTrue (is_unlimited rules.redeals) → 1 ≤ rules.draw
    → IsTrue (deals_to_waste rules.target) → In (start_of a) (a ∷ seen) → IsFresh rules seen a b
    → (length b.stock < length a.stock) × In (start_of b) (b ∷ a ∷ seen)
second_pass rules seen a b unlimited draws to_waste here fresh = elim (next_cases rules a b to_waste fresh.is_next) [
  | inl dealt ↦ (
    dealt_less rules a b draws dealt,
    inr (subst (λ (x : Board). In x (a ∷ seen))
        (sym (kin_start a b (next_kin rules a b to_waste fresh.is_next) (dealt_redeals rules a b dealt))) here),
  )
  | inr redealt ↦ absurd (fresh.is_new (start_of a) here (redealt_start rules a b unlimited redealt))
]

ends_second : (rules : RuleParts) (fuel : ℕ) (seen : List Board) (board : Board)
    → IsTrue (is_unlimited rules.redeals) → 1 ≤ rules.draw
    → IsTrue (deals_to_waste rules.target) → In (start_of board) (board ∷ seen) → length board.stock ≤ fuel
    → Ends rules fuel seen board
ends_second rules zero seen board unlimited draws to_waste here h = λ fresh.
    let pass : (length (after_stock_move rules board).stock < length board.stock)
    × In (start_of (after_stock_move rules board)) (after_stock_move rules board ∷ board ∷ seen) =
    second_pass rules seen board (after_stock_move rules board) unlimited draws to_waste here fresh in
    omega (arith, pass.0)
ends_second rules (suc fuel) seen board unlimited draws to_waste here h = λ fresh.
    let pass : (length (after_stock_move rules board).stock < length board.stock)
    × In (start_of (after_stock_move rules board)) (after_stock_move rules board ∷ board ∷ seen) =
    second_pass rules seen board (after_stock_move rules board) unlimited draws to_waste here fresh in
    ends_second rules fuel (board ∷ seen) (after_stock_move rules board) unlimited draws to_waste pass.1
    (omega (arith, pass.0))

first_pass : (rules : RuleParts) (seen : List Board) (a b : Board)
    → IsTrue (is_unlimited rules.redeals) → 1 ≤ rules.draw
    → IsTrue (deals_to_waste rules.target) → IsFresh rules seen a b
    → (length b.stock < length a.stock) ⊎ In (start_of b) (b ∷ a ∷ seen)
first_pass rules seen a b unlimited draws to_waste fresh = elim (next_cases rules a b to_waste fresh.is_next) [
  | inl dealt ↦ inl (dealt_less rules a b draws dealt)
  | inr redealt ↦
      let starts : b ≡ start_of a = redealt_start rules a b unlimited redealt in
      let left : b.redeals_left ≡ a.redeals_left = ap (λ (x : Board). x.redeals_left) starts in
      inr (inl (kin_start a b (next_kin rules a b to_waste fresh.is_next) left ∙ sym starts))
]

ends_first : (rules : RuleParts) (fuel : ℕ) (seen : List Board) (board : Board)
    → IsTrue (is_unlimited rules.redeals) → 1 ≤ rules.draw
    → IsTrue (deals_to_waste rules.target) → size board + 1 + length board.stock ≤ fuel → Ends rules fuel seen board
ends_first rules zero seen board unlimited draws to_waste h = λ fresh. absurd (omega arith)
ends_first rules (suc fuel) seen board unlimited draws to_waste h = λ fresh.
    let next : Board = after_stock_move rules board in
    let sizes : size board ≡ size next = kin_size board next (next_kin rules board next to_waste fresh.is_next) in
    elim (first_pass rules seen board next unlimited draws to_waste fresh) [
      | inl less ↦ ends_first rules fuel (board ∷ seen) next unlimited draws to_waste (omega arith)
      | inr here ↦ ends_second rules fuel (board ∷ seen) next unlimited draws to_waste here (omega arith)
    ]

ends_any : (rules : RuleParts) (board : Board) (unlimited : Bool)
    → is_unlimited rules.redeals ≡ unlimited → 1 ≤ rules.draw
    → IsTrue (deals_to_waste rules.target) → Ends rules (most_stock_moves board) [] board
ends_any rules board true e draws to_waste = ends_first rules
    (most_stock_moves board) [] board e draws to_waste (omega arith)
ends_any rules board false e draws to_waste = ends_counted rules
    (most_stock_moves board) [] board e draws to_waste (omega arith)

-- the bound is enough
pub stock_moves-end : (rules : RuleParts) (board : Board) → 1 ≤ rules.draw → IsTrue (deals_to_waste rules.target)
    → Ends rules (most_stock_moves board) [] board
stock_moves-end rules board draws to_waste = ends_any rules board (is_unlimited rules.redeals) refl draws to_waste
