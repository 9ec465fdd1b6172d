-- Runs of stock moves that go on, and runs that end.
use Rattle.std.proofs.Common.{◌≡◌, ◌≢◌, ◌⊎◌, inl, inr, ℕ, zero, suc, ◌+◌, ◌≤◌, Bool, true, false, ◌||◌, ◌==◌, List, []}
use Rattle.std.proofs.Common.{◌∷◌, ◌++◌, length, refl, ap, sym, ◌∙◌, subst, arith, IsTrue, Some, None, ◌↔◌}
use Rattle.std.proofs.Common.{append-nil, append_assoc}
use Rattle.std.specs.List.{flat_map, range_with_len}
use Rattle.std.proofs.lemmas.Bool.{cases_lt}
use Rattle.std.proofs.lemmas.Bool.Decides.{nat_tests}
use Rattle.std.proofs.lemmas.Grind.{flat_map-append}
use Rattle.std.proofs.lemmas.List.{nil_from_length}
use Rattle.game_rules.specs.declared.RuleParts.{RuleParts}
use Rattle.game_rules.specs.Rules.{deals_to_waste, is_unlimited}
use Rattle.game_rules.specs.Board.{Board}
use Rattle.game_rules.specs.Play.{after}
use Rattle.game_rules.specs.StockMoves.{stock_move, after_stock_move, after_stock_moves}
use Rattle.game_rules.specs.NextByStock.{HasStockMoves, IsNextByStock}
use Rattle.game_rules.proofs.StockMoves.{stock_move_cases, after_stock_moves-suc}
use Rattle.stock_steps.specs.declared.Step.{Step}
use Rattle.stock_steps.specs.Steps.{steps_from, waste_carries}
use Rattle.stock_steps.specs.StockSteps.{ComesAgain, IsStockRun, IsWholeRun, StandsBefore}
use Rattle.stock_steps.proofs.StockKin.{next_is, one_stock_move}
use Rattle.stock_steps.proofs.RepeatTest.{never_again, comes_again}
use Rattle.stock_moves.specs.GoesOn.{GoesOn, next_stock}

-- the boards that stock moves lead to
abbrev pub boards_of : RuleParts → Board → ℕ → Board
boards_of rules board i = after_stock_moves rules i board

-- what is known of a run that was dealt out so far: its boards, the length of its first stock, and whether a stock was
-- empty
pub record Underway (rules : RuleParts) (board : Board) (deals first : ℕ) (emptied : Bool) : Type 0 where
  pub run : IsStockRun rules board deals (boards_of rules board)
  pub starts : first ≡ length board.stock
  pub seen : IsTrue emptied → (j : ℕ) × (j ≤ deals) × ((boards_of rules board j).stock ≡ [])
  pub told : (j : ℕ) → j ≤ deals → (boards_of rules board j).stock ≡ [] → IsTrue emptied

-- the board itself is a run
pub underway-begins : (rules : RuleParts) (board : Board) (first : ℕ) (emptied : Bool) → first ≡ length board.stock
    → (IsTrue emptied → board.stock ≡ []) → (board.stock ≡ [] → IsTrue emptied) → Underway rules board 0 first emptied
underway-begins rules board first emptied e seen told = record {
  run = record {
    first = refl;
    next = λ i h. absurd (omega (arith, h));
    apart = λ i j h k. absurd (omega (arith, h, k));
  };
  starts = e;
  seen = λ t. (0, omega arith, seen t);
  told = λ j h none. let same : j ≡ 0 = omega (arith, h) in
      told (subst (λ (i : ℕ). (boards_of rules board i).stock ≡ []) same none);
}

-- a run that goes on is not back at one of its boards
not_before : (rules : RuleParts) (board : Board) (deals first : ℕ) (emptied : Bool) (t : Bool)
    → is_unlimited rules.redeals ≡ t → 1 ≤ rules.draw
    → IsTrue (deals_to_waste rules.target) → Underway rules board deals first emptied
    → (on : GoesOn rules (boards_of rules board deals) first emptied)
    → StandsBefore (boards_of rules board) deals on.next → ⊥
not_before rules board deals first emptied false e draws to_waste underway on at =
    never_again rules board on.next deals (boards_of rules board) e draws to_waste underway.run on.is_next at
not_before rules board deals first emptied true e draws to_waste underway on at =
    let again : ComesAgain board (boards_of rules board) deals on.next =
    (comes_again rules board on.next deals (boards_of rules board) e draws to_waste underway.run on.is_next).0 at in
    elim again [
      | inl lengths ↦ on.other e (lengths ∙ sym underway.starts)
      | inr empty ↦ on.some e (underway.told empty.1.0 empty.1.1 empty.1.2) empty.0
    ]

next_board : (rules : RuleParts) (board : Board) (k : ℕ) (next : Board) → IsTrue (deals_to_waste rules.target)
    → IsNextByStock rules (boards_of rules board k) next → next ≡ boards_of rules board (suc k)
next_board rules board k next to_waste is_next =
    next_is rules (boards_of rules board k) next to_waste is_next ∙ sym (after_stock_moves-suc rules k board)

-- a run that goes on has one board more
pub run-more : (rules : RuleParts) (board : Board) (deals first : ℕ) (emptied : Bool) → 1 ≤ rules.draw
    → IsTrue (deals_to_waste rules.target) → Underway rules board deals first emptied
    → GoesOn rules (boards_of rules board deals) first emptied
    → IsStockRun rules board (suc deals) (boards_of rules board)
run-more rules board deals first emptied draws to_waste underway on =
    let same : on.next ≡ boards_of rules board (suc deals) = next_board rules board deals on.next to_waste on.is_next in
    record {
      first = refl;
      next = λ i below. elim (cases_lt i deals) [
        | inl before ↦ underway.run.next i before
        | inr here ↦
            let e : deals ≡ i = omega (arith, below, here) in
            subst (λ (j : ℕ). IsNextByStock rules (boards_of rules board j) (boards_of rules board (suc j))) e
            (subst (λ (b : Board). IsNextByStock rules (boards_of rules board deals) b) same on.is_next)
      ];
      apart = λ i j less within. elim (cases_lt j (suc deals)) [
        | inl before ↦ underway.run.apart i j less (omega (arith, before))
        | inr here ↦ λ alike.
            let e : j ≡ suc deals = omega (arith, within, here) in
            not_before rules board deals first emptied (is_unlimited rules.redeals) refl draws to_waste underway on
            (i, omega (arith, less, e), alike ∙ ap (boards_of rules board) e ∙ sym same)
      ];
    }

-- an empty stock comes again exactly where one was seen
goes_empty : (rules : RuleParts) (board : Board) (deals first : ℕ) (emptied t : Bool) → emptied ≡ t
    → Underway rules board deals first emptied → (next : Board) → IsNextByStock rules (boards_of rules board deals) next
    → (ComesAgain board (boards_of rules board) deals next → StandsBefore (boards_of rules board) deals next)
    → length next.stock ≢ first → length next.stock ≡ 0
    → StandsBefore (boards_of rules board) deals next ⊎ GoesOn rules (boards_of rules board deals) first emptied
goes_empty rules board deals first emptied true e underway next is_next again other none =
    inl (again (inr (nil_from_length next.stock none, underway.seen e)))
goes_empty rules board deals first emptied false e underway next is_next again other none =
    inr (record {
      next = next;
      is_next = is_next;
      other = λ unlimited. other;
      some = λ unlimited was. absurd (let clash : true ≡ false = sym was ∙ e in cc);
    })

-- a next board that the run does not have lets it go on
goes_by : (rules : RuleParts) (board : Board) (deals first : ℕ) (emptied : Bool) (t : Bool)
    → is_unlimited rules.redeals ≡ t → 1 ≤ rules.draw
    → IsTrue (deals_to_waste rules.target) → Underway rules board deals first emptied
    → (next : Board) → IsNextByStock rules (boards_of rules board deals) next
    → StandsBefore (boards_of rules board) deals next ⊎ GoesOn rules (boards_of rules board deals) first emptied
goes_by rules board deals first emptied false e draws to_waste underway next is_next =
    inr (record {
      next = next;
      is_next = is_next;
      other = λ unlimited. absurd (let clash : true ≡ false = sym unlimited ∙ e in cc);
      some = λ unlimited. absurd (let clash : true ≡ false = sym unlimited ∙ e in cc);
    })
goes_by rules board deals first emptied true e draws to_waste underway next is_next =
    let again : ComesAgain board (boards_of rules board) deals next → StandsBefore (boards_of rules board) deals next =
    (comes_again rules board next deals (boards_of rules board) e draws to_waste underway.run is_next).1 in
    let by_first : (length next.stock ≡ first) ⊎ (length next.stock ≢ first) = grind arith in
    let by_length : (length next.stock ≡ 0) ⊎ (length next.stock ≢ 0) = grind arith in
    elim by_first [
      | inl same ↦ inl (again (inl (same ∙ underway.starts)))
      | inr other ↦ elim by_length [
        | inl none ↦ goes_empty rules board deals first emptied emptied refl underway next is_next again other none
        | inr some ↦ inr (record {
          next = next;
          is_next = is_next;
          other = λ unlimited. other;
          some = λ unlimited was nil. some (ap length nil);
        })
      ]
    ]

-- a run that does not go on is whole
pub run-whole : (rules : RuleParts) (board : Board) (deals first : ℕ) (emptied : Bool) → 1 ≤ rules.draw
    → IsTrue (deals_to_waste rules.target) → Underway rules board deals first emptied
    → (GoesOn rules (boards_of rules board deals) first emptied → ⊥)
    → IsWholeRun rules board deals (boards_of rules board)
run-whole rules board deals first emptied draws to_waste underway ends = record {
  run = underway.run;
  closed = λ next is_next.
      elim (goes_by rules board deals first emptied (is_unlimited rules.redeals) refl draws to_waste
      underway next is_next) [
        | inl before ↦ before
        | inr on ↦ absurd (ends on)
      ];
}

-- and what is known of one that goes on
pub underway-more : (rules : RuleParts) (board : Board) (deals first : ℕ) (emptied now : Bool) → 1 ≤ rules.draw
    → IsTrue (deals_to_waste rules.target) → Underway rules board deals first emptied
    → GoesOn rules (boards_of rules board deals) first emptied
    → (IsTrue now → IsTrue emptied ⊎ ((boards_of rules board (suc deals)).stock ≡ []))
    → (IsTrue emptied → IsTrue now) → ((boards_of rules board (suc deals)).stock ≡ [] → IsTrue now)
    → Underway rules board (suc deals) first now
underway-more rules board deals first emptied now draws to_waste underway on either before here = record {
  run = run-more rules board deals first emptied draws to_waste underway on;
  starts = underway.starts;
  seen = λ t. elim (either t) [
    | inl was ↦
        let at : (j : ℕ) × (j ≤ deals) × ((boards_of rules board j).stock ≡ []) = underway.seen was in
        (at.0, omega (arith, at.1), at.2)
    | inr none ↦ (suc deals, omega arith, none)
  ];
  told = λ j within none. elim (cases_lt j (suc deals)) [
    | inl less ↦ before (underway.told j (omega (arith, less)) none)
    | inr last ↦
        let e : j ≡ suc deals = omega (arith, within, last) in
        here (subst (λ (i : ℕ). (boards_of rules board i).stock ≡ []) e none)
  ];
}

-- the steps along the first boards of a run
abbrev pub steps_upto : RuleParts → Board → ℕ → List Step
steps_upto rules board k = flat_map (λ i. steps_from i (waste_carries rules (boards_of rules board i)))
    (range_with_len 0 k)

range-more : (low n last : ℕ) → low + n ≡ last → range_with_len low (suc n) ≡ range_with_len low n ++ last ∷ []
range-more low zero last e = let same : low ≡ last = omega (arith, e) in ap (λ (i : ℕ). i ∷ []) same
range-more low (suc n) last e = ap (λ (is : List ℕ). low ∷ is) (range-more (low + 1) n last (omega (arith, e)))

pub steps_upto-more : (rules : RuleParts) (board : Board) (k : ℕ)
    → steps_upto rules board (suc k) ≡ steps_upto rules board k
    ++ steps_from k (waste_carries rules (boards_of rules board k))
steps_upto-more rules board k =
    let piece : ℕ → List Step = λ i. steps_from i (waste_carries rules (boards_of rules board i)) in
    ap (flat_map piece) (range-more 0 k k (omega arith))
    ∙ flat_map-append piece (range_with_len 0 k) (k ∷ [])
    ∙ ap (λ (xs : List Step). steps_upto rules board k ++ xs) (append-nil (piece k))

-- the board after the next stock move, by the length of its stock
next_known : (rules : RuleParts) (a : Board) (n : ℕ) → IsTrue (deals_to_waste rules.target)
    → next_stock rules a ≡ Some n
    → (next : Board) × IsNextByStock rules a next × (length next.stock ≡ n)
next_known rules a n to_waste e = elim (stock_move_cases rules a to_waste) [
  | inl none ↦ absurd
      (let nothing : next_stock rules a ≡ None = rw none refl in let clash : Some n ≡ None = sym e ∙ nothing in cc)
  | inr has ↦
      let one : stock_move rules a ≡ Some has.move = has.is_one in
      let known : next_stock rules a ≡ Some (length (after rules a has.move).stock) = rw one refl in
      let same : Some (length (after rules a has.move).stock) ≡ Some n = sym known ∙ e in
      let long : length (after rules a has.move).stock ≡ n = cc in
      (after_stock_move rules a, has.is_next, ap (λ (b : Board). length b.stock) has.is_after ∙ long)
]

-- where redeals are counted, a next stock move is enough
pub on-counted : (rules : RuleParts) (a : Board) (first : ℕ) (emptied : Bool) (n : ℕ)
    → IsTrue (deals_to_waste rules.target)
    → is_unlimited rules.redeals ≡ false → next_stock rules a ≡ Some n → GoesOn rules a first emptied
on-counted rules a first emptied n to_waste counted e =
    let known : (next : Board) × IsNextByStock rules a next
    × (length next.stock ≡ n) = next_known rules a n to_waste e in
    record {
      next = known.0;
      is_next = known.1;
      other = λ unlimited. absurd (let clash : true ≡ false = sym unlimited ∙ counted in cc);
      some = λ unlimited. absurd (let clash : true ≡ false = sym unlimited ∙ counted in cc);
    }

-- where they are unlimited, its length decides
pub on-unlimited : (rules : RuleParts) (a : Board) (first : ℕ) (emptied : Bool) (n : ℕ)
    → IsTrue (deals_to_waste rules.target)
    → IsTrue (is_unlimited rules.redeals) → next_stock rules a ≡ Some n
    → ((n ≢ first) × (IsTrue emptied → n ≢ 0)) ↔ GoesOn rules a first emptied
on-unlimited rules a first emptied n to_waste unlimited e =
    let known : (next : Board) × IsNextByStock rules a next
    × (length next.stock ≡ n) = next_known rules a n to_waste e in (
      λ h. record {
        next = known.0;
        is_next = known.1;
        other = λ _ same. h.0 (sym known.2 ∙ same);
        some = λ _ was none. h.1 was (sym known.2 ∙ ap length none);
      },
      λ on.
          let same : on.next ≡ known.0 =
          next_is rules a on.next to_waste on.is_next ∙ sym (next_is rules a known.0 to_waste known.1) in
          let long : length on.next.stock ≡ n = ap (λ (b : Board). length b.stock) same ∙ known.2 in (
            λ is. on.other unlimited (long ∙ is),
            λ was is.
                on.some unlimited was (nil_from_length on.next.stock (long ∙ is)),
          ),
    )

-- and without a next stock move the run ends
pub on-none : (rules : RuleParts) (a : Board) (first : ℕ) (emptied : Bool) → IsTrue (deals_to_waste rules.target)
    → next_stock rules a ≡ None → GoesOn rules a first emptied → ⊥
on-none rules a first emptied to_waste e on =
    let one : stock_move rules a ≡ Some on.is_next.move =
    one_stock_move rules a on.is_next.move to_waste on.is_next.is_stock_move on.is_next.legal in
    let known : next_stock rules a ≡ Some (length (after rules a on.is_next.move).stock) = rw one refl in
    let clash : Some (length (after rules a on.is_next.move).stock) ≡ None = sym known ∙ e in
    cc

-- one stock move more, with the test for an empty stock

either_of : (s t : Bool) → IsTrue (s || t) → IsTrue s ⊎ IsTrue t
either_of true t h = inl refl
either_of false t h = inr h

left_of : (s t : Bool) → IsTrue s → IsTrue (s || t)
left_of true t h = refl
left_of false t h = absurd (let clash : false ≡ true = h in cc)

right_of : (s t : Bool) → IsTrue t → IsTrue (s || t)
right_of true t h = refl
right_of false t h = h

is_zero : (n : ℕ) → IsTrue (n == 0) → n ≡ 0
is_zero n h = grind (arith, nat_tests)

zero_is : (n : ℕ) → n ≡ 0 → IsTrue (n == 0)
zero_is n h = grind (arith, nat_tests)

pub underway-next : (rules : RuleParts) (board : Board) (deals first : ℕ) (emptied now : Bool) → 1 ≤ rules.draw
    → IsTrue (deals_to_waste rules.target) → Underway rules board deals first emptied
    → GoesOn rules (boards_of rules board deals) first emptied
    → now ≡ (emptied || (length (boards_of rules board (suc deals)).stock == 0))
    → Underway rules board (suc deals) first now
underway-next rules board deals first emptied now draws to_waste underway on is =
    let none : Bool = length (boards_of rules board (suc deals)).stock == 0 in
    underway-more rules board deals first emptied now draws to_waste underway on
    (λ t. elim (either_of emptied none (sym is ∙ t)) [
      | inl was ↦ inl was
      | inr empty ↦ inr (nil_from_length (boards_of rules board (suc deals)).stock
          (is_zero (length (boards_of rules board (suc deals)).stock) empty))
    ])
    (λ was. is ∙ left_of emptied none was)
    (λ empty. is ∙ right_of emptied none (zero_is (length (boards_of rules board (suc deals)).stock) (ap length empty)))

-- the board after a stock move from the last one
pub board-more : (rules : RuleParts) (board here : Board) (deals : ℕ) → here ≡ boards_of rules board deals
    → after_stock_moves rules 1 here ≡ boards_of rules board (suc deals)
board-more rules board here deals e = ap (after_stock_move rules) e ∙ sym (after_stock_moves-suc rules deals board)

-- one stock move can be made where the run goes on
pub has-one : (rules : RuleParts) (a : Board) (first : ℕ) (emptied : Bool) → IsTrue (deals_to_waste rules.target)
    → GoesOn rules a first emptied → HasStockMoves rules 1 a
has-one rules a first emptied to_waste on = record {
  to_waste = λ some. to_waste;
  each = λ i below.
      let same : 0 ≡ i = omega (arith, below) in
      let next : IsNextByStock rules a (after_stock_move rules a) =
      subst (λ (b : Board). IsNextByStock rules a b) (next_is rules a on.next to_waste on.is_next) on.is_next in
      subst (λ j. IsNextByStock rules (after_stock_moves rules j a) (after_stock_moves rules (suc j) a)) same next;
}

-- the carries of one board more
pub listed-more : (rules : RuleParts) (board here : Board) (deals : ℕ) (before old new : List Step)
    → old ≡ before ++ steps_upto rules board (deals + 1) → here ≡ boards_of rules board (suc deals)
    → new ≡ old ++ steps_from (deals + 1) (waste_carries rules here)
    → new ≡ before ++ steps_upto rules board (suc deals + 1)
listed-more rules board here deals before old new e_old e_here e_new =
    let more : deals + 1 ≡ suc deals = omega arith in
    let most : suc deals + 1 ≡ suc (suc deals) = omega arith in
    let piece : steps_upto rules board (deals + 1)
    ++ steps_from (deals + 1) (waste_carries rules here) ≡ steps_upto rules board (suc deals + 1) =
    ap (λ (n : ℕ). steps_upto rules board n ++ steps_from n (waste_carries rules here)) more
    ∙ ap (λ (b : Board). steps_upto rules board (suc deals) ++ steps_from (suc deals) (waste_carries rules b)) e_here
    ∙ sym (steps_upto-more rules board (suc deals))
    ∙ ap (steps_upto rules board) (sym most) in
    e_new
    ∙ ap (λ (xs : List Step). xs ++ steps_from (deals + 1) (waste_carries rules here)) e_old
    ∙ append_assoc before (steps_upto rules board (deals + 1)) (steps_from (deals + 1) (waste_carries rules here))
    ∙ ap (λ (xs : List Step). before ++ xs) piece

-- what is known at first
pub underway-first : (rules : RuleParts) (board : Board) (first : ℕ) → first ≡ length board.stock
    → Underway rules board 0 first (first == 0)
underway-first rules board first e =
    underway-begins rules board first (first == 0) e
    (λ t. nil_from_length board.stock (sym e ∙ is_zero first t))
    (λ none. zero_is first (e ∙ ap length none))
