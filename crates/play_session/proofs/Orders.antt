-- What one order makes of the moves, and what several do.
use Rattle.std.proofs.Common.{◌≡◌, ◌+◌, ◌<◌, ◌≤◌, ℕ, zero, suc, List, [], ◌∷◌, ◌++◌, length, get_or, take, drop, Some, refl, ap, sym}
use Rattle.std.proofs.Common.{◌∙◌, arith}
use Rattle.std.proofs.lemmas.List.{take_more, take_all}
use Rattle.game_rules.specs.declared.RuleParts.{RuleParts}
use Rattle.game_rules.specs.declared.Move.{Move}
use Rattle.game_rules.specs.Board.{Board, top_of, below_top}
use Rattle.packed_state.proofs.Seams.{below-append, top-seam}
use Rattle.play_session.specs.declared.order.Order.{Order}
use Rattle.play_session.specs.Moves.{Moves, with_undone, with_redone, after_order, after_orders}
use Rattle.play_session.specs.Runs.{IsAfterSome}

-- a move that was taken back was the last standing one
pub undone_is : (old new : Moves) (m : Move) → old.standing ≡ new.standing ++ m ∷ []
    → new.undone ≡ old.undone ++ m ∷ [] → new ≡ with_undone old (top_of old.standing)
undone_is old new m last next =
    let top : top_of old.standing ≡ Some m = ap top_of last ∙ top-seam new.standing m in
    let rest : below_top 1 old.standing ≡ new.standing =
    ap (λ ms. below_top 1 ms) last ∙ below-append new.standing (m ∷ []) 1 refl in
    rw (top, rest, sym next) refl

-- a move that was made again was the last one taken back
pub redone_is : (old new : Moves) (m : Move) → old.undone ≡ new.undone ++ m ∷ []
    → new.standing ≡ old.standing ++ m ∷ [] → new ≡ with_redone old (top_of old.undone)
redone_is old new m last next =
    let top : top_of old.undone ≡ Some m = ap top_of last ∙ top-seam new.undone m in
    let rest : below_top 1 old.undone ≡ new.undone =
    ap (λ ms. below_top 1 ms) last ∙ below-append new.undone (m ∷ []) 1 refl in
    rw (top, rest, sym next) refl

after_orders-append : (rules : RuleParts) (start : Board) (moves : Moves) (orders more : List Order)
    → after_orders rules start moves (orders ++ more)
    ≡ after_orders rules start (after_orders rules start moves orders) more
after_orders-append rules start moves [] more = refl
after_orders-append rules start moves (order ∷ orders) more =
    after_orders-append rules start (after_order rules start moves order) orders more

-- one order more was carried out
pub after_more : (rules : RuleParts) (start : Board) (old : Moves) (orders : List Order) (i : ℕ) (d : Order)
    → i < length orders
    → after_orders rules start old (take (i + 1) orders)
    ≡ after_order rules start (after_orders rules start old (take i orders)) (get_or orders i d)
after_more rules start old orders i d within =
    ap (after_orders rules start old) (take_more orders i d within)
    ∙ after_orders-append rules start old (take i orders) (get_or orders i d ∷ [])

-- no order was carried out, or the one that there is
pub after_none : (rules : RuleParts) (start : Board) (old new : Moves) (order : Order) → new ≡ old
    → IsAfterSome rules start old (order ∷ []) new
after_none rules start old new order is = record { count = 0; within = omega arith; moves = is }

pub after_one : (rules : RuleParts) (start : Board) (old new : Moves) (order : Order)
    → new ≡ after_order rules start old order → IsAfterSome rules start old (order ∷ []) new
after_one rules start old new order is = record { count = 1; within = omega arith; moves = is }

-- after the first orders, and at most one more
pub after_some : (rules : RuleParts) (start : Board) (old here new : Moves) (orders : List Order) (i : ℕ) (d : Order)
    → i < length orders → here ≡ after_orders rules start old (take i orders)
    → IsAfterSome rules start here (get_or orders i d ∷ []) new → IsAfterSome rules start old orders new
after_some rules start old here new orders i d inside is some = by_count some.count some.within some.moves
  where
    by_count : (n : ℕ) → n ≤ 1 → new ≡ after_orders rules start here (take n (get_or orders i d ∷ []))
        → IsAfterSome rules start old orders new
    by_count zero few at = record { count = i; within = omega (arith, inside); moves = at ∙ is }
    by_count (suc zero) few at = record {
      count = i + 1;
      within = omega (arith, inside);
      moves = at ∙ ap (λ ms. after_order rules start ms (get_or orders i d)) is
          ∙ sym (after_more rules start old orders i d inside);
    }
    by_count (suc (suc n)) few at = absurd (omega (arith, few))
