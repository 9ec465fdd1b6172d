-- A carry that is not from the waste commutes with stock moves, and stock moves alone win nothing.
use Rattle.std.proofs.Common.{◌≡◌, ◌⊎◌, inl, inr, ℕ, ◌<◌, Bool, true, false, ◌&&◌, not, List, [], ◌∷◌, length, refl, ap}
use Rattle.std.proofs.Common.{sym, ◌∙◌, subst, arith, IsTrue, is_none}
use Rattle.std.specs.List.{list_all}
use Rattle.card_piles.specs.declared.Card.{Card}
use Rattle.game_rules.specs.declared.RuleParts.{RuleParts}
use Rattle.game_rules.specs.declared.Place.{Place}
use Rattle.game_rules.specs.declared.Place.TheVariants.{Tableau, Cell, Reserve, Waste, Foundation, Hole, Slot}
use Rattle.game_rules.specs.declared.Move.{Move}
use Rattle.game_rules.specs.declared.Move.TheVariants.{Carry, Deal, Redeal}
use Rattle.game_rules.specs.declared.Target.{Target}
use Rattle.game_rules.specs.declared.Target.TheVariants.{ToWaste, ToTableau, ToHole}
use Rattle.game_rules.specs.Rules.{deals_to_waste, is_sequence_goal}
use Rattle.game_rules.specs.Board.{Board, has_place}
use Rattle.game_rules.specs.Taking.{can_take, taken, without}
use Rattle.game_rules.specs.Putting.{can_put, with_cards}
use Rattle.game_rules.specs.Play.{Legal, is_empty, is_legal_carry, after, after_deal_to}
use Rattle.game_rules.specs.Winning.{Won, is_won}
use Rattle.game_rules.specs.StockMoves.{is_carry}
use Rattle.game_rules.specs.NextByStock.{IsNextByStock}
use Rattle.stock_steps.specs.Steps.{is_from_waste}
use Rattle.stock_steps.specs.StockSteps.{Commute}
use Rattle.game_rules.proofs.Limits.{both}
use Rattle.game_rules.proofs.StockMoves.{target-waste, Dealt, with_stock}
use Rattle.stock_steps.proofs.StockKin.{empty_is, deal_legal, Kin, Redealt, size, next_cases, next_kin, kin_size}

-- stock, waste and redeals are read by carries from the waste alone

has_place-stock : (rules : RuleParts) (b : Board) (s w : List Card) (r : ℕ) (place : Place)
    → has_place rules (with_stock b s w r) place ≡ has_place rules b place
has_place-stock rules b s w r Waste = refl
has_place-stock rules b s w r place = refl

can_take-stock : (rules : RuleParts) (b : Board) (s w : List Card) (r : ℕ) (from to : Place) (count : ℕ)
    → is_from_waste (Carry from to count) ≡ false
    → can_take rules (with_stock b s w r) from count ≡ can_take rules b from count
can_take-stock rules b s w r Waste to count h = cc
can_take-stock rules b s w r from to count h = refl

taken-stock : (rules : RuleParts) (b : Board) (s w : List Card) (r : ℕ) (from to : Place) (count : ℕ)
    → is_from_waste (Carry from to count) ≡ false
    → taken rules (with_stock b s w r) from count ≡ taken rules b from count
taken-stock rules b s w r Waste to count h = cc
taken-stock rules b s w r from to count h = refl

without-stock : (rules : RuleParts) (b : Board) (s w : List Card) (r : ℕ) (from to : Place) (count : ℕ)
    → is_from_waste (Carry from to count) ≡ false
    → without rules (with_stock b s w r) from count ≡ with_stock (without rules b from count) s w r
without-stock rules b s w r Waste to count h = cc
without-stock rules b s w r from to count h = refl

can_put-stock : (rules : RuleParts) (b : Board) (s w : List Card) (r : ℕ) (to : Place) (cards : List Card)
    → can_put rules (with_stock b s w r) to cards ≡ can_put rules b to cards
can_put-stock rules b s w r (Tableau i) [] = refl
can_put-stock rules b s w r (Tableau i) (card ∷ cards) = refl
can_put-stock rules b s w r (Cell i) [] = refl
can_put-stock rules b s w r (Cell i) (card ∷ cards) = refl
can_put-stock rules b s w r (Reserve i) [] = refl
can_put-stock rules b s w r (Reserve i) (card ∷ cards) = refl
can_put-stock rules b s w r Waste [] = refl
can_put-stock rules b s w r Waste (card ∷ cards) = refl
can_put-stock rules b s w r (Foundation i) [] = refl
can_put-stock rules b s w r (Foundation i) (card ∷ cards) = refl
can_put-stock rules b s w r Hole [] = refl
can_put-stock rules b s w r Hole (card ∷ cards) = refl
can_put-stock rules b s w r (Slot i) [] = refl
can_put-stock rules b s w r (Slot i) (card ∷ cards) = refl

with_cards-stock : (b : Board) (s w : List Card) (r : ℕ) (to : Place) (cards : List Card)
    → with_cards (with_stock b s w r) to cards ≡ with_stock (with_cards b to cards) s w r
with_cards-stock b s w r (Tableau i) cards = refl
with_cards-stock b s w r (Cell i) cards = refl
with_cards-stock b s w r (Reserve i) cards = refl
with_cards-stock b s w r Waste cards = refl
with_cards-stock b s w r (Foundation i) cards = refl
with_cards-stock b s w r Hole cards = refl
with_cards-stock b s w r (Slot i) cards = refl

legal-stock : (rules : RuleParts) (b : Board) (s w : List Card) (r : ℕ) (from to : Place) (count : ℕ)
    → is_from_waste (Carry from to count) ≡ false
    → is_legal_carry rules (with_stock b s w r) from to count ≡ is_legal_carry rules b from to count
legal-stock rules b s w r from to count h =
    let puts : can_put rules (with_stock b s w r) to (taken rules (with_stock b s w r) from count) ≡ can_put rules b to
    (taken rules b from count) =
    ap (can_put rules (with_stock b s w r) to) (taken-stock rules b s w r from to count h)
    ∙ can_put-stock rules b s w r to (taken rules b from count) in
    cc (
      has_place-stock rules b s w r from,
      has_place-stock rules b s w r to,
      can_take-stock rules b s w r from to count h,
      puts,
    )

after-stock : (rules : RuleParts) (b : Board) (s w : List Card) (r : ℕ) (from to : Place) (count : ℕ)
    → is_from_waste (Carry from to count) ≡ false
    → after rules (with_stock b s w r) (Carry from to count) ≡ with_stock (after rules b (Carry from to count)) s w r
after-stock rules b s w r from to count h =
    ap (with_cards (without rules (with_stock b s w r) from count) to) (taken-stock rules b s w r from to count h)
    ∙ ap (λ (x : Board). with_cards x to (taken rules b from count)) (without-stock rules b s w r from to count h)
    ∙ with_cards-stock (without rules b from count) s w r to (taken rules b from count)

-- and changed by them alone
kept-stock : (rules : RuleParts) (b : Board) (from to : Place) (count : ℕ) → is_from_waste (Carry from to count) ≡ false
    → after rules b (Carry from to count) ≡ with_stock
    (after rules b (Carry from to count)) b.stock b.waste b.redeals_left
kept-stock rules b from to count h = after-stock rules b b.stock b.waste b.redeals_left from to count h

-- a stock move reads and changes nothing else

stock_legal : (rules : RuleParts) (a b : Board) (move : Move) → IsTrue (deals_to_waste rules.target)
    → IsTrue (not (is_carry move))
    → a.stock ≡ b.stock → a.waste ≡ b.waste → a.redeals_left ≡ b.redeals_left → Legal rules a move → Legal rules b move
stock_legal rules a b (Carry from to count) to_waste stock same_stock same_waste same_left legal = cc
stock_legal rules a b Deal to_waste stock same_stock same_waste same_left legal =
    let tests = both _ _ legal in
    deal_legal rules b to_waste (subst (λ (xs : List Card). IsTrue (not (is_empty xs))) same_stock tests.0)
stock_legal rules a b Redeal to_waste stock same_stock same_waste same_left legal =
    rw (← same_stock, ← same_waste, ← same_left) legal

deal_to : (target : Target) (rules : RuleParts) (a b : Board) → target ≡ ToWaste
    → after_deal_to target rules (with_stock b a.stock a.waste a.redeals_left)
    ≡ with_stock b (after_deal_to target rules a).stock (after_deal_to target rules a).waste
    (after_deal_to target rules a).redeals_left
deal_to ToWaste rules a b h = refl
deal_to ToTableau rules a b h = cc
deal_to ToHole rules a b h = cc

stock_after : (rules : RuleParts) (a b : Board) (move : Move) → IsTrue (deals_to_waste rules.target)
    → IsTrue (not (is_carry move))
    → after rules (with_stock b a.stock a.waste a.redeals_left) move
    ≡ with_stock b (after rules a move).stock (after rules a move).waste (after rules a move).redeals_left
stock_after rules a b (Carry from to count) to_waste stock = cc
stock_after rules a b Deal to_waste stock = deal_to rules.target rules a b (target-waste rules.target to_waste)
stock_after rules a b Redeal to_waste stock = refl

-- a carry that is not from the waste, after a stock move, may be made before it
pub carry_first : (rules : RuleParts) (a : Board) (move : Move) (from to : Place) (count : ℕ)
    → IsTrue (deals_to_waste rules.target)
    → IsTrue (not (is_carry move)) → Legal rules a move → is_from_waste (Carry from to count) ≡ false
    → Legal rules (after rules a move) (Carry from to count) → Commute rules a move (Carry from to count)
carry_first rules a move from to count to_waste is_stock_move move_legal h legal =
    let b : Board = after rules a move in
    let kin : Kin a b = next_kin rules a b to_waste
    (record { move = move; is_stock_move = is_stock_move; legal = move_legal; is_after = refl }) in
    let moved : Board = after rules a (Carry from to count) in
    let kept : moved ≡ with_stock moved a.stock a.waste a.redeals_left = kept-stock rules a from to count h in
    let same_test : is_legal_carry rules b from to count ≡ is_legal_carry rules a from to count =
    ap (λ (x : Board). is_legal_carry rules x from to count) kin.rest
    ∙ legal-stock rules a b.stock b.waste b.redeals_left from to count h in
    let moved_next : after rules b (Carry from to count) ≡ with_stock moved b.stock b.waste b.redeals_left =
    ap (λ (x : Board). after rules x (Carry from to count)) kin.rest
    ∙ after-stock rules a b.stock b.waste b.redeals_left from to count h in
    let stock_moved : after rules moved move ≡ with_stock moved b.stock b.waste b.redeals_left =
    ap (λ (x : Board). after rules x move) kept ∙ stock_after rules a moved move to_waste is_stock_move in
    record {
      carry_legal = sym same_test ∙ legal;
      stock_legal = stock_legal rules a moved move to_waste is_stock_move
          (sym (ap (λ (x : Board). x.stock) kept)) (sym (ap (λ (x : Board). x.waste) kept))
          (sym (ap (λ (x : Board). x.redeals_left) kept)) move_legal;
      same = stock_moved ∙ sym moved_next;
    }

-- stock moves win nothing

won-stock : (rules : RuleParts) (b : Board) (s w : List Card) (r : ℕ) → is_sequence_goal rules.goal ≡ true
    → is_won rules (with_stock b s w r) ≡ is_won rules b
won-stock rules b s w r e = rw e

won_empty : (rules : RuleParts) (b : Board) → is_sequence_goal rules.goal ≡ false → Won rules b → size b ≡ 0
won_empty rules b e h =
    let others : IsTrue (list_all (λ pile. is_empty pile.cards) b.piles && list_all (λ c. is_none c) b.cells
    && list_all (λ c. is_none c) b.reserve && is_empty b.stock && is_empty b.waste) = rw e at h in
    let waste = both _ (is_empty b.waste) others in
    let stock = both _ (is_empty b.stock) waste.0 in
    omega (
      arith,
      ap (λ (xs : List Card). length xs) (empty_is b.stock stock.1),
      ap (λ (xs : List Card). length xs)
          (empty_is b.waste waste.1),
    )

some_cards : (rules : RuleParts) (a b : Board) → Dealt rules a b ⊎ Redealt rules a b → 0 < size a
some_cards rules a b h = elim h [ inl dealt ↦ omega (arith, dealt.some) | inr redealt ↦ omega (arith, redealt.some) ]

won_by_goal : (rules : RuleParts) (a b : Board) (t : Bool) → is_sequence_goal rules.goal ≡ t
    → IsTrue (deals_to_waste rules.target)
    → IsNextByStock rules a b → Won rules b → Won rules a
won_by_goal rules a b true e to_waste is_next h =
    let kin : Kin a b = next_kin rules a b to_waste is_next in
    sym (ap (is_won rules) kin.rest ∙ won-stock rules a b.stock b.waste b.redeals_left e) ∙ h
won_by_goal rules a b false e to_waste is_next h =
    let kin : Kin a b = next_kin rules a b to_waste is_next in
    let some : 0 < size a = some_cards rules a b (next_cases rules a b to_waste is_next) in
    absurd (omega (arith, some, kin_size a b kin, won_empty rules b e h))

-- where the board after a stock move is won, so is the board before it
pub won_before : (rules : RuleParts) (a b : Board) → IsTrue (deals_to_waste rules.target) → IsNextByStock rules a b
    → Won rules b → Won rules a
won_before rules a b to_waste is_next h = won_by_goal rules a b (is_sequence_goal rules.goal) refl to_waste is_next h
