-- What stock moves change, and what they keep.
use Rattle.std.proofs.Common.{◌≡◌, ◌⊎◌, ◌↔◌, inl, inr, ℕ, ◌-◌, ◌<◌, ◌≤◌, zero, suc, Bool, true, false, ◌||◌, not, List}
use Rattle.std.proofs.Common.{[], ◌∷◌, ◌++◌, length, map, reverse, take, drop, refl, ap, sym, ◌∙◌, subst, arith}
use Rattle.std.proofs.Common.{append_assoc, append-nil, IsTrue, nat_lt, Some, None, if◌then◌else◌, take-append-drop}
use Rattle.std.proofs.lemmas.Bool.{cases_lt}
use Rattle.std.proofs.lemmas.List.{reverse-append, reverse-reverse}
use Rattle.card_piles.specs.declared.Card.{Card}
use Rattle.game_rules.specs.declared.RuleParts.{RuleParts}
use Rattle.game_rules.specs.declared.Move.{Move}
use Rattle.game_rules.specs.declared.Move.TheVariants.{Carry, Deal, Redeal}
use Rattle.game_rules.specs.declared.Target.{Target}
use Rattle.game_rules.specs.declared.Target.TheVariants.{ToWaste, ToTableau, ToHole}
use Rattle.game_rules.specs.Rules.{deals_to_waste, is_unlimited}
use Rattle.game_rules.specs.Playable.{IsPlayable}
use Rattle.game_rules.specs.Belonging.{Belongs}
use Rattle.game_rules.specs.Board.{Board, Pile, top_part, below_top}
use Rattle.game_rules.specs.Play.{Legal, is_empty, is_legal_redeal, dealt_each, after, after_deal_to}
use Rattle.game_rules.specs.StockMoves.{is_carry, stock_move, after_stock_move, after_stock_moves}
use Rattle.game_rules.specs.NextByStock.{IsNextByStock, HasStockMoves, queue}
use Rattle.game_rules.proofs.Limits.{both}
use Rattle.game_rules.proofs.KeepsBelonging.{belongs-after}

pub target-waste : (target : Target) → IsTrue (deals_to_waste target) → target ≡ ToWaste
target-waste ToWaste h = refl
target-waste ToTableau h = cc
target-waste ToHole h = cc

-- the board with other stock, waste and redeals
abbrev pub with_stock : Board → List Card → List Card → ℕ → Board
with_stock board stock waste redeals_left = record board { stock = stock; waste = waste; redeals_left = redeals_left }

-- what a deal and a redeal do
pub record Dealt (rules : RuleParts) (a b : Board) : Type 0 where
  pub some : 0 < length a.stock
  pub is_after : b ≡ with_stock a (below_top rules.draw a.stock)
      (a.waste ++ reverse (top_part rules.draw a.stock)) a.redeals_left

pub record Redealt (rules : RuleParts) (a b : Board) : Type 0 where
  pub none : a.stock ≡ []
  pub some : 0 < length a.waste
  pub left : IsTrue (is_unlimited rules.redeals || nat_lt 0 a.redeals_left)
  pub is_after : b ≡ with_stock a (reverse a.waste) []
      (if is_unlimited rules.redeals then a.redeals_left else a.redeals_left - 1)

pub empty_is : {A : Type 0} (xs : List A) → IsTrue (is_empty xs) → xs ≡ []
empty_is [] h = refl
empty_is (x ∷ xs) h = cc

pub some_is : {A : Type 0} (xs : List A) → IsTrue (not (is_empty xs)) → 0 < length xs
some_is [] h = cc
some_is (x ∷ xs) h = omega arith

pub after_deal : (rules : RuleParts) (a : Board) → IsTrue (deals_to_waste rules.target)
    → after rules a Deal ≡ with_stock a (below_top rules.draw a.stock)
    (a.waste ++ reverse (top_part rules.draw a.stock)) a.redeals_left
after_deal rules a to_waste = ap (λ (target : Target). after_deal_to target rules a)
    (target-waste rules.target to_waste)

-- a redeal is legal where the stock is empty alone
pub redeal-empty : (rules : RuleParts) (a : Board) → Legal rules a Redeal → a.stock ≡ []
redeal-empty rules a legal =
    let left = both _ _ legal in
    let some = both _ _ left.0 in
    let none = both _ _ some.0 in
    empty_is a.stock none.1

-- a stock move is a deal or a redeal
next_by : (rules : RuleParts) (a b : Board) (move : Move) → IsTrue (deals_to_waste rules.target)
    → IsTrue (not (is_carry move)) → Legal rules a move → b ≡ after rules a move → Dealt rules a b ⊎ Redealt rules a b
next_by rules a b (Carry from to count) to_waste stock legal is_after = cc
next_by rules a b Deal to_waste stock legal is_after =
    let tests = both _ _ legal in
    inl (record { some = some_is a.stock tests.0; is_after = is_after ∙ after_deal rules a to_waste })
next_by rules a b Redeal to_waste stock legal is_after =
    let left = both _ _ legal in
    let some = both _ _ left.0 in
    inr (record {
      none = redeal-empty rules a legal;
      some = some_is a.waste some.1;
      left = left.1;
      is_after = is_after;
    })

pub next_cases : (rules : RuleParts) (a b : Board) → IsTrue (deals_to_waste rules.target) → IsNextByStock rules a b
    → Dealt rules a b ⊎ Redealt rules a b
next_cases rules a b to_waste h = next_by rules a b h.move to_waste h.is_stock_move h.legal h.is_after

-- the queue of stock and waste stays

turned : (xs ys : List Card) → reverse (xs ++ reverse ys) ≡ ys ++ reverse xs
turned xs ys = reverse-append xs (reverse ys) ∙ ap (λ (zs : List Card). zs ++ reverse xs) (reverse-reverse ys)

deal_queue : (n : ℕ) (stock waste : List Card)
    → stock ++ reverse waste ≡ below_top n stock ++ reverse (waste ++ reverse (top_part n stock))
deal_queue n stock waste =
    let k : ℕ = length stock - n in
    ap (λ (xs : List Card). xs ++ reverse waste) (sym (take-append-drop k stock))
    ∙ append_assoc (take k stock) (drop k stock) (reverse waste)
    ∙ ap (λ (xs : List Card). take k stock ++ xs) (sym (turned waste (drop k stock)))

queue-dealt : (rules : RuleParts) (a b : Board) → Dealt rules a b → queue b ≡ queue a
queue-dealt rules a b h = ap queue h.is_after ∙ sym (deal_queue rules.draw a.stock a.waste)

queue-redealt : (rules : RuleParts) (a b : Board) → Redealt rules a b → queue b ≡ queue a
queue-redealt rules a b h =
    ap queue h.is_after ∙ append-nil (reverse a.waste) ∙ ap (λ (xs : List Card). xs ++ reverse a.waste) (sym h.none)

queue-next : (rules : RuleParts) (a b : Board) → IsTrue (deals_to_waste rules.target) → IsNextByStock rules a b
    → queue b ≡ queue a
queue-next rules a b to_waste h = elim (next_cases rules a b to_waste h) [
  | inl dealt ↦ queue-dealt rules a b dealt
  | inr redealt ↦ queue-redealt rules a b redealt
]

-- the one stock move

one_stock_move : (rules : RuleParts) (a : Board) (move : Move) → IsTrue (not (is_carry move)) → Legal rules a move
    → stock_move rules a ≡ Some move
one_stock_move rules a (Carry from to count) stock legal = cc
one_stock_move rules a Deal stock legal =
    let tests = both _ _ legal in
    let some : IsTrue (not (is_empty a.stock)) = tests.0 in
    rw some
one_stock_move rules a Redeal stock legal =
    let left = both _ _ legal in
    let some = both _ _ left.0 in
    let none = both _ _ some.0 in
    let empty : is_empty a.stock ≡ true = none.1 in
    let redeal : is_legal_redeal rules a ≡ true = legal in
    rw (redeal, empty)

pub deal_legal : (rules : RuleParts) (a : Board) → IsTrue (deals_to_waste rules.target)
    → IsTrue (not (is_empty a.stock)) → Legal rules a Deal
deal_legal rules a to_waste h = rw (h, target-waste rules.target to_waste)

redeal_or_none : (rules : RuleParts) (a : Board) (b : Bool) → is_legal_redeal rules a ≡ b
    → ((if b then Some Redeal else None) ≡ None)
    ⊎ ((if b then Some Redeal else None) ≡ Some Redeal) × Legal rules a Redeal
redeal_or_none rules a true e = inr (refl, e)
redeal_or_none rules a false e = inl refl

some_or_none : (rules : RuleParts) (a : Board) (b : Bool) → not (is_empty a.stock) ≡ b
    → IsTrue (deals_to_waste rules.target)
    → (stock_move rules a ≡ None)
    ⊎ ((move : Move) × (stock_move rules a ≡ Some move) × IsTrue (not (is_carry move)) × Legal rules a move)
some_or_none rules a true e to_waste = inr (Deal, rw e, refl, deal_legal rules a to_waste e)
some_or_none rules a false e to_waste = elim (redeal_or_none rules a (is_legal_redeal rules a) refl) [
  | inl none ↦ inl (rw (e, none))
  | inr redeal ↦ inr (Redeal, rw (e, redeal.0), refl, redeal.1)
]

-- a board has no stock move, or the one that leads to the next board
pub record HasNext (rules : RuleParts) (a : Board) : Type 0 where
  pub move : Move
  pub is_one : stock_move rules a ≡ Some move
  pub is_after : after_stock_move rules a ≡ after rules a move
  pub is_next : IsNextByStock rules a (after_stock_move rules a)

pub stock_move_cases : (rules : RuleParts) (a : Board) → IsTrue (deals_to_waste rules.target)
    → (stock_move rules a ≡ None) ⊎ HasNext rules a
stock_move_cases rules a to_waste = elim (some_or_none rules a (not (is_empty a.stock)) refl to_waste) [
  | inl none ↦ inl none
  | inr some ↦
      let e : stock_move rules a ≡ Some some.0 = some.1 in
      let after_is : after_stock_move rules a ≡ after rules a some.0 = rw (e, after_stock_move) refl in
      inr (record {
        move = some.0;
        is_one = e;
        is_after = after_is;
        is_next = record { move = some.0; is_stock_move = some.2; legal = some.3; is_after = after_is };
      })
]

-- a move is the next stock move exactly where it is legal and no carry
pub stock_move-exact : (rules : RuleParts) (a : Board) (move : Move) → IsTrue (deals_to_waste rules.target)
    → (stock_move rules a ≡ Some move) ↔ (IsTrue (not (is_carry move)) × Legal rules a move)
stock_move-exact rules a move to_waste = (
  λ is. elim (some_or_none rules a (not (is_empty a.stock)) refl to_waste) [
    | inl none ↦ absurd (let both_are : Some move ≡ None = sym is ∙ none in cc)
    | inr some ↦
        let same : Some some.0 ≡ Some move = sym some.1 ∙ is in
        let one : some.0 ≡ move = cc in
        rw (sym one) (some.2, some.3)
  ],
  λ h. one_stock_move rules a move h.0 h.1,
)

-- the queue stays along any number of stock moves
after_stock_move-none : (rules : RuleParts) (a : Board) → stock_move rules a ≡ None → after_stock_move rules a ≡ a
after_stock_move-none rules a none = rw (none, after_stock_move) refl

queue-step : (rules : RuleParts) (a : Board) → IsTrue (deals_to_waste rules.target)
    → queue (after_stock_move rules a) ≡ queue a
queue-step rules a to_waste = elim (stock_move_cases rules a to_waste) [
  | inl none ↦ ap queue (after_stock_move-none rules a none)
  | inr some ↦ queue-next rules a (after_stock_move rules a) to_waste some.is_next
]

pub queue-after_stock_moves : (rules : RuleParts) (k : ℕ) (board : Board) → IsTrue (deals_to_waste rules.target)
    → queue (after_stock_moves rules k board) ≡ queue board
queue-after_stock_moves rules zero board to_waste = refl
queue-after_stock_moves rules (suc k) board to_waste =
    queue-after_stock_moves rules k (after_stock_move rules board) to_waste ∙ queue-step rules board to_waste

-- a redeal makes the whole queue the stock
pub stock-redealt : (rules : RuleParts) (a : Board) → Legal rules a Redeal → (after rules a Redeal).stock ≡ queue a
stock-redealt rules a legal = ap (λ (xs : List Card). xs ++ reverse a.waste) (sym (redeal-empty rules a legal))

pub stock-after_pass : (rules : RuleParts) (board : Board) (k : ℕ) → IsTrue (deals_to_waste rules.target)
    → board.waste ≡ []
    → Legal rules (after_stock_moves rules k board) Redeal
    → (after rules (after_stock_moves rules k board) Redeal).stock ≡ board.stock
stock-after_pass rules board k to_waste none legal =
    stock-redealt rules (after_stock_moves rules k board) legal
    ∙ queue-after_stock_moves rules k board to_waste
    ∙ ap (λ (xs : List Card). board.stock ++ reverse xs) none
    ∙ append-nil board.stock

-- one stock move more
pub after_stock_moves-suc : (rules : RuleParts) (k : ℕ) (board : Board)
    → after_stock_moves rules (suc k) board ≡ after_stock_move rules (after_stock_moves rules k board)
after_stock_moves-suc rules zero board = refl
after_stock_moves-suc rules (suc k) board = after_stock_moves-suc rules k (after_stock_move rules board)

-- each board on the way belongs to the rules
pub belongs-after_stock_moves : (rules : RuleParts) (k : ℕ) (board : Board) → IsPlayable rules → Belongs rules board
    → HasStockMoves rules k board → (i : ℕ) → i ≤ k → Belongs rules (after_stock_moves rules i board)
belongs-after_stock_moves rules k board playable belongs has zero within = belongs
belongs-after_stock_moves rules k board playable belongs has (suc i) within =
    let here = belongs-after_stock_moves rules k board playable belongs has i (omega (arith, within)) in
    let next = has.each i (omega (arith, within)) in
    rw next.is_after (belongs-after rules (after_stock_moves rules i board) next.move playable here next.legal)

-- a deal keeps the number of cards of each pile that lie face down
face_down-dealt_each : (cards : List Card) (piles : List Pile)
    → map (λ pile. pile.face_down) (dealt_each cards piles) ≡ map (λ pile. pile.face_down) piles
face_down-dealt_each [] piles = refl
face_down-dealt_each (card ∷ cards) [] = refl
face_down-dealt_each (card ∷ cards) (pile ∷ piles) = ap (λ (ns : List ℕ). pile.face_down ∷ ns)
    (face_down-dealt_each cards piles)

face_down-dealt_to : (target : Target) (rules : RuleParts) (board : Board)
    → map (λ pile. pile.face_down) (after_deal_to target rules board).piles ≡ map (λ pile. pile.face_down) board.piles
face_down-dealt_to ToWaste rules board = refl
face_down-dealt_to ToTableau rules board = face_down-dealt_each
    (reverse (top_part (length board.piles) board.stock)) board.piles
face_down-dealt_to ToHole rules board = refl

pub face_down-after_deal : (rules : RuleParts) (board : Board)
    → map (λ pile. pile.face_down) (after rules board Deal).piles ≡ map (λ pile. pile.face_down) board.piles
face_down-after_deal rules board = face_down-dealt_to rules.target rules board

-- a stock move that is legal after so many is one more
pub next-of_legal : (rules : RuleParts) (a : Board) (move : Move) → IsTrue (not (is_carry move)) → Legal rules a move
    → IsNextByStock rules a (after_stock_move rules a) × (after_stock_move rules a ≡ after rules a move)
next-of_legal rules a move stock legal =
    let one : stock_move rules a ≡ Some move = one_stock_move rules a move stock legal in
    let is_after : after_stock_move rules a ≡ after rules a move = rw (one, after_stock_move) refl in
    (record { move = move; is_stock_move = stock; legal = legal; is_after = is_after }, is_after)

pub has-more : (rules : RuleParts) (k : ℕ) (board : Board) (move : Move) → IsTrue (deals_to_waste rules.target)
    → HasStockMoves rules k board → IsTrue (not (is_carry move)) → Legal rules (after_stock_moves rules k board) move
    → HasStockMoves rules (suc k) board
    × (after_stock_moves rules (suc k) board ≡ after rules (after_stock_moves rules k board) move)
has-more rules k board move to_waste has stock legal =
    let more = after_stock_moves-suc rules k board in
    let next = next-of_legal rules (after_stock_moves rules k board) move stock legal in
    let last : IsNextByStock rules (after_stock_moves rules k board) (after_stock_moves rules (suc k) board) =
    rw more next.0 in (
      record {
        to_waste = λ some. to_waste;
        each = λ i below. elim (cases_lt i k) [
          | inl before ↦ has.each i before
          | inr here ↦
              let same : k ≡ i = omega (arith, below, here) in
              subst (λ j. IsNextByStock rules (after_stock_moves rules j board) (after_stock_moves rules (suc j) board))
              same last
        ];
      },
      more ∙ next.1,
    )
