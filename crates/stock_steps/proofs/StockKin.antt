-- What a stock move changes: the border between stock and waste, and the redeals left.
use Rattle.std.proofs.Common.{◌≡◌, ◌⊎◌, inl, inr, ℕ, zero, suc, ◌+◌, ◌-◌, ◌<◌, ◌≤◌, ◌&&◌, ◌||◌, not, List, [], ◌∷◌}
use Rattle.std.proofs.Common.{◌++◌, length, reverse, take, drop, refl, ap, sym, ◌∙◌, subst, arith, IsTrue, Some, nat_lt}
use Rattle.std.proofs.Common.{if◌then◌else◌, length-append, length-take, ◌==◌}
use Rattle.std.proofs.lemmas.List.{reverse-reverse, length-reverse, take_at, drop_at}
use Rattle.std.proofs.lemmas.Bool.Decides.{nat_tests}
use Rattle.card_piles.specs.Cards.{number_of}
use Rattle.card_piles.specs.declared.Card.{Card}
use Rattle.game_rules.specs.declared.RuleParts.{RuleParts}
use Rattle.game_rules.specs.declared.Move.{Move}
use Rattle.game_rules.specs.declared.Move.TheVariants.{Carry, Deal, Redeal}
use Rattle.game_rules.specs.Rules.{deals_to_waste, is_unlimited}
use Rattle.game_rules.specs.Board.{Board, top_part, below_top}
use Rattle.game_rules.specs.Play.{Legal, is_empty, after}
use Rattle.game_rules.specs.StockMoves.{is_carry, stock_move, after_stock_move, after_stock_moves}
use Rattle.game_rules.specs.NextByStock.{IsNextByStock, queue}
use Rattle.game_rules.proofs.Limits.{both}
use Rattle.game_rules.proofs.StockMoves.{with_stock, Dealt, after_deal, stock_move-exact}
use Rattle.game_rules.proofs.StockMoves.{stock_move_cases, queue-after_stock_moves}
pub use Rattle.game_rules.proofs.StockMoves.{Redealt, empty_is, some_is, deal_legal, next_cases}
use Rattle.stock_steps.specs.Steps.{same_cards, same_stock}

-- boards that differ in stock, waste and redeals alone, with one queue
pub record Kin (a b : Board) : Type 0 where
  pub rest : b ≡ with_stock a b.stock b.waste b.redeals_left
  pub queue : queue a ≡ queue b

pub Kin-refl : (a : Board) → Kin a a
Kin-refl a = record { rest = refl; queue = refl }

pub Kin-trans : (a b c : Board) → Kin a b → Kin b c → Kin a c
Kin-trans a b c h k = record {
  rest = k.rest ∙ ap (λ (x : Board). with_stock x c.stock c.waste c.redeals_left) h.rest;
  queue = h.queue ∙ k.queue;
}

pub Kin-sym : (a b : Board) → Kin a b → Kin b a
Kin-sym a b h = record {
  rest = sym (ap (λ (x : Board). with_stock x a.stock a.waste a.redeals_left) h.rest);
  queue = sym h.queue;
}

pub one_stock_move : (rules : RuleParts) (a : Board) (move : Move) → IsTrue (deals_to_waste rules.target)
    → IsTrue (not (is_carry move)) → Legal rules a move → stock_move rules a ≡ Some move
one_stock_move rules a move to_waste stock legal = (stock_move-exact rules a move to_waste).1 (stock, legal)

-- the next board is the one that the functions compute
pub next_is : (rules : RuleParts) (a b : Board) → IsTrue (deals_to_waste rules.target) → IsNextByStock rules a b
    → b ≡ after_stock_move rules a
next_is rules a b to_waste h =
    let e : stock_move rules a ≡ Some h.move = one_stock_move rules a h.move to_waste h.is_stock_move h.legal in
    rw (e, after_stock_move) h.is_after

rest_by : (a b : Board) (stock waste : List Card) (left : ℕ) → b ≡ with_stock a stock waste left
    → b ≡ with_stock a b.stock b.waste b.redeals_left
rest_by a b stock waste left h = h ∙ ap (λ (x : Board). with_stock a x.stock x.waste x.redeals_left) (sym h)

next_rest : (rules : RuleParts) (a b : Board) → Dealt rules a b ⊎ Redealt rules a b
    → b ≡ with_stock a b.stock b.waste b.redeals_left
next_rest rules a b h = elim h [
  | inl dealt ↦ rest_by a b _ _ _ dealt.is_after
  | inr redealt ↦ rest_by a b _ _ _ redealt.is_after
]

pub next_kin : (rules : RuleParts) (a b : Board) → IsTrue (deals_to_waste rules.target)
    → IsNextByStock rules a b → Kin a b
next_kin rules a b to_waste h = record {
  rest = next_rest rules a b (next_cases rules a b to_waste h);
  queue = sym (ap queue (next_is rules a b to_waste h) ∙ queue-after_stock_moves rules 1 a to_waste);
}

-- stock moves lead to kin of the first board
kin_step : (rules : RuleParts) (a : Board) → IsTrue (deals_to_waste rules.target) → Kin a (after_stock_move rules a)
kin_step rules a to_waste = elim (stock_move_cases rules a to_waste) [
  | inl none ↦
      let same : after_stock_move rules a ≡ a = rw (none, after_stock_move) refl in
      subst (λ (b : Board). Kin a b) (sym same) (Kin-refl a)
  | inr next ↦ next_kin rules a (after_stock_move rules a) to_waste next.is_next
]

pub kin_after : (rules : RuleParts) (k : ℕ) (a : Board) → IsTrue (deals_to_waste rules.target)
    → Kin a (after_stock_moves rules k a)
kin_after rules zero a to_waste = Kin-refl a
kin_after rules (suc k) a to_waste =
    Kin-trans a (after_stock_move rules a) (after_stock_moves rules k (after_stock_move rules a))
    (kin_step rules a to_waste) (kin_after rules k (after_stock_move rules a) to_waste)

-- lengths

abbrev pub size : Board → ℕ
size board = length board.stock + length board.waste

pub kin_size : (a b : Board) → Kin a b → size a ≡ size b
kin_size a b h =
    omega (
      arith,
      ap length h.queue,
      length-append a.stock (reverse a.waste),
      length-append b.stock (reverse b.waste),
      length-reverse a.waste,
      length-reverse b.waste,
    )

pub dealt_less : (rules : RuleParts) (a b : Board) → 1 ≤ rules.draw → Dealt rules a b → length b.stock < length a.stock
dealt_less rules a b draws h =
    let some : 0 < length a.stock = h.some in
    omega (arith, ap (λ (x : Board). length x.stock) h.is_after, length-take (length a.stock - rules.draw) a.stock)

pub dealt_length : (rules : RuleParts) (a b : Board) → Dealt rules a b → length b.stock ≡ length a.stock - rules.draw
dealt_length rules a b h =
    omega (arith, ap (λ (x : Board). length x.stock) h.is_after, length-take (length a.stock - rules.draw) a.stock)

pub redealt_length : (rules : RuleParts) (a b : Board) → Redealt rules a b → (length a.stock ≡ 0)
    × (length b.stock ≡ length a.waste)
redealt_length rules a b h =
    (ap length h.none, ap (λ (x : Board). length x.stock) h.is_after ∙ length-reverse a.waste)

pub dealt_redeals : (rules : RuleParts) (a b : Board) → Dealt rules a b → b.redeals_left ≡ a.redeals_left
dealt_redeals rules a b h = ap (λ (x : Board). x.redeals_left) h.is_after

-- boards of one queue whose stocks pass the test of being the same are equal

same_number : (n : ℕ) → IsTrue (n == n)
same_number n = grind (arith, nat_tests)

same_cards-refl : (xs : List Card) → IsTrue (same_cards xs xs)
same_cards-refl [] = refl
same_cards-refl (x ∷ xs) = rw (same_number (number_of x)) (same_cards-refl xs)

pub same_stock-refl : (a : Board) → IsTrue (same_stock a a)
same_stock-refl a = rw (same_cards-refl a.stock, same_cards-refl a.waste, same_number a.redeals_left)

pub same_stock-equal : (a b : Board) → a ≡ b → IsTrue (same_stock a b)
same_stock-equal a b e = subst (λ (x : Board). IsTrue (same_stock a x)) e (same_stock-refl a)

same_cards_length : (xs ys : List Card) → IsTrue (same_cards xs ys) → length xs ≡ length ys
same_cards_length [] [] h = refl
same_cards_length [] (y ∷ ys) h = cc
same_cards_length (x ∷ xs) [] h = cc
same_cards_length (x ∷ xs) (y ∷ ys) h =
    let parts = both (number_of x == number_of y) (same_cards xs ys) h in
    omega (arith, same_cards_length xs ys parts.1)

pub front_same : (xs ys zs ws : List Card) → length xs ≡ length ys → xs ++ zs ≡ ys ++ ws → xs ≡ ys
front_same xs ys zs ws lengths e =
    sym (take_at xs zs (length xs) refl) ∙ ap (take (length xs)) e ∙ take_at ys ws (length xs) (sym lengths)

pub back_same : (xs ys zs ws : List Card) → length xs ≡ length ys → xs ++ zs ≡ ys ++ ws → zs ≡ ws
back_same xs ys zs ws lengths e =
    sym (drop_at xs zs (length xs) refl) ∙ ap (drop (length xs)) e ∙ drop_at ys ws (length xs) (sym lengths)

same_from_test : (a b : ℕ) → IsTrue (a == b) → a ≡ b
same_from_test a b h = grind (arith, nat_tests)

-- boards of one queue with stocks of one length and the same redeals are equal
pub same_length : (a b : Board) → Kin a b → a.redeals_left ≡ b.redeals_left → length a.stock ≡ length b.stock → a ≡ b
same_length a b kin left lengths =
    let stock : a.stock ≡ b.stock = front_same a.stock b.stock (reverse a.waste) (reverse b.waste) lengths kin.queue in
    let turned_waste : reverse a.waste ≡ reverse b.waste = back_same a.stock b.stock (reverse a.waste)
    (reverse b.waste) lengths kin.queue in
    let waste : a.waste ≡ b.waste = sym (reverse-reverse a.waste) ∙ ap reverse turned_waste ∙ reverse-reverse b.waste in
    ap (λ (s : List Card). with_stock a s a.waste a.redeals_left) stock
    ∙ ap (λ (w : List Card). with_stock a b.stock w a.redeals_left) waste
    ∙ ap (λ (r : ℕ). with_stock a b.stock b.waste r) left
    ∙ sym kin.rest

pub kin_same : (a b : Board) → Kin a b → IsTrue (same_stock a b) → a ≡ b
kin_same a b kin h =
    let redeals = both (same_cards a.stock b.stock && same_cards a.waste b.waste)
    (a.redeals_left == b.redeals_left) h in
    let cards = both (same_cards a.stock b.stock) (same_cards a.waste b.waste) redeals.0 in
    same_length a b kin (same_from_test a.redeals_left b.redeals_left redeals.1)
    (same_cards_length a.stock b.stock cards.0)
