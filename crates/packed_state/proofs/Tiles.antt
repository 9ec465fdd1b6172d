-- How many cards are due on all places together.
use Rattle.std.proofs.Common.{◌≡◌, ℕ, zero, suc, ◌+◌, ◌*◌, ◌<◌, ◌≤◌, Bool, true, false, List, [], ◌∷◌, map}
use Rattle.std.proofs.Common.{length, get_or, refl, ap, ap₂, ◌∙◌, arith, mul-le-mul}
use Rattle.std.specs.Prelude.{Option, Some, None, cond, is_some, if◌then◌else◌}
use Rattle.std.specs.Option.{option_to_list}
use Rattle.std.specs.List.{range_with_len, sum_by, sum, count_by}
use Rattle.std.proofs.lemmas.List.Sums.{sum_by-cons, sum_by-take-le}
use Rattle.std.proofs.lemmas.List.FromFn.{take-map-range_with_len, sum_by-map-range_with_len_more}
use Rattle.card_piles.specs.declared.Card.{Card}
use Rattle.game_rules.specs.declared.RuleParts.{RuleParts}
use Rattle.game_rules.specs.Rules.{is_foundation_goal, is_sequence_goal}
use Rattle.game_rules.specs.Playable.{HasLimits}
use Rattle.game_rules.specs.Board.{Board, Pile, empty_pile, height_at}
use Rattle.game_rules.specs.Belonging.{Belongs}
use Rattle.game_rules.specs.Counting.{card_count}
use Rattle.packed_state.specs.Packing.{shape_of, cards_due}
use Rattle.packed_state.specs.Packed.{IsSmall}
use Rattle.packed_state.proofs.Due.{due_pile, due_cell, due_entry, due_waste, due_stock, due_home, due_hole, due_slot}
use Rattle.packed_state.proofs.Due.{length-home_cards}

-- how many cards so many places have, from one on
abbrev pub sizes_from : (ℕ → List Card) → ℕ → ℕ → ℕ
sizes_from f a n = sum_by length (map f (range_with_len a n))

pub one_more : (f : ℕ → List Card) (n : ℕ) → sizes_from f 0 (n + 1) ≡ sizes_from f 0 n + length (f n)
one_more f n = sum_by-map-range_with_len_more length f 0 n n (omega arith)

pub no_more : (f : ℕ → List Card) (k n : ℕ) → k ≤ n → sizes_from f 0 k ≤ sizes_from f 0 n
no_more f k n le =
    let cut = ap (λ (xs : List (List Card)). sum_by length xs) (take-map-range_with_len f 0 n k le) in
    let less = sum_by-take-le length (map f (range_with_len 0 n)) k in
    omega arith

-- some places, and then some more
cut : (f : ℕ → List Card) (a n m b t : ℕ) → b ≡ a + n → t ≡ n + m
    → sizes_from f a t ≡ sizes_from f a n + sizes_from f b m
cut f a zero m b t e g =
    let at = ap (λ (x : ℕ). sizes_from f x m) (let same : b ≡ a = omega arith in same) in
    let all = ap (sizes_from f a) (let same : t ≡ m = omega arith in same) in
    let nothing : sizes_from f a 0 ≡ 0 = refl in
    omega arith
cut f a (suc n) m b zero e g = absurd (omega arith)
cut f a (suc n) m b (suc t) e g =
    let first = sum_by-cons length (f a) (map f (range_with_len (a + 1) t)) in
    let before = sum_by-cons length (f a) (map f (range_with_len (a + 1) n)) in
    let rest = cut f (a + 1) n m b t (omega arith) (omega arith) in
    omega arith

-- places that have the elements of a list have as many cards as these
tile : {X : Type 0} (w : X → ℕ) (d : X) → w d ≡ 0 → (f : ℕ → List Card) (xs : List X) (a n : ℕ) → length xs ≤ n
    → ((i p : ℕ) → p ≡ a + i → i < n → length (f p) ≡ w (get_or xs i d)) → sizes_from f a n ≡ sum_by w xs
tile w d none f [] a zero le each = refl
tile w d none f (x ∷ xs) a zero le each = absurd (omega arith)
tile w d none f [] a (suc n) le each =
    let first = sum_by-cons length (f a) (map f (range_with_len (a + 1) n)) in
    let here = each 0 a (omega arith) (omega arith) in
    let rest = tile w d none f [] (a + 1) n (omega arith) (λ i p e li. each (suc i) p (omega arith) (omega arith)) in
    let nothing : sum_by w [] ≡ 0 = refl in
    omega arith
tile w d none f (x ∷ xs) a (suc n) le each =
    let first = sum_by-cons length (f a) (map f (range_with_len (a + 1) n)) in
    let all = sum_by-cons w x xs in
    let here = each 0 a (omega arith) (omega arith) in
    let rest = tile w d none f xs (a + 1) n (omega arith) (λ i p e li. each (suc i) p (omega arith) (omega arith)) in
    omega arith

-- one place
alone : (f : ℕ → List Card) (a : ℕ) → sizes_from f a 1 ≡ length (f a)
alone f a = sum_by-cons length (f a) [] ∙ (let none : length (f a) + 0 ≡ length (f a) = omega arith in none)

one_long : (e : Option Card) → length (option_to_list e) ≡ cond (is_some e) 1 0
one_long None = refl
one_long (Some c) = refl

regroup : (a b c d e f g h : ℕ) → a + (b + (c + (d + (e + (f + (g + h)))))) ≡ a + b + c + e + d + f + g + h
regroup a b c d e f g h = omega arith

module _ (rules : RuleParts) (board : Board) (small : IsSmall (shape_of board)) where
  abbrev due : ℕ → List Card
  due = cards_due rules board

  in_piles : sizes_from due 0 20 ≡ sum_by (λ (pile : Pile). length pile.cards) board.piles
  in_piles =
      tile (λ (pile : Pile). length pile.cards) empty_pile refl due board.piles 0 20 small.piles
      (λ i p e li. let same : p ≡ i = omega arith in
      ap length (ap due same ∙ due_pile rules board i li))

  entries_of : (entries : List (Option Card)) (a n : ℕ) → length entries ≤ n
      → ((i p : ℕ) → p ≡ a + i → i < n → due p ≡ option_to_list (get_or entries i None))
      → sizes_from due a n ≡ count_by (λ e. is_some e) entries
  entries_of entries a n le each =
      tile (λ (e : Option Card). cond (is_some e) 1 0) None refl due entries a n le
      (λ i p e li. ap length (each i p e li) ∙ one_long (get_or entries i None))

  in_cells : sizes_from due 20 16 ≡ count_by (λ e. is_some e) board.cells
  in_cells = entries_of board.cells 20 16 small.cells (due_cell rules board)

  in_reserve : sizes_from due 36 52 ≡ count_by (λ e. is_some e) board.reserve
  in_reserve = entries_of board.reserve 36 52 small.entries (due_entry rules board)

  in_waste : sizes_from due 88 1 ≡ length board.waste
  in_waste = alone due 88 ∙ ap length (due_waste rules board 88 refl)

  in_stock : sizes_from due 89 1 ≡ length board.stock
  in_stock = alone due 89 ∙ ap length (due_stock rules board 89 refl)

  at_home : sizes_from due 90 16 ≡ sum board.heights
  at_home =
      tile (λ (n : ℕ). n) 0 refl due board.heights 90 16 small.foundations
      (λ i p e li. ap length (due_home rules board i p e li) ∙ length-home_cards rules i (height_at board i))

  in_hole : sizes_from due 106 1 ≡ length board.hole
  in_hole = alone due 106 ∙ ap length (due_hole rules board 106 refl)

  in_slots : sizes_from due 107 208 ≡ count_by (λ e. is_some e) board.slots
  in_slots = entries_of board.slots 107 208 small.slots (λ i p e li. due_slot rules board i p e)

  -- all places have the cards of the board
  pub all_due : (n : ℕ) → n ≡ 315 → sizes_from due 0 n ≡ card_count board
  all_due n e =
      cut due 0 20 295 20 n (omega arith) (omega arith)
      ∙ ap₂ ◌+◌ in_piles (cut due 20 16 279 36 295 (omega arith) (omega arith)
      ∙ ap₂ ◌+◌ in_cells (cut due 36 52 227 88 279 (omega arith) (omega arith)
      ∙ ap₂ ◌+◌ in_reserve (cut due 88 1 226 89 227 (omega arith) (omega arith)
      ∙ ap₂ ◌+◌ in_waste (cut due 89 1 225 90 226 (omega arith) (omega arith)
      ∙ ap₂ ◌+◌ in_stock (cut due 90 16 209 106 225 (omega arith) (omega arith)
      ∙ ap₂ ◌+◌ at_home (cut due 106 1 208 107 209 (omega arith) (omega arith)
      ∙ ap₂ ◌+◌ in_hole in_slots))))))
      ∙ regroup _ _ _ _ _ _ _ _

few_foundations : (b : Bool) (n : ℕ) → n ≤ 2 → (if b then 4 * n else 0) ≤ 16
few_foundations true n h = omega arith
few_foundations false n h = omega arith

few_slots : (b : Bool) (n m : ℕ) → n ≤ 2 → m ≤ 13 → (if b then 4 * n * m else 0) ≤ 208
few_slots true n m h k =
    let four : 4 * n ≤ 8 = omega arith in
    let product : 4 * n * m ≤ 8 * 13 = mul-le-mul four k in
    omega arith
few_slots false n m h k = omega arith

pub small_board : (rules : RuleParts) (board : Board) → HasLimits rules → Belongs rules board → IsSmall (shape_of board)
small_board rules board limits b =
    let foundations = few_foundations (is_foundation_goal rules.goal) rules.decks limits.decks in
    let slots = few_slots (is_sequence_goal rules.goal) rules.decks rules.max_rank limits.decks limits.max_rank in
    let piles = limits.piles in let cells = limits.cells in let reserve = limits.reserve in
    let p = b.piles in let c = b.cells in let r = b.reserve_size in let f = b.foundations in let s = b.slots in
    record {
      piles = omega arith;
      cells = omega arith;
      entries = omega arith;
      foundations = omega arith;
      slots = omega arith;
    }
