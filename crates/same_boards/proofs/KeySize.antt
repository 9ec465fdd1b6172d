-- How long a key is.
use Rattle.std.proofs.Common.{◌≡◌, ℕ, ◌+◌, ◌*◌, ◌≤◌, Bool, true, false, ◌&&◌, List, [], ◌∷◌, ◌++◌, map, length, refl}
use Rattle.std.proofs.Common.{ap, ◌∙◌, arith, length-append}
use Rattle.std.specs.Prelude.{not, nat_eq, Option, Some, None, if◌then◌else◌}
use Rattle.std.specs.List.{sum_by, concat}
use Rattle.std.specs.Ordering.{nat_cmp}
use Rattle.std.specs.declared.cmp.Ordering.{Ordering}
use Rattle.std.specs.Cmp.Lexicographic.{slice_cmp}
use Rattle.std.proofs.lemmas.List.{length-map}
use Rattle.std.proofs.lemmas.List.Concat.{concat_is, length-flat_map}
use Rattle.std.proofs.lemmas.List.Elements.{All-weaker}
use Rattle.std.proofs.lemmas.List.Sums.{sum_by-cons, sum_by-le}
use Rattle.std.proofs.lemmas.List.Sorted.{length_permutation, sum_by-IsPermutation}
use Rattle.std.proofs.lemmas.Bool.{eqb-true, cases_Bool}
use native.Mathlib.Nat.{mul-le-mul}
use Rattle.same_boards.proofs.Renaming.{either}
use Rattle.card_piles.specs.declared.Card.{Card}
use Rattle.game_rules.specs.declared.RuleParts.{RuleParts}
use Rattle.game_rules.specs.declared.Goal.{Goal}
use Rattle.game_rules.specs.declared.Goal.TheVariants.{Foundations, Hole, Sequences}
use Rattle.game_rules.specs.Rules.{is_foundation_goal, is_hole_goal, is_sequence_goal}
use Rattle.game_rules.specs.Conflicts.{has_parts_beside_rows}
use Rattle.game_rules.specs.Playable.{IsPlayable, HasLimits}
use Rattle.game_rules.specs.Board.{Board, Pile, top_of}
use Rattle.game_rules.specs.Belonging.{Belongs}
use Rattle.same_boards.specs.Same.{keeps_pile_order, heights_of_suit}
use Rattle.same_boards.specs.Keys.{sorted, sorted_bytes, sorted_lists, card_byte, card_bytes, entry_byte, cards_in}
use Rattle.same_boards.specs.Keys.{hole_bytes, cell_bytes, reserve_bytes, pile_bytes, piles_bytes, rows_bytes}
use Rattle.same_boards.specs.Keys.{key_bytes, key_with}
use Rattle.game_rules.proofs.Limits.{limits_of, both}
use Rattle.same_boards.proofs.Sorting.{sorted-permutation}
use Rattle.same_boards.proofs.KeysSame.{all_heights, suit_size, sorted_rows, sorted_rows-long, sorted_rows-size}
use Rattle.same_boards.proofs.CardCount.{cards-few_for_decks}
use Rattle.same_boards.proofs.BoardCards.{cards_of_piles, cards_of_board}

-- ---- the parts

pub sorted-size : {A : Type 0} (R : A → A → Ordering) (xs : List A) → length (sorted R xs) ≡ length xs
sorted-size R xs = length_permutation xs (sorted R xs) (sorted-permutation R xs)

pub cells-size : (entries : List (Option Card))
    → length (sorted_bytes (card_bytes (cards_in entries))) ≡ length (cards_in entries)
cells-size entries = sorted-size nat_cmp (card_bytes (cards_in entries)) ∙ length-map (cards_in entries) card_byte

pub reserve-size : (t : Bool) (entries : List (Option Card))
    → length (if t then card_bytes (cards_in entries) else sorted_bytes (card_bytes (cards_in entries)))
    ≡ length (cards_in entries)
reserve-size true entries = length-map (cards_in entries) card_byte
reserve-size false entries = cells-size entries

heights-size : (rules : RuleParts) (board : Board) → length (all_heights rules board) ≡ 4 * rules.decks
heights-size rules board =
    let h₀ : List ℕ = sorted_bytes (heights_of_suit rules board 0) in
    let h₁ : List ℕ = sorted_bytes (heights_of_suit rules board 1) in
    let h₂ : List ℕ = sorted_bytes (heights_of_suit rules board 2) in
    let h₃ : List ℕ = sorted_bytes (heights_of_suit rules board 3) in
    let e₁ = length-append h₀ (h₁ ++ (h₂ ++ h₃)) in
    let e₂ = length-append h₁ (h₂ ++ h₃) in
    let e₃ = length-append h₂ h₃ in
    let n₀ : length h₀ ≡ rules.decks = suit_size rules board 0 in
    let n₁ : length h₁ ≡ rules.decks = suit_size rules board 1 in
    let n₂ : length h₂ ≡ rules.decks = suit_size rules board 2 in
    let n₃ : length h₃ ≡ rules.decks = suit_size rules board 3 in
    omega (arith, e₁, e₂, e₃, n₀, n₁, n₂, n₃)

concat-size : (lists : List (List ℕ)) → length (concat lists) ≡ sum_by (λ (list : List ℕ). length list) lists
concat-size lists = ap (λ (bytes : List ℕ). length bytes) (concat_is lists)
    ∙ length-flat_map (λ (list : List ℕ). list) lists

pile_lists-size : (piles : List Pile)
    → sum_by (λ (list : List ℕ). length list) (map pile_bytes piles) ≡ 2 * length piles + length (cards_of_piles piles)
pile_lists-size [] = refl
pile_lists-size (pile ∷ piles) =
    let step = sum_by-cons (λ (list : List ℕ). length list) (pile_bytes pile) (map pile_bytes piles) in
    let one : length (card_bytes pile.cards) ≡ length pile.cards = length-map pile.cards card_byte in
    let whole = length-append pile.cards (cards_of_piles piles) in
    let rest = pile_lists-size piles in
    omega (arith, step, one, whole, rest)

piles-size : (t : Bool) (piles : List Pile)
    → length (concat (if t then map pile_bytes piles else sorted_lists (map pile_bytes piles))) ≡ 2 * length piles
    + length (cards_of_piles piles)
piles-size true piles = concat-size (map pile_bytes piles) ∙ pile_lists-size piles
piles-size false piles =
    concat-size (sorted_lists (map pile_bytes piles))
    ∙ sum_by-IsPermutation (λ (list : List ℕ). length list) (map pile_bytes piles) (sorted_lists (map pile_bytes piles))
    (sorted-permutation (slice_cmp nat_cmp) (map pile_bytes piles))
    ∙ pile_lists-size piles

at_most_same : (a b : ℕ) → a ≡ b → a ≤ b
at_most_same a b e = omega arith

rows-size : (rules : RuleParts) (board : Board) → length board.slots ≡ 4 * rules.decks * rules.max_rank
    → length (concat (sorted_rows rules board)) ≤ 4 * rules.decks * rules.max_rank
rows-size rules board size =
    let sum = concat-size (sorted_rows rules board) in
    let most : sum_by (λ (list : List ℕ). length list) (sorted_rows rules board) ≤ length (sorted_rows rules board)
    * rules.max_rank =
    sum_by-le (λ (list : List ℕ). length list) rules.max_rank (sorted_rows rules board)
    (All-weaker (λ (row : List ℕ). length row ≡ rules.max_rank) (λ (row : List ℕ). length row ≤ rules.max_rank)
    (λ row e. at_most_same (length row) rules.max_rank e)
    (sorted_rows rules board) (sorted_rows-long rules board size)) in
    let count : length (sorted_rows rules board) * rules.max_rank ≡ 4 * rules.decks * rules.max_rank =
    ap (λ (n : ℕ). n * rules.max_rank) (sorted_rows-size rules board) in
    omega (arith, sum, most, count)

-- ---- games of sequences have their cards in rows alone

cards_in-few : (entries : List (Option Card)) → length (cards_in entries) ≤ length entries
cards_in-few [] = omega arith
cards_in-few (None ∷ entries) = let rest = cards_in-few entries in omega (arith, rest)
cards_in-few (Some card ∷ entries) = let rest = cards_in-few entries in omega (arith, rest)

first_false : (b : Bool) (n : ℕ) (rest : Option ℕ) → (if b then Some n else rest) ≡ None → b ≡ false
first_false true n rest h = cc
first_false false n rest h = refl

no_other : (t x : Bool) → t ≡ true → (t && not x) ≡ false → x ≡ true
no_other true true e h = refl
no_other true false e h = cc
no_other false x e h = cc

pub record RowsAlone (rules : RuleParts) : Type 0 where
  pub piles : rules.piles ≡ 0
  pub cells : rules.cells ≡ 0
  pub reserve : rules.reserve ≡ 0
  pub stock : rules.stock ≡ 0

pub rows_alone : (rules : RuleParts) → IsPlayable rules → is_sequence_goal rules.goal ≡ true → RowsAlone rules
rows_alone rules playable goal =
    let none : has_parts_beside_rows rules ≡ false = first_false
    (has_parts_beside_rows rules) 2 _ playable.no_conflict in
    let all = no_other (is_sequence_goal rules.goal)
    (nat_eq rules.piles 0 && nat_eq rules.cells 0 && nat_eq rules.reserve 0 && nat_eq rules.stock 0) goal none in
    let three = both (nat_eq rules.piles 0 && nat_eq rules.cells 0 && nat_eq rules.reserve 0)
    (nat_eq rules.stock 0) all in
    let two = both (nat_eq rules.piles 0 && nat_eq rules.cells 0) (nat_eq rules.reserve 0) three.0 in
    let one = both (nat_eq rules.piles 0) (nat_eq rules.cells 0) two.0 in
    record {
      piles = eqb-true rules.piles 0 one.0;
      cells = eqb-true rules.cells 0 one.1;
      reserve = eqb-true rules.reserve 0 two.1;
      stock = eqb-true rules.stock 0 three.1;
    }

-- ---- the whole key

if_kept : (t : Bool) (xs : List ℕ) → length (if t then xs else []) ≤ length xs
if_kept true xs = omega arith
if_kept false xs = omega arith

if_left_out : (t : Bool) (xs : List ℕ) → t ≡ false → length (if t then xs else []) ≡ 0
if_left_out true xs e = cc
if_left_out false xs e = refl

no_foundations : (goal : Goal) → is_hole_goal goal ≡ true → is_foundation_goal goal ≡ false
no_foundations (Hole wrap start) e = refl
no_foundations goal e = cc

no_sequence_foundations : (goal : Goal) → is_sequence_goal goal ≡ true → is_foundation_goal goal ≡ false
no_sequence_foundations Sequences e = refl
no_sequence_foundations goal e = cc

no_sequence_hole : (goal : Goal) → is_sequence_goal goal ≡ true → is_hole_goal goal ≡ false
no_sequence_hole (Hole wrap start) e = cc
no_sequence_hole goal e = refl

whole_if : (t : Bool) (n m : ℕ) → t ≡ true → n ≡ (if t then m else 0) → n ≡ m
whole_if true n m e h = h
whole_if false n m e h = cc

-- the heights and the hole take at most 8 bytes together
small_parts : (rules : RuleParts) (board : Board) (heights : List ℕ) → HasLimits rules
    → length heights ≡ 4 * rules.decks
    → length (if is_foundation_goal rules.goal then heights else []) + length (hole_bytes rules board) ≤ 8
small_parts rules board heights limits n =
    let decks : rules.decks ≤ 2 = limits.decks in
    let h : length (if is_foundation_goal rules.goal then heights else []) ≤ length heights = if_kept
    (is_foundation_goal rules.goal) heights in
    let o : length (hole_bytes rules board) ≤ 2 = if_kept (is_hole_goal rules.goal)
    (length board.hole ∷ entry_byte (top_of board.hole) ∷ []) in
    either (cases_Bool (is_hole_goal rules.goal))
    (λ yes. let none : length (if is_foundation_goal rules.goal then heights else []) ≡ 0 = if_left_out
    (is_foundation_goal rules.goal) heights (no_foundations rules.goal yes) in
    omega (arith, none, o))
    (λ no. let none : length (hole_bytes rules board) ≡ 0 = if_left_out (is_hole_goal rules.goal)
    (length board.hole ∷ entry_byte (top_of board.hole) ∷ []) no in
    omega (arith, none, h, n, decks))

-- the length of the pieces of a key one after the other
piece-lengths : (s w h o c r p q : List ℕ)
    → length (length s ∷ s ++ (length w ∷ w ++ (h ++ (o ++ (length c ∷ c ++ (length r ∷ r ++ (p ++ q)))))))
    ≡ 4 + length s + length w + length h + length o + length c + length r + length p + length q
piece-lengths s w h o c r p q =
    omega (
      arith,
      length-append s (length w ∷ w ++ (h ++ (o ++ (length c ∷ c ++ (length r ∷ r ++ (p ++ q)))))),
      length-append w (h ++ (o ++ (length c ∷ c ++ (length r ∷ r ++ (p ++ q))))),
      length-append h (o ++ (length c ∷ c ++ (length r ∷ r ++ (p ++ q)))),
      length-append o (length c ∷ c ++ (length r ∷ r ++ (p ++ q))),
      length-append c (length r ∷ r ++ (p ++ q)),
      length-append r (p ++ q),
      length-append p q,
    )

-- the length is the sum of the parts
pub key-length : (rules : RuleParts) (board : Board) (h : List ℕ) → length (key_with h rules board)
    ≡ 5 + length board.stock + length board.waste + length h + length (hole_bytes rules board)
    + length (cards_in board.cells) + length (cards_in board.reserve)
    + (2 * length board.piles + length (cards_of_piles board.piles)) + length (rows_bytes rules board)
key-length rules board h =
    let pieces = piece-lengths (card_bytes board.stock) (card_bytes board.waste) h (hole_bytes rules board)
    (cell_bytes board)
    (reserve_bytes rules board) (concat (piles_bytes rules board)) (rows_bytes rules board) in
    let n₁ : length (card_bytes board.stock) ≡ length board.stock = length-map board.stock card_byte in
    let n₂ : length (card_bytes board.waste) ≡ length board.waste = length-map board.waste card_byte in
    let n₃ : length (cell_bytes board) ≡ length (cards_in board.cells) = cells-size board.cells in
    let n₄ : length (reserve_bytes rules board) ≡ length (cards_in board.reserve) =
    reserve-size rules.stacked board.reserve in
    let n₅ : length (concat (piles_bytes rules board)) ≡ 2 * length board.piles + length (cards_of_piles board.piles) =
    piles-size (keeps_pile_order rules board) board.piles in
    omega (arith, pieces, n₁, n₂, n₃, n₄, n₅)

-- the cards that a key names, piece by piece
board-lengths : (board : Board) → length (cards_of_board board)
    ≡ length (cards_of_piles board.piles) + length (cards_in board.cells) + length (cards_in board.reserve)
    + length board.stock
    + length board.waste + length board.hole + length (cards_in board.slots)
board-lengths board =
    let e₁ = length-append (cards_of_piles board.piles) (cards_in board.cells
    ++ (cards_in board.reserve ++ (board.stock ++ (board.waste ++ (board.hole ++ cards_in board.slots))))) in
    let e₂ = length-append (cards_in board.cells)
    (cards_in board.reserve ++ (board.stock ++ (board.waste ++ (board.hole ++ cards_in board.slots)))) in
    let e₃ = length-append (cards_in board.reserve)
    (board.stock ++ (board.waste ++ (board.hole ++ cards_in board.slots))) in
    let e₄ = length-append board.stock (board.waste ++ (board.hole ++ cards_in board.slots)) in
    let e₅ = length-append board.waste (board.hole ++ cards_in board.slots) in
    let e₆ = length-append board.hole (cards_in board.slots) in
    omega (arith, e₁, e₂, e₃, e₄, e₅, e₆)

pub board-size : (board : Board) → length (cards_of_piles board.piles) + length (cards_in board.cells)
    + length (cards_in board.reserve) + length board.stock + length board.waste
    ≤ length (cards_of_board board)
board-size board = omega (arith, board-lengths board)

no_cards : (piles : List Pile) → length piles ≡ 0 → length (cards_of_piles piles) ≡ 0
no_cards [] e = refl
no_cards (pile ∷ piles) e = absurd (omega arith)

-- the board has no more of each kind than its rules allow, and no more cards than their decks
pub record IsSmall (rules : RuleParts) (board : Board) : Type 0 where
  pub piles : length board.piles ≡ rules.piles
  pub cells : length board.cells ≡ rules.cells
  pub reserve : length board.reserve ≤ rules.reserve
  pub stock : length board.stock + length board.waste ≤ rules.stock
  pub slots : length board.slots ≡ (if is_sequence_goal rules.goal then 4 * rules.decks * rules.max_rank else 0)
  pub cards : length (cards_of_piles board.piles) + length (cards_in board.cells) + length (cards_in board.reserve)
      + length board.stock + length board.waste ≤ 52 * rules.decks

pub small_board : (rules : RuleParts) (board : Board) → HasLimits rules → Belongs rules board → IsSmall rules board
small_board rules board limits belongs =
    let cards = cards-few_for_decks rules board limits belongs in
    let parts = board-size board in
    record {
      piles = belongs.piles;
      cells = belongs.cells;
      reserve = belongs.reserve_size;
      stock = belongs.stock;
      slots = belongs.slots;
      cards = omega (arith, cards, parts);
    }

-- a key has at most 157 bytes, with any heights that are as many as the foundations
pub key_with-short : (rules : RuleParts) (board : Board) (heights : List ℕ) → IsPlayable rules → IsSmall rules board
    → length heights ≡ 4 * rules.decks
    → length (key_with (if is_foundation_goal rules.goal then heights else []) rules board) ≤ 157
key_with-short rules board heights playable size height_count =
    let limits : HasLimits rules = limits_of rules playable in
    let decks : rules.decks ≤ 2 = limits.decks in
    let whole = key-length rules board (if is_foundation_goal rules.goal then heights else []) in
    let small = small_parts rules board heights limits height_count in
    either (cases_Bool (is_sequence_goal rules.goal))
    (λ yes. let alone : RowsAlone rules = rows_alone rules playable yes in
    let slots : length board.slots ≡ 4 * rules.decks * rules.max_rank = whole_if
    (is_sequence_goal rules.goal) _ _ yes size.slots in
    let rows : length (rows_bytes rules board) ≤ length (concat (sorted_rows rules board)) = if_kept
    (is_sequence_goal rules.goal) (concat (sorted_rows rules board)) in
    let rows_most = rows-size rules board slots in
    let few : 4 * rules.decks * rules.max_rank ≤ 8 * 13 = mul-le-mul
    (let d : 4 * rules.decks ≤ 8 = omega arith in d) limits.max_rank in
    let piles : length board.piles ≡ 0 = size.piles ∙ alone.piles in
    let no_piles : length (cards_of_piles board.piles) ≡ 0 = no_cards board.piles piles in
    let cells : length (cards_in board.cells) ≤ length board.cells = cards_in-few board.cells in
    let no_cells : length board.cells ≡ 0 = size.cells ∙ alone.cells in
    let reserve : length (cards_in board.reserve) ≤ length board.reserve = cards_in-few board.reserve in
    let no_reserve : length board.reserve ≤ rules.reserve = size.reserve in
    let none : rules.reserve ≡ 0 = alone.reserve in
    let stock : length board.stock + length board.waste ≤ rules.stock = size.stock in
    let no_stock : rules.stock ≡ 0 = alone.stock in
    omega (
      arith,
      whole,
      small,
      rows,
      rows_most,
      few,
      piles,
      no_piles,
      cells,
      no_cells,
      reserve,
      no_reserve,
      none,
      stock,
      no_stock,
    ))
    (λ no. let rows : length (rows_bytes rules board) ≡ 0 = if_left_out (is_sequence_goal rules.goal)
    (concat (sorted_rows rules board)) no in
    let cards = size.cards in
    let piles : length board.piles ≡ rules.piles = size.piles in
    let most : rules.piles ≤ 20 = limits.piles in
    omega (arith, whole, small, rows, cards, piles, most, decks))

pub key-short : (rules : RuleParts) (board : Board) → IsPlayable rules → Belongs rules board
    → length (key_bytes rules board) ≤ 157
key-short rules board playable belongs =
    key_with-short rules board (all_heights rules board) playable
    (small_board rules board (limits_of rules playable) belongs) (heights-size rules board)

pub hole-few : (board : Board) → length board.hole ≤ length (cards_of_board board)
hole-few board = omega (arith, board-lengths board)
