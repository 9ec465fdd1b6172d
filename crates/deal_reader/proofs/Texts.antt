-- The text of a board is short, and its tree has no float and nests little.
use Rattle.std.proofs.Common.{◌≡◌, ℕ, ◌+◌, ◌*◌, ◌-◌, ◌≤◌, Bool, true, false, ◌||◌, List, [], ◌∷◌, ◌++◌, map, length}
use Rattle.std.proofs.Common.{get_or, drop, refl, arith, length-append, length-take}
use Rattle.std.specs.Prelude.{cond, Option, Some, None, IsTrue, nat_lt, nat_le, codes}
use Rattle.std.specs.List.{All, range_with_len}
use Rattle.std.proofs.lemmas.List.{length-map}
use Rattle.std.proofs.lemmas.List.Elements.{All-head, All-tail, All-map, All-from_get_or}
use Rattle.std.proofs.lemmas.List.FromFn.{length-map-range_with_len}
use Rattle.std.proofs.lemmas.List.Sums.{AllPass-from_list_all}
use Rattle.std.proofs.lemmas.Bool.{leb-true, eqb-true}
use Rattle.std.proofs.lemmas.Fmt.{length-decimal-le}
use Rattle.json.specs.Print.{escape_byte, escape_letter, escape, quoted}
use Rattle.serde_json.specs.Data.{Data, Members, no_members, member, depth}
use Rattle.serde_json.specs.View.{items_of}
use Rattle.serde_json.specs.Written.{has_float, items_have_float, comma_if, compact_text, items_text, members_text}
use Rattle.card_piles.specs.declared.Card.{Card}
use Rattle.card_piles.specs.CardText.{text_of_card}
use Rattle.game_rules.specs.declared.RuleParts.{RuleParts}
use Rattle.game_rules.specs.declared.BoardParts.{BoardParts}
use Rattle.game_rules.specs.declared.Face.{Face}
use Rattle.game_rules.specs.declared.Face.TheVariants.{AllUp, TopUp}
use Rattle.game_rules.specs.Rules.{is_foundation_goal, is_sequence_goal}
use Rattle.game_rules.specs.Playable.{IsPlayable}
use Rattle.game_rules.specs.Board.{Board, Pile, empty_pile}
use Rattle.game_rules.specs.Winning.{row_at}
use Rattle.game_rules.specs.Belonging.{Belongs, lies_well}
use Rattle.game_rules.specs.Position.{parts_of, row_count}
use Rattle.game_rules.proofs.Limits.{limits_of}
use Rattle.game_rules.proofs.FewCards.{each_place-few}
use Rattle.deal_reader.specs.Spelling.{card_tree, entry_tree, number_tree, list_tree, parts_tree, position_text}
use Rattle.deal_reader.proofs.Narrowing.{most_redeals-few}

-- no float
neither : (a b : Bool) → a ≡ false → b ≡ false → (a || b) ≡ false
neither true b h k = cc
neither false b h k = k

list-no_float : {A : Type 0} (tree : A → Data) → ((x : A) → has_float (tree x) ≡ false) → (xs : List A)
    → has_float (list_tree tree xs) ≡ false
list-no_float tree none [] = refl
list-no_float tree none (x ∷ xs) = neither (has_float (tree x)) (items_have_float (items_of (map tree xs))) (none x)
    (list-no_float tree none xs)

entry-no_float : (entry : Option Card) → has_float (entry_tree entry) ≡ false
entry-no_float None = refl
entry-no_float (Some card) = refl

pub parts-no_float : (parts : BoardParts) → has_float (parts_tree parts) ≡ false
parts-no_float parts =
    let cells = list-no_float entry_tree entry-no_float parts.cells in
    let face_down = list-no_float number_tree (λ n. refl) parts.face_down in
    let foundations = list-no_float number_tree (λ n. refl) parts.foundations in
    let hole = list-no_float card_tree (λ card. refl) parts.hole in
    let reserve = list-no_float entry_tree entry-no_float parts.reserve in
    let rows = list-no_float (list_tree entry_tree) (list-no_float entry_tree entry-no_float) parts.rows in
    let stock = list-no_float card_tree (λ card. refl) parts.stock in
    let tableau = list-no_float (list_tree card_tree) (list-no_float card_tree (λ card. refl)) parts.tableau in
    let waste = list-no_float card_tree (λ card. refl) parts.waste in
    neither _ _ cells (neither _ _ face_down (neither _ _ foundations (neither _ _ hole
    (neither _ _ reserve (neither _ _ rows (neither _ _ stock (neither _ _ tableau (neither _ _ waste refl))))))))

-- nesting
list-shallow : {A : Type 0} (tree : A → Data) (m : ℕ) → ((x : A) → depth (tree x) ≤ m) → (xs : List A)
    → depth (list_tree tree xs) ≤ m + 1
list-shallow tree m low [] = omega arith
list-shallow tree m low (x ∷ xs) = omega (arith, low x, list-shallow tree m low xs)

entry-shallow : (entry : Option Card) → depth (entry_tree entry) ≤ 0
entry-shallow None = omega arith
entry-shallow (Some card) = omega arith

pub parts-shallow : (parts : BoardParts) → depth (parts_tree parts) ≤ 127
parts-shallow parts =
    let cells = list-shallow entry_tree 0 entry-shallow parts.cells in
    let face_down = list-shallow number_tree 0 (λ n. omega arith) parts.face_down in
    let foundations = list-shallow number_tree 0 (λ n. omega arith) parts.foundations in
    let hole = list-shallow card_tree 0 (λ card. omega arith) parts.hole in
    let reserve = list-shallow entry_tree 0 entry-shallow parts.reserve in
    let rows = list-shallow (list_tree entry_tree) 1 (list-shallow entry_tree 0 entry-shallow) parts.rows in
    let stock = list-shallow card_tree 0 (λ card. omega arith) parts.stock in
    let tableau = list-shallow (list_tree card_tree) 1 (list-shallow card_tree 0 (λ card. omega arith)) parts.tableau in
    let waste = list-shallow card_tree 0 (λ card. omega arith) parts.waste in
    omega (arith, cells, face_down, foundations, hole, reserve, rows, stock, tableau, waste)

-- lengths
either : (b : Bool) (n : ℕ) (xs ys : List ℕ) → length xs ≤ n → length ys ≤ n → length (cond b xs ys) ≤ n
either true n xs ys h k = h
either false n xs ys h k = k

escape_byte-short : (x : ℕ) → length (escape_byte x) ≤ 6
unfolding escape_byte
escape_byte-short x = either (nat_lt 0 (escape_letter x)) 6 _ _ (omega arith)
    (either (nat_lt x 32) 6 _ _ (omega arith) (omega arith))

escape-short : (s : List ℕ) → length (escape s) ≤ 6 * length s
escape-short [] = omega arith
escape-short (x ∷ xs) = omega (arith, length-append (escape_byte x) (escape xs), escape_byte-short x, escape-short xs)

quoted-short : (s : List ℕ) → length (quoted s) ≤ 2 + 6 * length s
quoted-short s = omega (arith, length-append (escape s) (34 ∷ []), escape-short s)

comma-short : (later : Bool) → length (comma_if later) ≤ 1
comma-short true = omega arith
comma-short false = omega arith

items-short : {A : Type 0} (tree : A → Data) (m : ℕ) (later : Bool) (xs : List A)
    → All (λ x. length (compact_text (tree x)) ≤ m) xs
    → length (items_text later (items_of (map tree xs))) ≤ 1 + length xs * (m + 1)
items-short tree m later [] all = omega arith
items-short {A = A} tree m later (x ∷ xs) all =
    let P : A → Type 0 = λ (x : A). length (compact_text (tree x)) ≤ m in
    let first : length (compact_text (tree x)) ≤ m = All-head P x xs all in
    let rest = items-short tree m true xs (All-tail P x xs all) in
    let product : length (x ∷ xs) * (m + 1) ≡ (m + 1) + length xs * (m + 1) = omega arith in
    omega (
      arith,
      length-append (comma_if later) (compact_text (tree x) ++ items_text true (items_of (map tree xs))),
      length-append (compact_text (tree x)) (items_text true (items_of (map tree xs))),
      comma-short later,
      first,
      rest,
      product,
    )

list-short : {A : Type 0} (tree : A → Data) (m : ℕ) (xs : List A) → All (λ x. length (compact_text (tree x)) ≤ m) xs
    → length (compact_text (list_tree tree xs)) ≤ 2 + length xs * (m + 1)
list-short tree m xs all = omega (arith, items-short tree m false xs all)

card-short : (card : Card) → length (compact_text (card_tree card)) ≤ 14
card-short card = quoted-short (text_of_card card)

entry-short : (entry : Option Card) → length (compact_text (entry_tree entry)) ≤ 14
entry-short None = omega arith
entry-short (Some card) = card-short card

cards-short : (n : ℕ) (cards : List Card) → length cards ≤ n
    → length (compact_text (list_tree card_tree cards)) ≤ 2 + n * 15
cards-short n cards few =
    let long = list-short card_tree 14 cards (λ k d inside. card-short (get_or cards k d)) in
    omega (arith, long, few)

entries-short : (n : ℕ) (entries : List (Option Card)) → length entries ≤ n
    → length (compact_text (list_tree entry_tree entries)) ≤ 2 + n * 15
entries-short n entries few =
    let long = list-short entry_tree 14 entries (λ k d inside. entry-short (get_or entries k d)) in
    omega (arith, long, few)

number-short : (n : ℕ) → n ≤ 255 → length (compact_text (number_tree n)) ≤ 3
number-short n few = length-decimal-le 3 n (omega arith) (omega arith) (omega (arith, few))

numbers-short : (n : ℕ) (numbers : List ℕ) → length numbers ≤ n → All (λ x. x ≤ 255) numbers
    → length (compact_text (list_tree number_tree numbers)) ≤ 2 + n * 4
numbers-short n numbers few small =
    let long = list-short number_tree 3 numbers (λ k d inside. number-short (get_or numbers k d) (small k d inside)) in
    omega (arith, long, few)

member-short : (later : Bool) (k : List ℕ) (d : Data) (ms : Members) (a b : ℕ) → length (compact_text d) ≤ a
    → length (members_text true ms) ≤ b
    → length (members_text later (member k d ms)) ≤ 4 + 6 * length k + a + b
member-short later k d ms a b short rest =
    let tail : List ℕ = compact_text d ++ members_text true ms in
    omega (
      arith,
      length-append (comma_if later) (quoted k ++ 58 ∷ tail),
      length-append (quoted k) (58 ∷ tail),
      length-append (compact_text d) (members_text true ms),
      comma-short later,
      quoted-short k,
      short,
      rest,
    )

-- what the parts of a board have at most
pub record AreFew (parts : BoardParts) : Type 0 where
  pub piles : length parts.tableau ≤ 20
  pub tableau : All (λ cards. length cards ≤ 104) parts.tableau
  pub downs : length parts.face_down ≤ 20
  pub face_down : All (λ n. n ≤ 255) parts.face_down
  pub cells : length parts.cells ≤ 16
  pub reserve : length parts.reserve ≤ 52
  pub stock : length parts.stock ≤ 104
  pub waste : length parts.waste ≤ 104
  pub redeals_left : parts.redeals_left ≤ 255
  pub heights : length parts.foundations ≤ 8
  pub foundations : All (λ n. n ≤ 255) parts.foundations
  pub hole : length parts.hole ≤ 104
  pub rows : length parts.rows ≤ 8
  pub slots : All (λ row. length row ≤ 13) parts.rows

pub parts-short : (parts : BoardParts) → AreFew parts → length (compact_text (parts_tree parts)) ≤ 65536
parts-short parts few =
    let tableau = list-short (list_tree card_tree) 1562 parts.tableau
    (λ k d inside. cards-short 104 (get_or parts.tableau k d) (few.tableau k d inside)) in
    let rows = list-short (list_tree entry_tree) 197 parts.rows
    (λ k d inside. entries-short 13 (get_or parts.rows k d) (few.slots k d inside)) in
    let tableau_short : length (compact_text (list_tree (list_tree card_tree) parts.tableau)) ≤ 31262 = omega
    (arith, tableau, few.piles) in
    let rows_short : length (compact_text (list_tree (list_tree entry_tree) parts.rows)) ≤ 1586 = omega
    (arith, rows, few.rows) in
    let from_waste : Members = member (codes "waste") (list_tree card_tree parts.waste) no_members in
    let from_waste_short : length (members_text true from_waste) ≤ 1597 = member-short true
    (codes "waste") (list_tree card_tree parts.waste) no_members 1562 1 (cards-short 104 parts.waste few.waste)
    (let none : length (members_text true no_members) ≤ 1 = omega arith in none) in
    let from_tableau : Members = member (codes "tableau") (list_tree (list_tree card_tree) parts.tableau) from_waste in
    let from_tableau_short : length (members_text true from_tableau) ≤ 32905 = member-short true (codes "tableau")
    (list_tree (list_tree card_tree) parts.tableau) from_waste 31262 1597 (tableau_short) from_waste_short in
    let from_stock : Members = member (codes "stock") (list_tree card_tree parts.stock) from_tableau in
    let from_stock_short : length (members_text true from_stock) ≤ 34501 = member-short true
    (codes "stock") (list_tree card_tree parts.stock) from_tableau 1562 32905
    (cards-short 104 parts.stock few.stock) from_tableau_short in
    let from_rows : Members = member (codes "rows") (list_tree (list_tree entry_tree) parts.rows) from_stock in
    let from_rows_short : length (members_text true from_rows) ≤ 36115 = member-short true (codes "rows")
    (list_tree (list_tree entry_tree) parts.rows) from_stock 1586 34501 (rows_short) from_stock_short in
    let from_reserve : Members = member (codes "reserve") (list_tree entry_tree parts.reserve) from_rows in
    let from_reserve_short : length (members_text true from_reserve) ≤ 36943 = member-short true
    (codes "reserve") (list_tree entry_tree parts.reserve) from_rows 782 36115
    (entries-short 52 parts.reserve few.reserve) from_rows_short in
    let from_redeals_left : Members = member (codes "redeals left") (number_tree parts.redeals_left) from_reserve in
    let from_redeals_left_short : length (members_text true from_redeals_left) ≤ 37022 = member-short true
    (codes "redeals left") (number_tree parts.redeals_left) from_reserve 3 36943
    (number-short parts.redeals_left few.redeals_left) from_reserve_short in
    let from_hole : Members = member (codes "hole") (list_tree card_tree parts.hole) from_redeals_left in
    let from_hole_short : length (members_text true from_hole) ≤ 38612 = member-short true
    (codes "hole") (list_tree card_tree parts.hole) from_redeals_left 1562 37022
    (cards-short 104 parts.hole few.hole) from_redeals_left_short in
    let from_foundations : Members = member (codes "foundations") (list_tree number_tree parts.foundations) from_hole in
    let from_foundations_short : length (members_text true from_foundations) ≤ 38716 = member-short true
    (codes "foundations") (list_tree number_tree parts.foundations) from_hole 34 38612
    (numbers-short 8 parts.foundations few.heights few.foundations) from_hole_short in
    let from_face_down : Members = member (codes "face down")
    (list_tree number_tree parts.face_down) from_foundations in
    let from_face_down_short : length (members_text true from_face_down) ≤ 38856 = member-short true
    (codes "face down") (list_tree number_tree parts.face_down) from_foundations 82 38716
    (numbers-short 20 parts.face_down few.downs few.face_down) from_foundations_short in
    let from_cells : Members = member (codes "cells") (list_tree entry_tree parts.cells) from_face_down in
    let from_cells_short : length (members_text false from_cells) ≤ 39132 = member-short false
    (codes "cells") (list_tree entry_tree parts.cells) from_face_down 242 38856
    (entries-short 16 parts.cells few.cells) from_face_down_short in
    omega (arith, from_cells_short)

pub down-small : (face : Face) (pile : Pile) → IsTrue (lies_well face pile) → length pile.cards ≤ 104
    → pile.face_down ≤ 255
down-small AllUp pile well few = let none = eqb-true pile.face_down 0 well in omega (arith, none)
down-small TopUp pile well few = let below = leb-true pile.face_down (length pile.cards - 1) well in
    omega (arith, below, few)

count-few : (b : Bool) (decks : ℕ) → decks ≤ 2 → cond b (4 * decks) 0 ≤ 8
count-few true decks few = omega (arith, few)
count-few false decks few = omega arith

parts-few : (rules : RuleParts) (board : Board) → IsPlayable rules → Belongs rules board → AreFew (parts_of rules board)
parts-few rules board playable b =
    let limits = limits_of rules playable in
    let few = each_place-few rules board limits b in
    let piles = length-map board.piles (λ (p : Pile). p.cards) in
    let downs = length-map board.piles (λ (p : Pile). p.face_down) in
    let rows = length-map-range_with_len (row_at rules board) 0 (row_count rules) in
    let fits : ℕ → Bool = λ (height : ℕ). nat_le height rules.max_rank in
    record {
      piles = omega (arith, piles, b.piles, limits.piles);
      tableau = All-map (λ (cards : List Card). length cards ≤ 104) (λ (p : Pile). p.cards) board.piles
          (All-from_get_or (λ (p : Pile). length p.cards ≤ 104) board.piles empty_pile (λ i inside. few.piles i));
      downs = omega (arith, downs, b.piles, limits.piles);
      face_down = All-map (λ (n : ℕ). n ≤ 255) (λ (p : Pile). p.face_down) board.piles
          (All-from_get_or (λ (p : Pile). p.face_down ≤ 255) board.piles empty_pile
          (λ i inside. down-small rules.face (get_or board.piles i empty_pile)
          (AllPass-from_list_all (lies_well rules.face) board.piles b.faces i empty_pile inside) (few.piles i)));
      cells = omega (arith, b.cells, limits.cells);
      reserve = omega (arith, b.reserve_size, limits.reserve);
      stock = few.stock;
      waste = few.waste;
      redeals_left = omega (arith, b.redeals_left, most_redeals-few rules playable);
      heights = omega (arith, b.foundations, count-few (is_foundation_goal rules.goal) rules.decks limits.decks);
      foundations = λ k d inside. omega (
        arith,
        leb-true (get_or board.heights k d) rules.max_rank
            (AllPass-from_list_all fits board.heights b.heights k d inside),
        limits.max_rank,
      );
      hole = few.hole;
      rows = omega (arith, rows, count-few (is_sequence_goal rules.goal) rules.decks limits.decks);
      slots = All-map (λ (row : List (Option Card)). length row ≤ 13) (row_at rules board)
          (range_with_len 0 (row_count rules))
          (λ k d inside. omega (
            arith,
            length-take rules.max_rank
                (drop (get_or (range_with_len 0 (row_count rules)) k d * rules.max_rank) board.slots),
            limits.max_rank,
          ));
    }

pub position_text-short : (rules : RuleParts) (board : Board) → IsPlayable rules → Belongs rules board
    → length (position_text rules board) ≤ 65536
position_text-short rules board playable b = parts-short (parts_of rules board) (parts-few rules board playable b)
