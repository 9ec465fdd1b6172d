-- What the key of a board says are the board's parts, in the order of the key.
use Rattle.std.proofs.Common.{◌≡◌, ℕ, zero, suc, ◌*◌, ◌<◌, Bool, true, false, List, [], ◌∷◌, ◌++◌, map, take, drop}
use Rattle.std.proofs.Common.{length, get_or, refl, ap, ap₂, sym, ◌∙◌, arith, append_assoc}
use Rattle.std.specs.Prelude.{Option, None, if◌then◌else◌}
use Rattle.std.specs.List.{All, concat, range_with_len}
use Rattle.std.proofs.Math.Seq.{take-append_seam, drop-append_seam}
use Rattle.std.proofs.lemmas.List.{length-map, take-map, drop-map, nil_from_length}
use Rattle.std.proofs.lemmas.List.Elements.{All-head, All-tail}
use Rattle.std.proofs.lemmas.List.FromFn.{fill_by_all}
use Rattle.card_piles.specs.declared.Card.{Card}
use Rattle.game_rules.specs.declared.RuleParts.{RuleParts}
use Rattle.game_rules.specs.declared.BoardParts.{BoardParts}
use Rattle.game_rules.specs.Rules.{is_foundation_goal, is_hole_goal, is_sequence_goal}
use Rattle.game_rules.specs.Playable.{IsPlayable}
use Rattle.game_rules.specs.Board.{Board, Pile, empty_pile}
use Rattle.game_rules.specs.Belonging.{Belongs, foundation_count}
use Rattle.game_rules.specs.Position.{filled, parts_of}
use Rattle.game_rules.specs.Ranked.{HasRanks}
use Rattle.game_rules.proofs.ListFacts.{map-range-same}
use Rattle.same_boards.specs.Same.{keeps_pile_order}
use Rattle.same_boards.specs.Keys.{card_bytes, counted, height_bytes, hole_bytes, cell_bytes, reserve_bytes}
use Rattle.same_boards.specs.Keys.{piles_bytes, rows_bytes, key_bytes}
use Rattle.same_boards.specs.Bytes.{card_of_byte, entry_of_byte}
use Rattle.same_boards.proofs.KeyParts.{pile_of_bytes, cards-back, IsPileBytes}
use Rattle.same_boards.proofs.KeysSame.{pieces-are, pieces-size, all_heights, all_heights-size}
use Rattle.same_boards.proofs.KeySize.{rows_alone}
use Rattle.pile_symmetry.specs.Said.{Said}
use Rattle.pile_symmetry.specs.Reading.{counted_part, after_counted, pile_in, after_pile, after_piles, piles_in}
use Rattle.pile_symmetry.specs.Reading.{card_entry, reserve_in, heights_in, hole_size, from_waste, from_heights}
use Rattle.pile_symmetry.specs.Reading.{from_hole, from_cells, from_reserve, said, row_in, top_in, parts_said}

-- ---- the bytes of each part

part-back : (xs r : List ℕ) → counted_part (counted xs ++ r) ≡ xs
part-back xs r = take-append_seam xs r

after-back : (xs r : List ℕ) → after_counted (counted xs ++ r) ≡ r
after-back xs r = drop-append_seam xs r

first-back : (n : ℕ) (xs r : List ℕ) → length xs ≡ n → take n (xs ++ r) ≡ xs
first-back n xs r e = ap (λ (k : ℕ). take k (xs ++ r)) (sym e) ∙ take-append_seam xs r

rest-back : (n : ℕ) (xs r : List ℕ) → length xs ≡ n → drop n (xs ++ r) ≡ r
rest-back n xs r e = ap (λ (k : ℕ). drop k (xs ++ r)) (sym e) ∙ drop-append_seam xs r

-- what a key says, from its parts
abbrev said_of : ℕ → List ℕ → List ℕ → List ℕ → List ℕ → List ℕ → List ℕ → List ℕ → Said
said_of left stock waste heights hole cells reserve rest = record {
  redeals_left = left;
  stock = stock;
  waste = waste;
  heights = heights;
  hole = hole;
  cells = cells;
  reserve = reserve;
  rest = rest;
}

said-same : (left : ℕ) {a b c d e f g : List ℕ} (a' b' c' d' e' f' g' : List ℕ) → a ≡ a' → b ≡ b' → c ≡ c'
    → d ≡ d' → e ≡ e' → f ≡ f' → g ≡ g' → said_of left a b c d e f g ≡ said_of left a' b' c' d' e' f' g'
said-same left {c = c} {d = d} {e = e} {f = f} {g = g} a' b' c' d' e' f' g' pa pb pc pd pe pf pg =
    ap₂ (λ (x y : List ℕ). said_of left x y c d e f g) pa pb
    ∙ ap₂ (λ (x y : List ℕ). said_of left a' b' x y e f g) pc pd
    ∙ ap₂ (λ (x y : List ℕ). said_of left a' b' c' d' x y g) pe pf
    ∙ ap (said_of left a' b' c' d' e' f') pg

said-back : (rules : RuleParts) (left : ℕ) (stock waste heights hole cells reserve rest : List ℕ)
    → length heights ≡ foundation_count rules → length hole ≡ hole_size rules
    → said rules
    (left ∷ (counted stock ++ (counted waste ++ (heights ++ (hole ++ (counted cells ++ (counted reserve ++ rest)))))))
    ≡ said_of left stock waste heights hole cells reserve rest
said-back rules left stock waste heights hole cells reserve rest many size =
    let s₇ : List ℕ = counted reserve ++ rest in
    let s₆ : List ℕ = counted cells ++ s₇ in
    let s₅ : List ℕ = hole ++ s₆ in
    let s₄ : List ℕ = heights ++ s₅ in
    let s₃ : List ℕ = counted waste ++ s₄ in
    let key : List ℕ = left ∷ (counted stock ++ s₃) in
    let e₃ : from_waste key ≡ s₃ = after-back stock s₃ in
    let e₄ : from_heights key ≡ s₄ = ap after_counted e₃ ∙ after-back waste s₄ in
    let e₅ : from_hole rules key ≡ s₅ = ap (drop (foundation_count rules)) e₄
    ∙ rest-back (foundation_count rules) heights s₅ many in
    let e₆ : from_cells rules key ≡ s₆ = ap (drop (hole_size rules)) e₅ ∙ rest-back (hole_size rules) hole s₆ size in
    let e₇ : from_reserve rules key ≡ s₇ = ap after_counted e₆ ∙ after-back cells s₇ in
    said-same left stock waste heights hole cells reserve rest
    (part-back stock s₃)
    (ap counted_part e₃ ∙ part-back waste s₄)
    (ap (take (foundation_count rules)) e₄ ∙ first-back (foundation_count rules) heights s₅ many)
    (ap (take (hole_size rules)) e₅ ∙ first-back (hole_size rules) hole s₆ size)
    (ap counted_part e₆ ∙ part-back cells s₇)
    (ap counted_part e₇ ∙ part-back reserve rest)
    (ap after_counted e₇ ∙ after-back reserve rest)

-- ---- piles

after_piles-first : (n : ℕ) (bytes : List ℕ) → after_piles (suc n) bytes ≡ after_piles n (after_pile bytes)
after_piles-first zero bytes = refl
after_piles-first (suc n) bytes = ap after_pile (after_piles-first n bytes)

pile-back : (line r : List ℕ) → IsPileBytes line → pile_in (line ++ r) ≡ pile_of_bytes line
pile-back [] r h = absurd h
pile-back (n ∷ []) r h = absurd h
pile-back (n ∷ face_down ∷ bytes) r h =
    ap (λ (xs : List ℕ). let p : Pile = record { cards = map card_of_byte xs; face_down = face_down } in p)
    (first-back n bytes r (sym h))

after_pile-back : (line r : List ℕ) → IsPileBytes line → after_pile (line ++ r) ≡ r
after_pile-back [] r h = absurd h
after_pile-back (n ∷ []) r h = absurd h
after_pile-back (n ∷ face_down ∷ bytes) r h = rest-back n bytes r (sym h)

pile_at-back : (lines : List (List ℕ)) (r : List ℕ) (k : ℕ) → All IsPileBytes lines → k < length lines
    → pile_in (after_piles k (concat lines ++ r)) ≡ get_or (map pile_of_bytes lines) k empty_pile
pile_at-back [] r k all inside = absurd (omega arith)
pile_at-back (line ∷ lines) r zero all inside =
    ap pile_in (append_assoc line (concat lines) r) ∙ pile-back line (concat lines ++ r)
    (All-head IsPileBytes line lines all)
pile_at-back (line ∷ lines) r (suc k) all inside =
    let first : after_pile (concat (line ∷ lines) ++ r) ≡ concat lines ++ r =
    ap after_pile (append_assoc line (concat lines) r) ∙ after_pile-back line (concat lines ++ r)
    (All-head IsPileBytes line lines all) in
    ap pile_in (after_piles-first k (concat (line ∷ lines) ++ r) ∙ ap (after_piles k) first)
    ∙ pile_at-back lines r k (All-tail IsPileBytes line lines all) (omega arith)

piles-back : (n : ℕ) (lines : List (List ℕ)) (r : List ℕ) → All IsPileBytes lines → length lines ≡ n
    → piles_in n (concat lines ++ r) ≡ map pile_of_bytes lines
piles-back n lines r all size =
    let many : length (map pile_of_bytes lines) ≡ n = length-map lines pile_of_bytes ∙ size in
    sym (fill_by_all (λ (i : ℕ). pile_in (after_piles i (concat lines ++ r)))
    (map pile_of_bytes lines) n empty_pile many
    (λ k inside. sym (pile_at-back lines r k all (omega (arith, inside, size)))))

-- ---- rows

row-back : (rules : RuleParts) (bytes : List ℕ) (r : ℕ)
    → row_in rules bytes r ≡ take rules.max_rank (drop (r * rules.max_rank) (map entry_of_byte bytes))
row-back rules bytes r =
    sym (ap (take rules.max_rank) (drop-map entry_of_byte (r * rules.max_rank) bytes)
    ∙ take-map entry_of_byte rules.max_rank (drop (r * rules.max_rank) bytes))

rows-back_if : (rules : RuleParts) (t : Bool) (bytes other : List ℕ) → (t ≡ true → bytes ≡ other)
    → map (row_in rules bytes) (range_with_len 0 (if t then 4 * rules.decks else 0))
    ≡ map (λ r. take rules.max_rank (drop (r * rules.max_rank) (map entry_of_byte other)))
    (range_with_len 0 (if t then 4 * rules.decks else 0))
rows-back_if rules true bytes other same =
    map-range-same (row_in rules bytes)
    (λ (r : ℕ). take rules.max_rank (drop (r * rules.max_rank) (map entry_of_byte other))) 0 (4 * rules.decks)
    (λ r low high. row-back rules bytes r
    ∙ ap (λ (xs : List ℕ). take rules.max_rank (drop (r * rules.max_rank) (map entry_of_byte xs))) (same refl))
rows-back_if rules false bytes other same = refl

-- ---- the parts of the board in the order of the key

-- the board with its places in the order of the key, and these cards in its hole
abbrev pub in_key_order : RuleParts → Board → List Card → Board
in_key_order rules board hole = record board {
  piles = map pile_of_bytes (piles_bytes rules board);
  cells = filled rules.cells None (map card_entry (cell_bytes board));
  reserve = reserve_in rules (reserve_bytes rules board);
  heights = heights_in rules (height_bytes rules board);
  hole = hole;
  slots = map entry_of_byte (rows_bytes rules board);
}

heights-many_if : (t : Bool) (n : ℕ) (xs : List ℕ) → length xs ≡ 4 * n
    → length (if t then xs else []) ≡ (if t then 4 * n else 0)
heights-many_if true n xs e = e
heights-many_if false n xs e = refl

pub heights-many : (rules : RuleParts) (board : Board) → length (height_bytes rules board) ≡ foundation_count rules
heights-many rules board = heights-many_if (is_foundation_goal rules.goal) rules.decks (all_heights rules board)
    (all_heights-size rules board)

hole-bytes_if : (t : Bool) (n top : ℕ) → length (if t then n ∷ top ∷ [] else []) ≡ (if t then 2 else 0)
hole-bytes_if true n top = refl
hole-bytes_if false n top = refl

parts-same : (parts : BoardParts) (a a' : List (List Card)) (b b' : List ℕ) (c c' d d' : List Card)
    (e e' : List (List (Option Card)))
    → a ≡ a' → b ≡ b' → c ≡ c' → d ≡ d' → e ≡ e'
    → record parts { tableau = a; face_down = b; stock = c; waste = d; rows = e }
    ≡ record parts { tableau = a'; face_down = b'; stock = c'; waste = d'; rows = e' }
parts-same parts a a' b b' c c' d d' e e' pa pb pc pd pe =
    ap₂ (λ (x : List (List Card)) (y : List ℕ).
    record parts { tableau = x; face_down = y; stock = c; waste = d; rows = e }) pa pb
    ∙ ap₂ (λ (x y : List Card). record parts { tableau = a'; face_down = b'; stock = x; waste = y; rows = e }) pc pd
    ∙ ap (λ (x : List (List (Option Card))).
    record parts { tableau = a'; face_down = b'; stock = c'; waste = d'; rows = x }) pe

pub parts-back : (rules : RuleParts) (board : Board) → IsPlayable rules → HasRanks board → Belongs rules board
    → parts_said rules (said rules (key_bytes rules board)) ≡ parts_of rules
    (in_key_order rules board (top_in (hole_bytes rules board)))
parts-back rules board playable ranks belongs =
    let lines : List (List ℕ) = piles_bytes rules board in
    let rows : List ℕ = rows_bytes rules board in
    let many : length lines ≡ rules.piles = pieces-size (keeps_pile_order rules board) board.piles ∙ belongs.piles in
    let s : Said = record {
      redeals_left = board.redeals_left;
      stock = card_bytes board.stock;
      waste = card_bytes board.waste;
      heights = height_bytes rules board;
      hole = hole_bytes rules board;
      cells = cell_bytes board;
      reserve = reserve_bytes rules board;
      rest = concat lines ++ rows;
    } in
    let whole : said rules (key_bytes rules board) ≡ s =
    said-back rules board.redeals_left (card_bytes board.stock) (card_bytes board.waste) (height_bytes rules board)
    (hole_bytes rules board)
    (cell_bytes board) (reserve_bytes rules board) (concat lines ++ rows) (heights-many rules board)
    (hole-bytes_if (is_hole_goal rules.goal) _ _) in
    let piles : piles_in rules.piles (concat lines ++ rows) ≡ map pile_of_bytes lines =
    piles-back rules.piles lines rows (pieces-are (keeps_pile_order rules board) board.piles) many in
    let alone : is_sequence_goal rules.goal ≡ true → concat lines ++ rows ≡ rows =
    λ holds. let none : length lines ≡ 0 = many ∙ (rows_alone rules playable holds).piles in
    ap (λ (ls : List (List ℕ)). concat ls ++ rows) (nil_from_length lines none) in
    ap (parts_said rules) whole
    ∙ parts-same (parts_said rules s) _ _ _ _ _ _ _ _ _ _
    (ap (λ (ps : List Pile). map (λ (p : Pile). p.cards) ps) piles)
    (ap (λ (ps : List Pile). map (λ (p : Pile). p.face_down) ps) piles)
    (cards-back board.stock ranks.stock)
    (cards-back board.waste ranks.waste)
    (rows-back_if rules (is_sequence_goal rules.goal) (concat lines ++ rows) rows alone)
