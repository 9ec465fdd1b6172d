-- Where the queue of stock and waste is cut, as stock moves go on.
use Rattle.std.proofs.Common.{◌≡◌, inl, inr, ℕ, ◌+◌, ◌-◌, ◌<◌, ◌≤◌, List, [], ◌++◌, length, reverse, take, drop}
use Rattle.std.proofs.Common.{ap, ap₂, sym, ◌∙◌, arith, length-append, length-take, take-append-drop, take_all}
use Rattle.std.specs.Prelude.{IsTrue, if◌then◌else◌}
use Rattle.std.proofs.Math.Seq.{take-append_seam, drop-append_seam, take-append-add, drop-append-add, drop-length}
use Rattle.std.proofs.lemmas.List.{reverse-append, reverse-reverse, length-reverse, take-append-le, drop-append-le}
use Rattle.std.proofs.lemmas.List.{take_at, drop_at}
use Rattle.card_piles.specs.declared.Card.{Card}
use Rattle.game_rules.specs.declared.RuleParts.{RuleParts}
use Rattle.game_rules.specs.Rules.{deals_to_waste, is_unlimited}
use Rattle.game_rules.specs.Board.{Board, top_part, below_top}
use Rattle.game_rules.specs.NextByStock.{IsNextByStock, queue}
use Rattle.game_rules.proofs.StockMoves.{with_stock, Dealt, Redealt, next_cases}
use Rattle.packed_state.specs.declared.stock.Border.{Border}
use Rattle.packed_state.proofs.Seams.{below-top, length-top}

-- the board whose queue of stock and waste is cut at a border, with the redeals that the border says
abbrev pub cut_at : Border → Board → Board
cut_at border board = record board {
  stock = take border.stock (queue board);
  waste = reverse (drop border.stock (queue board));
  redeals_left = border.redeals_left;
}

pub length-queue : (board : Board) → length (queue board) ≡ length board.stock + length board.waste
length-queue board = omega (arith, length-append board.stock (reverse board.waste), length-reverse board.waste)

-- a board is cut where it is cut
pub cut-here : (board : Board)
    → cut_at (record { stock = length board.stock; redeals_left = board.redeals_left }) board ≡ board
cut-here board =
    ap₂ (λ (stock waste : List Card). with_stock board stock waste board.redeals_left)
    (take-append_seam board.stock (reverse board.waste))
    (ap reverse (drop-append_seam board.stock (reverse board.waste)) ∙ reverse-reverse board.waste)

-- a deal moves the border down by the draw

take-dealt : (n d : ℕ) (row : List Card) → n ≤ length row → below_top d (take n row) ≡ take (n - d) row
take-dealt n d row within =
    let long : length (take n row) ≡ n = omega (arith, length-take n row, within) in
    ap (λ (k : ℕ). take (k - d) (take n row)) long
    ∙ sym (take-append-le (n - d) (take n row) (drop n row) (omega (arith, long)))
    ∙ ap (take (n - d)) (take-append-drop n row)

drop-dealt : (n d : ℕ) (row : List Card) → n ≤ length row
    → reverse (drop n row) ++ reverse (top_part d (take n row)) ≡ reverse (drop (n - d) row)
drop-dealt n d row within =
    let long : length (take n row) ≡ n = omega (arith, length-take n row, within) in
    ap (λ (k : ℕ). reverse (drop n row) ++ reverse (drop (k - d) (take n row))) long
    ∙ sym (reverse-append (drop (n - d) (take n row)) (drop n row))
    ∙ ap reverse (sym (drop-append-le (n - d) (take n row) (drop n row) (omega (arith, long))))
    ∙ ap (λ (xs : List Card). reverse (drop (n - d) xs)) (take-append-drop n row)

cut-dealt : (rules : RuleParts) (a b : Border) (board next : Board) → a.stock ≤ length (queue board)
    → b ≡ record { stock = a.stock - rules.draw; redeals_left = a.redeals_left }
    → Dealt rules (cut_at a board) next → cut_at b board ≡ next
cut-dealt rules a b board next within is h =
    ap (λ (x : Border). cut_at x board) is
    ∙ sym (ap₂ (λ (stock waste : List Card). with_stock board stock waste a.redeals_left)
    (take-dealt a.stock rules.draw (queue board) within) (drop-dealt a.stock rules.draw (queue board) within))
    ∙ sym h.is_after

-- a redeal moves it to the end of the queue

some-taken : (n : ℕ) (row : List Card) → 0 < length (take n row) → 0 < n
some-taken n row some = omega (arith, length-take n row, some)

none-taken : (n : ℕ) (row : List Card) → n ≤ length row → take n row ≡ [] → n ≡ 0
none-taken n row within none = omega (arith, length-take n row, within, ap length none)

cut-redealt : (rules : RuleParts) (a b : Border) (board next : Board) → a.stock ≡ 0
    → b ≡ record {
      stock = length (queue board);
      redeals_left = if is_unlimited rules.redeals then a.redeals_left else a.redeals_left - 1;
    }
    → Redealt rules (cut_at a board) next → cut_at b board ≡ next
cut-redealt rules a b board next none is h =
    let row : List Card = queue board in
    let left : ℕ = if is_unlimited rules.redeals then a.redeals_left else a.redeals_left - 1 in
    let whole : reverse (reverse (drop a.stock row)) ≡ row =
    reverse-reverse (drop a.stock row) ∙ ap (λ (k : ℕ). drop k row) none in
    let all : take (length row) row ≡ row = take_all (length row) row (omega arith) in
    let nothing : drop (length row) row ≡ [] = drop-length row in
    ap (λ (x : Border). cut_at x board) is
    ∙ ap₂ (λ (stock waste : List Card). with_stock board stock (reverse waste) left) (all ∙ sym whole) nothing
    ∙ sym h.is_after

-- the border after one stock move more
pub cut-next : (rules : RuleParts) (a b : Border) (board next : Board) (cards : ℕ)
    → IsTrue (deals_to_waste rules.target)
    → a.stock ≤ length (queue board) → cards ≡ length (queue board) → IsNextByStock rules (cut_at a board) next
    → (0 < a.stock → b ≡ record { stock = a.stock - rules.draw; redeals_left = a.redeals_left })
    → (a.stock ≡ 0 → b ≡ record {
      stock = cards;
      redeals_left = if is_unlimited rules.redeals then a.redeals_left else a.redeals_left - 1;
    })
    → (cut_at b board ≡ next) × (b.stock ≤ length (queue board))
cut-next rules a b board next cards to_waste within whole h deals redeals =
    elim (next_cases rules (cut_at a board) next to_waste h) [
      | inl dealt ↦
          let is = deals (some-taken a.stock (queue board) dealt.some) in
          (cut-dealt rules a b board next within is dealt, omega (arith, ap (λ (x : Border). x.stock) is, within))
      | inr redealt ↦
          let none = none-taken a.stock (queue board) within redealt.none in
          let is = redeals none in
          let all = ap (λ (n : ℕ). let x : Border = record {
            stock = n;
            redeals_left = if is_unlimited rules.redeals then a.redeals_left else a.redeals_left - 1;
          } in x) whole in (
            cut-redealt rules a b board next none (is ∙ all) redealt,
            omega (arith, ap (λ (x : Border). x.stock) is, whole),
          )
    ]

-- cards of the stock go to the waste
pub cut-down : (border : Border) (board : Board) (d : ℕ)
    → border.stock ≤ length board.stock → d ≡ length board.stock - border.stock
    → with_stock board (below_top d board.stock) (board.waste ++ reverse (top_part d board.stock)) border.redeals_left
    ≡ cut_at border board
cut-down border board d below is =
    let n : ℕ = border.stock in
    let left : length board.stock - d ≡ n = omega (arith, is, below) in
    let turned : reverse (drop n (queue board)) ≡ board.waste ++ reverse (drop n board.stock) =
    ap reverse (drop-append-le n board.stock (reverse board.waste) below)
    ∙ reverse-append (drop n board.stock) (reverse board.waste)
    ∙ ap (λ (xs : List Card). xs ++ reverse (drop n board.stock)) (reverse-reverse board.waste) in
    ap (λ (k : ℕ).
    with_stock board (take k board.stock) (board.waste ++ reverse (drop k board.stock)) border.redeals_left) left
    ∙ ap₂ (λ (stock waste : List Card). with_stock board stock waste border.redeals_left)
    (sym (take-append-le n board.stock (reverse board.waste) below)) (sym turned)

-- cards of the waste go back to the stock
pub cut-up : (border : Border) (board : Board) (d : ℕ)
    → length board.stock ≤ border.stock → border.stock ≤ length (queue board)
    → d ≡ border.stock - length board.stock
    → with_stock board (board.stock ++ reverse (top_part d board.waste)) (below_top d board.waste) border.redeals_left
    ≡ cut_at border board
cut-up border board d above fits is =
    let n : ℕ = border.stock in
    let top : List Card = top_part d board.waste in
    let rest : List Card = below_top d board.waste in
    let whole : n ≡ length board.stock + d = omega (arith, is, above) in
    let few : d ≤ length board.waste = omega (arith, is, above, fits, length-queue board) in
    let long : length (reverse top) ≡ d = omega (arith, length-reverse top, length-top d board.waste, few) in
    let parted : reverse board.waste ≡ reverse top ++ reverse rest =
    ap reverse (sym (below-top d board.waste)) ∙ reverse-append rest top in
    let stock : take n (queue board) ≡ board.stock ++ reverse top =
    ap (λ (k : ℕ). take k (queue board)) whole
    ∙ take-append-add board.stock (reverse board.waste) d
    ∙ ap (λ (xs : List Card). board.stock ++ take d xs) parted
    ∙ ap (λ (xs : List Card). board.stock ++ xs) (take_at (reverse top) (reverse rest) d long) in
    let waste : reverse (drop n (queue board)) ≡ rest =
    ap (λ (k : ℕ). reverse (drop k (queue board))) whole
    ∙ ap reverse (drop-append-add board.stock (reverse board.waste) d)
    ∙ ap (λ (xs : List Card). reverse (drop d xs)) parted
    ∙ ap reverse (drop_at (reverse top) (reverse rest) d long)
    ∙ reverse-reverse rest in
    ap₂ (λ (s w : List Card). with_stock board s w border.redeals_left) (sym stock) (sym waste)
