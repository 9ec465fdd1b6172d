-- Each card of a board that belongs to rules has one of the thirteen ranks.
use Rattle.std.proofs.Common.{◌≡◌, ℕ, ◌*◌, ◌≤◌, Bool, true, false, ◌&&◌, List, [], ◌∷◌, ◌++◌, map, drop, refl, arith}
use Rattle.std.specs.Prelude.{cond, Option, Some, None, IsTrue, IfSome, nat_le, not, ◌==◌, if◌then◌else◌}
use Rattle.std.specs.List.{All, flat_map, range_with_len}
use Rattle.std.proofs.lemmas.List.Elements.{All-nil, All-cons, All-head, All-tail, All-take, All-drop}
use Rattle.std.proofs.lemmas.Bool.{leb-true}
use Rattle.card_piles.specs.declared.Card.{Card}
use Rattle.card_piles.specs.Ranks.{IsRank}
use Rattle.game_rules.specs.declared.RuleParts.{RuleParts}
use Rattle.game_rules.specs.declared.BoardParts.{BoardParts}
use Rattle.game_rules.specs.Rules.{is_sequence_goal}
use Rattle.game_rules.specs.Playable.{HasLimits}
use Rattle.game_rules.specs.Board.{Board, Pile}
use Rattle.game_rules.specs.Belonging.{Belongs, same_card, copies_of, copies_due}
use Rattle.game_rules.specs.Winning.{row_at}
use Rattle.game_rules.specs.Position.{parts_of, row_count}
use Rattle.game_rules.specs.Ranked.{AreCards, AreEntries}
use Rattle.game_rules.proofs.Limits.{both}
use Rattle.game_rules.proofs.Copies.{copies-cons}
use Rattle.game_rules.proofs.FewCards.{cards_of, home_cards, all_cards, cards_to_piles, cards_to_cells}
use Rattle.game_rules.proofs.FewCards.{cards_to_reserve, cards_to_stock, cards_to_waste, cards_to_home, cards_to_hole}
use Rattle.game_rules.proofs.FewCards.{copies-of_all, same_card-true}

due_then : (b : Bool) (n : ℕ) → 1 ≤ (if b then n else 0) → IsTrue b
due_then true n h = refl
due_then false n h = absurd (omega (arith, h))

ranked-by_due : (rules : RuleParts) (card : Card) → HasLimits rules → 1 ≤ copies_due rules card → IsRank card.rank
ranked-by_due rules card limits due =
    let all = both (nat_le 1 card.rank && nat_le card.rank rules.max_rank)
    (not (is_sequence_goal rules.goal && (card.rank == 1))) (due_then _ rules.decks due) in
    let ranks = both (nat_le 1 card.rank) (nat_le card.rank rules.max_rank) all.0 in
    (leb-true 1 card.rank ranks.0, omega (arith, leb-true card.rank rules.max_rank ranks.1, limits.max_rank))

abbrev count : Bool → ℕ
count b = cond b 1 0

once : (b : Bool) → IsTrue b → count b ≡ 1
once true h = refl
once false h = cc

ranked-by_copies : (cards : List Card) → ((card : Card) → 1 ≤ copies_of card cards → IsRank card.rank) → AreCards cards
ranked-by_copies [] ranked = All-nil (λ (card : Card). IsRank card.rank)
ranked-by_copies (x ∷ xs) ranked =
    let here = once (same_card x x) (same_card-true x x refl refl) in
    All-cons (λ (card : Card). IsRank card.rank) x xs (ranked x (omega (arith, copies-cons x x xs, here)))
    (ranked-by_copies xs (λ card some. ranked card (omega (arith, copies-cons card x xs, some))))

all-ranked : (rules : RuleParts) (board : Board) → HasLimits rules → Belongs rules board
    → AreCards (all_cards rules board)
all-ranked rules board limits b =
    ranked-by_copies (all_cards rules board) (λ card some.
    ranked-by_due rules card limits (omega (arith, some, copies-of_all rules board card, b.cards card)))

-- the halves of a list
front : {A : Type 0} (P : A → Type 0) (xs ys : List A) → All P (xs ++ ys) → All P xs
front P [] ys all = All-nil P
front P (x ∷ xs) ys all = All-cons P x xs (All-head P x (xs ++ ys) all) (front P xs ys (All-tail P x (xs ++ ys) all))

back : {A : Type 0} (P : A → Type 0) (xs ys : List A) → All P (xs ++ ys) → All P ys
back P [] ys all = all
back P (x ∷ xs) ys all = back P xs ys (All-tail P x (xs ++ ys) all)

piles-ranked : (piles : List Pile) → AreCards (flat_map (λ pile. pile.cards) piles)
    → All AreCards (map (λ pile. pile.cards) piles)
piles-ranked [] all = All-nil AreCards
piles-ranked (p ∷ ps) all =
    let ranked : Card → Type 0 = λ (card : Card). IsRank card.rank in
    let rest : List Card = flat_map (λ (pile : Pile). pile.cards) ps in
    All-cons AreCards p.cards (map (λ pile. pile.cards) ps) (front ranked p.cards rest all)
    (piles-ranked ps (back ranked p.cards rest all))

abbrev pub IsEntry : Option Card → Type 0
IsEntry entry = IfSome entry (λ card. IsRank card.rank)

entries-ranked : (entries : List (Option Card)) → AreCards (cards_of entries) → AreEntries entries
entries-ranked [] all = All-nil IsEntry
entries-ranked (None ∷ es) all = All-cons IsEntry None es tt (entries-ranked es all)
entries-ranked (Some c ∷ es) all =
    let ranked : Card → Type 0 = λ (card : Card). IsRank card.rank in
    All-cons IsEntry (Some c) es (All-head ranked c (cards_of es) all)
    (entries-ranked es (All-tail ranked c (cards_of es) all))

-- the parts of a position hold cards that have ranks
pub record PartsHaveRanks (parts : BoardParts) : Type 0 where
  pub tableau : All AreCards parts.tableau
  pub cells : AreEntries parts.cells
  pub reserve : AreEntries parts.reserve
  pub stock : AreCards parts.stock
  pub waste : AreCards parts.waste
  pub hole : AreCards parts.hole
  pub rows : All AreEntries parts.rows

rows-ranked : (rules : RuleParts) (board : Board) (rs : List ℕ) → AreEntries board.slots
    → All AreEntries (map (row_at rules board) rs)
rows-ranked rules board [] all = All-nil AreEntries
rows-ranked rules board (r ∷ rs) all =
    All-cons AreEntries (row_at rules board r) (map (row_at rules board) rs)
    (All-take IsEntry rules.max_rank (drop (r * rules.max_rank) board.slots)
    (All-drop IsEntry (r * rules.max_rank) board.slots all))
    (rows-ranked rules board rs all)

pub parts-have_ranks : (rules : RuleParts) (board : Board) → HasLimits rules → Belongs rules board
    → PartsHaveRanks (parts_of rules board)
parts-have_ranks rules board limits b =
    let P : Card → Type 0 = λ (card : Card). IsRank card.rank in
    let all : All P (cards_to_hole rules board ++ cards_of board.slots) = all-ranked rules board limits b in
    let in_hole : All P (cards_to_hole rules board) = front P (cards_to_hole rules board) (cards_of board.slots) all in
    let in_home : All P (cards_to_home rules board) = front P (cards_to_home rules board) board.hole in_hole in
    let in_waste : All P (cards_to_waste board) = front P (cards_to_waste board)
    (home_cards rules board.heights) in_home in
    let in_stock : All P (cards_to_stock board) = front P (cards_to_stock board) board.waste in_waste in
    let in_reserve : All P (cards_to_reserve board) = front P (cards_to_reserve board) board.stock in_stock in
    let in_cells : All P (cards_to_cells board) = front P (cards_to_cells board) (cards_of board.reserve) in_reserve in
    record {
      tableau = piles-ranked board.piles (front P (cards_to_piles board) (cards_of board.cells) in_cells);
      cells = entries-ranked board.cells (back P (cards_to_piles board) (cards_of board.cells) in_cells);
      reserve = entries-ranked board.reserve (back P (cards_to_cells board) (cards_of board.reserve) in_reserve);
      stock = back P (cards_to_reserve board) board.stock in_stock;
      waste = back P (cards_to_stock board) board.waste in_waste;
      hole = back P (cards_to_home rules board) board.hole in_hole;
      rows = rows-ranked rules board (range_with_len 0 (row_count rules))
          (entries-ranked board.slots (back P (cards_to_hole rules board) (cards_of board.slots) all));
    }
