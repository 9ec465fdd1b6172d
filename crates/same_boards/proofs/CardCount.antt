-- The cards of a board beside those on foundations are no more than those of its decks.
use Rattle.std.proofs.Common.{◌≡◌, ◌+◌, ◌*◌, ◌≤◌, List, [], ◌∷◌, ◌++◌, length, refl, arith}
use Rattle.std.proofs.Common.{length-append, mul-le-mul_right}
use Rattle.std.specs.Prelude.{Option, Some, None, is_some}
use Rattle.std.specs.List.{sum_by, count_by}
use Rattle.std.proofs.lemmas.List.Sums.{sum_by-cons}
use Rattle.card_piles.specs.declared.Card.{Card}
use Rattle.game_rules.specs.declared.RuleParts.{RuleParts}
use Rattle.game_rules.specs.Playable.{HasLimits}
use Rattle.game_rules.specs.Board.{Board, Pile}
use Rattle.game_rules.specs.Belonging.{Belongs}
use Rattle.game_rules.specs.Counting.{card_count}
use Rattle.same_boards.specs.Keys.{cards_in}
use Rattle.same_boards.proofs.BoardCards.{cards_of_piles, cards_of_board}
use Rattle.game_rules.proofs.FewCards.{few_cards-by_suits}
use Rattle.same_boards.proofs.Sorting.{one_if}

length-piles : (piles : List Pile) → length (cards_of_piles piles) ≡ sum_by (λ (pile : Pile). length pile.cards) piles
length-piles [] = refl
length-piles (pile ∷ piles) =
    let joined : length (cards_of_piles (pile ∷ piles)) ≡ length pile.cards + length (cards_of_piles piles) =
    length-append pile.cards (cards_of_piles piles) in
    let rest = length-piles piles in
    let step = sum_by-cons (λ (p : Pile). length p.cards) pile piles in
    omega (arith, joined, rest, step)

length-entries : (entries : List (Option Card))
    → length (cards_in entries) ≡ count_by (λ (e : Option Card). is_some e) entries
length-entries [] = refl
length-entries (None ∷ entries) =
    let rest = length-entries entries in
    let step = sum_by-cons (λ (e : Option Card). one_if (is_some e)) None entries in
    omega (arith, rest, step)
length-entries (Some card ∷ entries) =
    let rest = length-entries entries in
    let step = sum_by-cons (λ (e : Option Card). one_if (is_some e)) (Some card) entries in
    omega (arith, rest, step)

cards-counted : (board : Board) → length (cards_of_board board) ≤ card_count board
cards-counted board =
    let piles = length-piles board.piles in
    let cells = length-entries board.cells in
    let reserve = length-entries board.reserve in
    let slots = length-entries board.slots in
    let last = length-append board.hole (cards_in board.slots) in
    let wastes = length-append board.waste (board.hole ++ cards_in board.slots) in
    let stocks = length-append board.stock (board.waste ++ (board.hole ++ cards_in board.slots)) in
    let reserves = length-append (cards_in board.reserve)
    (board.stock ++ (board.waste ++ (board.hole ++ cards_in board.slots))) in
    let filled = length-append (cards_in board.cells)
    (cards_in board.reserve ++ (board.stock ++ (board.waste ++ (board.hole ++ cards_in board.slots)))) in
    let all = length-append (cards_of_piles board.piles) (cards_in board.cells
    ++ (cards_in board.reserve ++ (board.stock ++ (board.waste ++ (board.hole ++ cards_in board.slots))))) in
    omega (arith, piles, cells, reserve, slots, last, wastes, stocks, reserves, filled, all)

pub cards-few_for_decks : (rules : RuleParts) (board : Board) → HasLimits rules → Belongs rules board
    → length (cards_of_board board) ≤ 52 * rules.decks
cards-few_for_decks rules board limits belongs =
    let few = few_cards-by_suits rules board belongs in
    let counted = cards-counted board in
    let ranks : rules.max_rank ≤ 13 = limits.max_rank in
    let four : 4 * rules.max_rank ≤ 52 = omega arith in
    let most : 4 * rules.max_rank * rules.decks ≤ 52 * rules.decks = mul-le-mul_right rules.decks four in
    omega (arith, few, counted, most)
