-- Each number of a key is a byte.
use Rattle.std.proofs.Common.{◌≡◌, ℕ, ◌+◌, ◌-◌, ◌*◌, ◌<◌, ◌≤◌, Bool, true, false, ◌&&◌, List, [], ◌∷◌, ◌++◌, map}
use Rattle.std.proofs.Common.{length, get_or, arith}
use Rattle.std.specs.Prelude.{IsTrue, nat_le, Option, Some, None, if◌then◌else◌}
use Rattle.std.specs.List.{All, AllPass, list_all, concat, range_with_len}
use Rattle.std.specs.Ordering.{nat_cmp}
use Rattle.std.specs.declared.cmp.Ordering.{Ordering}
use Rattle.std.specs.Cmp.Lexicographic.{slice_cmp}
use Rattle.std.proofs.lemmas.List.{get_or_past, length-map}
use Rattle.std.proofs.lemmas.List.Concat.{length-flat_map}
use Rattle.std.proofs.lemmas.List.Elements.{All-nil, All-cons, All-head, All-tail, All-append, All-map}
use Rattle.std.proofs.lemmas.List.Sums.{AllPass-from_list_all, get_or-le-sum_by}
use Rattle.std.proofs.lemmas.List.Sorted.{All-permutation}
use Rattle.std.proofs.lemmas.Bool.{leb-true, eqb-true, cases_lt}
use Rattle.card_piles.specs.declared.Suit.{Suit}
use Rattle.card_piles.specs.declared.Suit.TheVariants.{Clubs, Diamonds, Hearts, Spades}
use Rattle.card_piles.specs.declared.Card.{Card}
use Rattle.card_piles.specs.Cards.{place_of}
use Rattle.game_rules.specs.declared.RuleParts.{RuleParts}
use Rattle.game_rules.specs.declared.Face.{Face}
use Rattle.game_rules.specs.declared.Face.TheVariants.{AllUp, TopUp}
use Rattle.game_rules.specs.declared.Redeals.{Redeals}
use Rattle.game_rules.specs.declared.Redeals.TheVariants.{Times, Unlimited}
use Rattle.game_rules.specs.Rules.{is_foundation_goal, is_hole_goal, is_sequence_goal}
use Rattle.game_rules.specs.Conflicts.{are_redeals_within}
use Rattle.game_rules.specs.Playable.{IsPlayable, HasLimits}
use Rattle.game_rules.specs.Board.{Board, Pile, top_of, height_at}
use Rattle.game_rules.specs.Winning.{rows_of}
use Rattle.game_rules.specs.Belonging.{Belongs, lies_well, most_redeals}
use Rattle.same_boards.specs.Same.{keeps_pile_order, heights_of_suit}
use Rattle.same_boards.specs.Keys.{sorted, sorted_bytes, sorted_lists, card_byte, card_bytes, entry_byte, counted}
use Rattle.same_boards.specs.Keys.{cards_in, height_bytes, hole_bytes, cell_bytes, reserve_bytes, pile_bytes}
use Rattle.same_boards.specs.Keys.{piles_bytes, row_bytes, rows_bytes, key_bytes, key_with}
use Rattle.game_rules.proofs.Limits.{limits_of, numbers_within}
use Rattle.same_boards.proofs.Renaming.{either}
use Rattle.same_boards.proofs.Sorting.{sorted-permutation}
use Rattle.game_rules.specs.Ranked.{HasRanks}
use Rattle.game_rules.proofs.Ranks.{ranks-belong}
use Rattle.same_boards.proofs.KeyParts.{IsGood, IsGoodEntry, IsGoodPile}
use Rattle.same_boards.proofs.CardCount.{cards-few_for_decks}
use Rattle.same_boards.proofs.BoardCards.{cards_of_piles, cards_of_board}
use Rattle.same_boards.proofs.KeysSame.{all_heights, good_cards_in, top-good, good_rows}
use Rattle.same_boards.proofs.KeySize.{board-size, cells-size, reserve-size, hole-few}

abbrev pub IsByte : ℕ → Type 0
IsByte n = n < 256

abbrev pub AreBytes : List ℕ → Type 0
AreBytes bytes = All IsByte bytes

-- ---- the kinds of parts

place-small : (s : Suit) → place_of s ≤ 3
place-small Clubs = omega arith
place-small Diamonds = omega arith
place-small Hearts = omega arith
place-small Spades = omega arith

card-is_byte : (card : Card) → IsGood card → IsByte (card_byte card)
card-is_byte card good =
    let place : place_of card.suit ≤ 3 = place-small card.suit in
    let low : 1 ≤ card.rank = good.0 in
    let high : card.rank ≤ 13 = good.1 in
    omega arith

entry-is_byte : (entry : Option Card) → IsGoodEntry entry → IsByte (entry_byte entry)
entry-is_byte None good = omega arith
entry-is_byte (Some card) good = card-is_byte card good

cards-are_bytes : (cards : List Card) → All IsGood cards → AreBytes (card_bytes cards)
cards-are_bytes cards all = All-map IsByte card_byte cards (λ k d h. card-is_byte (get_or cards k d) (all k d h))

pub row-is_bytes : (row : List (Option Card)) → All IsGoodEntry row → AreBytes (row_bytes row)
row-is_bytes row all = All-map IsByte entry_byte row (λ k d h. entry-is_byte (get_or row k d) (all k d h))

sorted-are : {A : Type 0} (P : A → Type 0) (R : A → A → Ordering) (xs : List A) → All P xs → All P (sorted R xs)
sorted-are P R xs all = All-permutation P xs (sorted R xs) (sorted-permutation R xs) all

all-concat : (lists : List (List ℕ)) → All AreBytes lists → AreBytes (concat lists)
all-concat [] all = All-nil IsByte
all-concat (list ∷ lists) all = All-append IsByte list (concat lists) (All-head AreBytes list lists all)
    (all-concat lists (All-tail AreBytes list lists all))

pub if-are : (t : Bool) (xs : List ℕ) → AreBytes xs → AreBytes (if t then xs else [])
if-are true xs all = all
if-are false xs all = All-nil IsByte

counted-are : (xs : List ℕ) → length xs < 256 → AreBytes xs → AreBytes (counted xs)
counted-are xs few all = All-cons IsByte (length xs) xs few all

-- ---- heights

height-small : (rules : RuleParts) (board : Board) (f : ℕ) → Belongs rules board → height_at board f ≤ rules.max_rank
height-small rules board f belongs =
    let each : AllPass (λ (height : ℕ). nat_le height rules.max_rank) board.heights = AllPass-from_list_all
    (λ (height : ℕ). nat_le height rules.max_rank) board.heights belongs.heights in
    either (cases_lt f (length board.heights))
    (λ h. leb-true (height_at board f) rules.max_rank (each f 0 h))
    (λ h. let none : height_at board f ≡ 0 = get_or_past board.heights f 0 h in omega arith)

-- the heights of the foundations of a suit are bytes
pub suit-are : (rules : RuleParts) (board : Board) (suit : ℕ) → HasLimits rules → Belongs rules board
    → AreBytes (heights_of_suit rules board suit)
suit-are rules board suit limits belongs =
    All-map IsByte (λ (deck : ℕ). height_at board (4 * deck + suit)) (range_with_len 0 rules.decks)
    (λ k d h. let small = height-small rules board (4 * get_or (range_with_len 0 rules.decks) k d + suit) belongs in
    let most : rules.max_rank ≤ 13 = limits.max_rank in
    omega (arith, small, most))

pub sorted_bytes-are : (bytes : List ℕ) → AreBytes bytes → AreBytes (sorted_bytes bytes)
sorted_bytes-are bytes all = sorted-are IsByte nat_cmp bytes all

heights-are : (rules : RuleParts) (board : Board) → HasLimits rules → Belongs rules board
    → AreBytes (all_heights rules board)
heights-are rules board limits belongs =
    let suit : (s : ℕ) → AreBytes (sorted_bytes (heights_of_suit rules board s)) = λ s.
    sorted_bytes-are (heights_of_suit rules board s) (suit-are rules board s limits belongs) in
    All-append IsByte (sorted_bytes (heights_of_suit rules board 0)) _ (suit 0)
    (All-append IsByte (sorted_bytes (heights_of_suit rules board 1)) _ (suit 1)
    (All-append IsByte (sorted_bytes (heights_of_suit rules board 2)) (sorted_bytes (heights_of_suit rules board 3))
    (suit 2) (suit 3)))

redeals-small : (redeals : Redeals) → IsTrue (are_redeals_within redeals) → most_redeals redeals ≤ 99
redeals-small (Times n) h = leb-true n 99 h
redeals-small Unlimited h = omega arith

last_part : (a b : Bool) → IsTrue (a && b) → IsTrue b
last_part true b h = h
last_part false b h = cc

redeals-within : (rules : RuleParts) → IsPlayable rules → most_redeals rules.redeals ≤ 99
redeals-within rules playable = redeals-small rules.redeals (last_part _ _ (numbers_within rules playable))

-- ---- piles

face_down-small : (face : Face) (pile : Pile) → IsTrue (lies_well face pile) → pile.face_down ≤ length pile.cards
face_down-small AllUp pile h = let none : pile.face_down ≡ 0 = eqb-true pile.face_down 0 h in omega arith
face_down-small TopUp pile h = let few : pile.face_down ≤ length pile.cards - 1 = leb-true pile.face_down
    (length pile.cards - 1) h in omega arith

pub pile-small : (piles : List Pile) (k : ℕ) (d : Pile) → k < length piles
    → length (get_or piles k d).cards ≤ length (cards_of_piles piles)
pile-small piles k d h =
    let one = get_or-le-sum_by (λ (pile : Pile). length pile.cards) piles k d h in
    let whole = length-flat_map (λ (pile : Pile). pile.cards) piles in
    omega (arith, one, whole)

pub piles-are : (face : Face) (piles : List Pile) → IsTrue (list_all (lies_well face) piles) → All IsGoodPile piles
    → length (cards_of_piles piles) < 256
    → All AreBytes (map pile_bytes piles)
piles-are face piles lie good few =
    let each : AllPass (lies_well face) piles = AllPass-from_list_all (lies_well face) piles lie in
    All-map AreBytes pile_bytes piles
    (λ k d h. let pile : Pile = get_or piles k d in
    let size : length pile.cards ≤ length (cards_of_piles piles) = pile-small piles k d h in
    let down : pile.face_down ≤ length pile.cards = face_down-small face pile (each k d h) in
    All-cons IsByte (length pile.cards) (pile.face_down ∷ card_bytes pile.cards) (omega arith)
    (All-cons IsByte pile.face_down (card_bytes pile.cards) (omega arith) (cards-are_bytes pile.cards (good k d h))))

pieces-are_bytes : (t : Bool) (piles : List Pile) → All AreBytes (map pile_bytes piles)
    → All AreBytes (if t then map pile_bytes piles else sorted_lists (map pile_bytes piles))
pieces-are_bytes true piles all = all
pieces-are_bytes false piles all = sorted-are AreBytes (slice_cmp nat_cmp) (map pile_bytes piles) all

reserve-are : (t : Bool) (cards : List Card) → All IsGood cards
    → AreBytes (if t then card_bytes cards else sorted_bytes (card_bytes cards))
reserve-are true cards all = cards-are_bytes cards all
reserve-are false cards all = sorted-are IsByte nat_cmp (card_bytes cards) (cards-are_bytes cards all)

-- ---- the whole key

join-are : (n : ℕ) → IsByte n → (s w h o c r p q : List ℕ) → AreBytes s → AreBytes w → AreBytes h → AreBytes o
    → AreBytes c → AreBytes r → AreBytes p → AreBytes q
    → AreBytes (n ∷ (s ++ (w ++ (h ++ (o ++ (c ++ (r ++ (p ++ q))))))))
join-are n first s w h o c r p q a_s aw ah ao ac ar a_p aq =
    All-cons IsByte n (s ++ (w ++ (h ++ (o ++ (c ++ (r ++ (p ++ q))))))) first
    (All-append IsByte s (w ++ (h ++ (o ++ (c ++ (r ++ (p ++ q)))))) a_s
    (All-append IsByte w (h ++ (o ++ (c ++ (r ++ (p ++ q))))) aw
    (All-append IsByte h (o ++ (c ++ (r ++ (p ++ q)))) ah
    (All-append IsByte o (c ++ (r ++ (p ++ q))) ao
    (All-append IsByte c (r ++ (p ++ q)) ac
    (All-append IsByte r (p ++ q) ar
    (All-append IsByte p q a_p aq)))))))

-- what keeps each number of a board within a byte
pub record HasSmallNumbers (rules : RuleParts) (board : Board) : Type 0 where
  pub redeals_left : board.redeals_left < 256
  pub faces : IsTrue (list_all (lies_well rules.face) board.piles)
  pub ranks : HasRanks board
  pub cards : length (cards_of_piles board.piles) + length (cards_in board.cells) + length (cards_in board.reserve)
      + length board.stock + length board.waste ≤ 104
  pub hole : length board.hole ≤ 104

pub small_numbers : (rules : RuleParts) (board : Board) → IsPlayable rules → Belongs rules board
    → HasSmallNumbers rules board
small_numbers rules board playable belongs =
    let limits : HasLimits rules = limits_of rules playable in
    let decks : rules.decks ≤ 2 = limits.decks in
    let cards : length (cards_of_board board) ≤ 52 * rules.decks = cards-few_for_decks rules board limits belongs in
    let parts = board-size board in
    let hole_few = hole-few board in
    let redeals : most_redeals rules.redeals ≤ 99 = redeals-within rules playable in
    let redeals_left : board.redeals_left ≤ most_redeals rules.redeals = belongs.redeals_left in
    record {
      redeals_left = omega (arith, redeals, redeals_left);
      faces = belongs.faces;
      ranks = ranks-belong rules board limits belongs;
      cards = omega (arith, cards, parts, decks);
      hole = omega (arith, cards, hole_few, decks);
    }

-- each number of a key is a byte where those of the board and the heights are
pub key_with-are_bytes : (rules : RuleParts) (board : Board) (heights : List ℕ) → HasSmallNumbers rules board
    → AreBytes heights
    → AreBytes (key_with heights rules board)
key_with-are_bytes rules board heights small are_heights =
    let good : HasRanks board = small.ranks in
    let cards = small.cards in
    let hole_few = small.hole in
    let stock_size : length (card_bytes board.stock) ≡ length board.stock = length-map board.stock card_byte in
    let waste_size : length (card_bytes board.waste) ≡ length board.waste = length-map board.waste card_byte in
    let cell_size = cells-size board.cells in
    let reserve_size = reserve-size rules.stacked board.reserve in
    let few_piles : length (cards_of_piles board.piles) < 256 = omega (arith, cards) in
    let rows : AreBytes (rows_bytes rules board) =
    if-are (is_sequence_goal rules.goal) (concat (sorted_lists (map row_bytes (rows_of rules board))))
    (all-concat (sorted_lists (map row_bytes (rows_of rules board)))
    (sorted-are AreBytes (slice_cmp nat_cmp) (map row_bytes (rows_of rules board))
    (All-map AreBytes row_bytes (rows_of rules board)
    (λ k d h. row-is_bytes (get_or (rows_of rules board) k d) (good_rows rules board good.slots k d h))))) in
    let piles : AreBytes (concat (piles_bytes rules board)) =
    all-concat (piles_bytes rules board) (pieces-are_bytes (keeps_pile_order rules board) board.piles
    (piles-are rules.face board.piles small.faces good.piles few_piles)) in
    let reserve : AreBytes (counted (reserve_bytes rules board)) =
    counted-are (reserve_bytes rules board) (omega (arith, cards, reserve_size))
    (reserve-are rules.stacked (cards_in board.reserve) (good_cards_in board.reserve good.reserve)) in
    let cells : AreBytes (counted (cell_bytes board)) =
    counted-are (cell_bytes board) (omega (arith, cards, cell_size))
    (reserve-are false (cards_in board.cells) (good_cards_in board.cells good.cells)) in
    let hole : AreBytes (hole_bytes rules board) =
    if-are (is_hole_goal rules.goal) (length board.hole ∷ entry_byte (top_of board.hole) ∷ [])
    (All-cons IsByte (length board.hole) (entry_byte (top_of board.hole) ∷ []) (omega (arith, hole_few))
    (All-cons IsByte (entry_byte (top_of board.hole)) []
    (entry-is_byte (top_of board.hole) (top-good board.hole good.hole)) (All-nil IsByte))) in
    let waste : AreBytes (counted (card_bytes board.waste)) =
    counted-are (card_bytes board.waste) (omega (arith, cards, waste_size)) (cards-are_bytes board.waste good.waste) in
    let stock : AreBytes (counted (card_bytes board.stock)) =
    counted-are (card_bytes board.stock) (omega (arith, cards, stock_size)) (cards-are_bytes board.stock good.stock) in
    join-are board.redeals_left small.redeals_left (counted (card_bytes board.stock))
    (counted (card_bytes board.waste)) heights (hole_bytes rules board)
    (counted (cell_bytes board)) (counted (reserve_bytes rules board)) (concat (piles_bytes rules board))
    (rows_bytes rules board) stock waste are_heights hole cells reserve piles rows

pub key-are_bytes : (rules : RuleParts) (board : Board) → IsPlayable rules → Belongs rules board
    → AreBytes (key_bytes rules board)
key-are_bytes rules board playable belongs =
    key_with-are_bytes rules board (height_bytes rules board) (small_numbers rules board playable belongs)
    (if-are (is_foundation_goal rules.goal) (all_heights rules board)
    (heights-are rules board (limits_of rules playable) belongs))
