-- What is written for a board reads as this board.
use Rattle.std.proofs.Common.{◌≡◌, ℕ, ◌≤◌, ◌<◌, suc, Bool, true, false, ◌&&◌, ◌||◌, not, List, [], ◌∷◌, map, length}
use Rattle.std.proofs.Common.{get_or, refl, ap, ap₂, sym, ◌∙◌, arith, IsUtf8}
use Rattle.std.specs.Prelude.{cond, Option, Some, None, Ok, Result, IsTrue, ◌==◌, nat_lt, unwrap_or}
use Rattle.std.specs.List.{All, list_any, list_all, range_with_len}
use Rattle.std.proofs.lemmas.List.Elements.{All-head, All-tail}
use Rattle.std.proofs.lemmas.List.Sums.{AllPass-from_list_all}
use Rattle.std.proofs.lemmas.List.FromFn.{length-range_with_len, get_or-range_with_len}
use Rattle.std.proofs.lemmas.Bool.{eqb-true, le-ltb}
use Rattle.serde_json.specs.Data.{Data, depth}
use Rattle.serde_json.specs.View.{items_of}
use Rattle.serde_json.specs.Read.{read, max_depth}
use Rattle.serde_json.specs.Written.{has_float, compact_text}
use Rattle.json_tree.specs.Tree.{max_file_length}
use Rattle.json_tree.proofs.Reading.{tree_of-read, object_of-tree}
use Rattle.card_piles.specs.declared.Card.{Card}
use Rattle.card_piles.specs.declared.Suit.{Suit}
use Rattle.card_piles.specs.declared.Suit.TheVariants.{Clubs, Diamonds, Hearts, Spades}
use Rattle.card_piles.specs.Ranks.{IsRank}
use Rattle.card_piles.specs.CardText.{suit_letter, suit_of_letter, rank_letter, rank_of_letter, card_with}
use Rattle.card_piles.specs.CardText.{card_of_text, text_of_card}
use Rattle.game_rules.specs.declared.RuleParts.{RuleParts}
use Rattle.game_rules.specs.declared.BoardParts.{BoardParts}
use Rattle.game_rules.specs.declared.BoardFault.{BoardFault}
use Rattle.game_rules.specs.declared.BoardFault.TheVariants.{PlaceFull}
use Rattle.game_rules.specs.declared.Face.{Face}
use Rattle.game_rules.specs.declared.Part.{Part}
use Rattle.game_rules.specs.declared.Part.TheVariants as part
use Rattle.game_rules.specs.Playable.{IsPlayable}
use Rattle.game_rules.specs.Board.{Board, Pile, empty_pile}
use Rattle.game_rules.specs.Belonging.{Belongs, lies_well}
use Rattle.game_rules.specs.Position.{parts_of, fault_of, tableau_full}
use Rattle.game_rules.specs.Ranked.{AreCards, AreEntries}
use Rattle.game_rules.proofs.Limits.{both, limits_of}
use Rattle.game_rules.proofs.FewCards.{each_place-few}
use Rattle.game_rules.proofs.BelongingExactly.{board-of_its_parts, parts-have_no_fault}
use Rattle.deal_reader.specs.declared.deal.DealParts.{DealParts}
use Rattle.deal_reader.specs.declared.fault.DealFault.{DealFault}
use Rattle.deal_reader.specs.Entries.{card_at, entry_at, number_at, place_after, entries_from, list_at}
use Rattle.deal_reader.specs.Entries.{lists_from, or_not_a_card}
use Rattle.deal_reader.specs.Position.{deal_of_tree, has_great_number, fault_of_deal, board_or_fault, position_of_deal}
use Rattle.deal_reader.specs.Position.{position_of_tree, position_of_file, position_of}
use Rattle.deal_reader.specs.Spelling.{card_tree, entry_tree, number_tree, list_tree, parts_tree, position_text}
use Rattle.deal_reader.proofs.Texts.{down-small, parts-no_float, parts-shallow, position_text-short}
use Rattle.deal_reader.proofs.Ranks.{IsEntry, PartsHaveRanks, parts-have_ranks}

-- a card's text names the card
suit-read : (s : Suit) → suit_of_letter (suit_letter s) ≡ Some s
suit-read Clubs = refl
suit-read Diamonds = refl
suit-read Hearts = refl
suit-read Spades = refl

abbrev reads_back : ℕ → Bool
reads_back r = unwrap_or (rank_of_letter (rank_letter r)) 0 == r

some_of : (o : Option ℕ) (r : ℕ) → 1 ≤ r → unwrap_or o 0 ≡ r → o ≡ Some r
some_of None r some h = absurd (omega (arith, some, h))
some_of (Some n) r some h = ap (λ (k : ℕ). Some k) h

rank-read : (r : ℕ) → IsRank r → rank_of_letter (rank_letter r) ≡ Some r
rank-read r ranked =
    let all : IsTrue (list_all reads_back (range_with_len 0 14)) = refl in
    let long = length-range_with_len 0 14 in
    let inside : r < 14 = omega (arith, ranked.1) in
    let here : r < length (range_with_len 0 14) = omega (arith, long, inside) in
    let at : get_or (range_with_len 0 14) r 0 ≡ r = get_or-range_with_len 0 14 r 0 inside ∙ omega arith in
    let passes : IsTrue (reads_back r) = ap reads_back (sym at) ∙ AllPass-from_list_all reads_back
    (range_with_len 0 14) all r 0 here in
    some_of (rank_of_letter (rank_letter r)) r ranked.0 (eqb-true _ r passes)

card-read : (card : Card) → IsRank card.rank → card_of_text (text_of_card card) ≡ Some card
card-read card ranked = ap₂ (λ (r : Option ℕ) (s : Option Suit). card_with r s) (rank-read card.rank ranked)
    (suit-read card.suit)

card_at-card : (part : Part) (place : ℕ) (card : Card) → IsRank card.rank
    → card_at part place (card_tree card) ≡ Ok card
card_at-card part place card ranked = ap (or_not_a_card part place) (card-read card ranked)

entry_at-entry : (part : Part) (place : ℕ) (entry : Option Card) → IsEntry entry
    → entry_at part place (entry_tree entry) ≡ Ok entry
entry_at-entry part place None ranked = refl
entry_at-entry part place (Some card) ranked = rw (card_at-card part place card ranked) refl

-- lists
entries_from-list : {A : Type 0} (read : ℕ → Data → Result A DealFault) (tree : A → Data) (P : A → Type 0)
    → ((place : ℕ) (x : A) → P x → read place (tree x) ≡ Ok x) → (place : ℕ) (xs : List A) → All P xs
    → entries_from read place (items_of (map tree xs)) ≡ Ok xs
entries_from-list read tree P back place [] all = refl
entries_from-list read tree P back place (x ∷ xs) all =
    let first = back place x (All-head P x xs all) in
    let rest = entries_from-list read tree P back (place_after place 1) xs (All-tail P x xs all) in
    rw (first, rest) refl

lists_from-lists : {A : Type 0} (part : Part) (read : ℕ → Data → Result A DealFault) (tree : A → Data) (P : A → Type 0)
    → ((place : ℕ) (x : A) → P x → read place (tree x) ≡ Ok x) → (place : ℕ) (xss : List (List A)) → All (All P) xss
    → lists_from part read place (items_of (map (list_tree tree) xss)) ≡ Ok xss
lists_from-lists part read tree P back place [] all = refl
lists_from-lists part read tree P back place (xs ∷ xss) all =
    let first = entries_from-list read tree P back place xs (All-head (All P) xs xss all) in
    let rest = lists_from-lists part read tree P back (place_after place (length xs)) xss
    (All-tail (All P) xs xss all) in
    rw (first, rest) refl

cards-read : (part : Part) (cards : List Card) → AreCards cards
    → list_at part (card_at part) 0 (list_tree card_tree cards) ≡ Ok cards
cards-read part cards all = entries_from-list (card_at part) card_tree (λ card. IsRank card.rank)
    (card_at-card part) 0 cards all

entries-read : (part : Part) (entries : List (Option Card)) → AreEntries entries
    → list_at part (entry_at part) 0 (list_tree entry_tree entries) ≡ Ok entries
entries-read part entries all = entries_from-list (entry_at part) entry_tree IsEntry (entry_at-entry part) 0 entries all

numbers-read : (part : Part) (numbers : List ℕ)
    → list_at part (number_at part) 0 (list_tree number_tree numbers) ≡ Ok numbers
numbers-read part numbers = entries_from-list (number_at part) number_tree (λ n. Unit {0}) (λ place n h. refl) 0 numbers
    (λ k d inside. tt)

-- the parts
abbrev deal_of_parts : BoardParts → DealParts
deal_of_parts parts = record {
  tableau = parts.tableau;
  face_down = Some parts.face_down;
  cells = parts.cells;
  reserve = parts.reserve;
  stock = parts.stock;
  waste = parts.waste;
  redeals_left = parts.redeals_left;
  foundations = parts.foundations;
  hole = parts.hole;
  rows = parts.rows;
}

deal_of_tree-parts : (rules : RuleParts) (parts : BoardParts) → PartsHaveRanks parts
    → deal_of_tree rules (parts_tree parts) ≡ Ok (deal_of_parts parts)
unfolding deal_of_tree
deal_of_tree-parts rules parts ranked =
    let tableau = lists_from-lists part.Tableau (card_at part.Tableau) card_tree (λ (card : Card). IsRank card.rank)
    (card_at-card part.Tableau) 0 parts.tableau ranked.tableau in
    let face_down = numbers-read part.FaceDown parts.face_down in
    let cells = entries-read part.Cells parts.cells ranked.cells in
    let reserve = entries-read part.Reserve parts.reserve ranked.reserve in
    let stock = cards-read part.Stock parts.stock ranked.stock in
    let waste = cards-read part.Waste parts.waste ranked.waste in
    let foundations = numbers-read part.Foundations parts.foundations in
    let hole = cards-read part.Hole parts.hole ranked.hole in
    let rows = lists_from-lists part.Rows (entry_at part.Rows) entry_tree IsEntry
    (entry_at-entry part.Rows) 0 parts.rows ranked.rows in
    rw (tableau, face_down, cells, reserve, stock, waste, foundations, hole, rows) refl

-- no pile has more than 255 cards face down
down-few : (face : Face) (pile : Pile) → IsTrue (lies_well face pile) → length pile.cards ≤ 104
    → nat_lt 255 pile.face_down ≡ false
down-few face pile well few = le-ltb 255 pile.face_down (down-small face pile well few)

neither : (a b : Bool) → a ≡ false → b ≡ false → (a || b) ≡ false
neither true b h k = cc
neither false b h k = k

none-great : (face : Face) (piles : List Pile) → IsTrue (list_all (lies_well face) piles)
    → ((i : ℕ) → length (get_or piles i empty_pile).cards ≤ 104)
    → list_any (λ number. nat_lt 255 number) (map (λ pile. pile.face_down) piles) ≡ false
none-great face [] well few = refl
none-great face (p ∷ ps) well few =
    let parts = both (lies_well face p) (list_all (lies_well face) ps) well in
    neither (nat_lt 255 p.face_down) (list_any (λ number. nat_lt 255 number) (map (λ pile. pile.face_down) ps))
    (down-few face p parts.0 (few 0)) (none-great face ps parts.1 (λ i. few (suc i)))

position_of_deal-parts : (rules : RuleParts) (board : Board) → IsPlayable rules → Belongs rules board
    → position_of_deal rules (deal_of_parts (parts_of rules board)) ≡ Ok board
position_of_deal-parts rules board playable b =
    let few = each_place-few rules board (limits_of rules playable) b in
    let parts : BoardParts = parts_of rules board in
    let none : has_great_number (Some parts.face_down) ≡ false = none-great rules.face board.piles b.faces few.piles in
    let fault : fault_of_deal rules (deal_of_parts parts) ≡ None =
    ap (λ (g : Bool). cond (g && not (tableau_full rules parts)) (Some (PlaceFull part.FaceDown))
    (fault_of rules parts)) none ∙ parts-have_no_fault rules board b in
    ap₂ (λ (x : Board) (o : Option BoardFault). board_or_fault x o) (board-of_its_parts rules board b) fault

position_of_tree-spelled : (rules : RuleParts) (board : Board) → IsPlayable rules → Belongs rules board
    → position_of_tree rules (parts_tree (parts_of rules board)) ≡ Ok board
unfolding position_of_tree
position_of_tree-spelled rules board playable b =
    rw (deal_of_tree-parts rules (parts_of rules board) (parts-have_ranks rules board (limits_of rules playable) b))
    (position_of_deal-parts rules board playable b)

-- Bytes that read as the tree of a board give this board.
pub position_of-spelled : (rules : RuleParts) (board : Board) (text : List ℕ) → IsPlayable rules → Belongs rules board
    → length text ≤ max_file_length → IsUtf8 text → read text ≡ Some (parts_tree (parts_of rules board))
    → position_of rules text ≡ Ok board
unfolding position_of
position_of-spelled rules board text playable b short utf8 reads =
    let tree : Data = parts_tree (parts_of rules board) in
    ap (position_of_file rules) (object_of-tree text short (Some tree) (tree_of-read text tree utf8 reads))
    ∙ position_of_tree-spelled rules board playable b

-- What `serde_json` writes of the tree.
pub text-written : (rules : RuleParts) (board : Board) (tree : Data) (text : List ℕ)
    → tree ≡ parts_tree (parts_of rules board)
    → (has_float tree ≡ false → text ≡ compact_text tree) → text ≡ position_text rules board
text-written rules board tree text is spells = spells (ap has_float is ∙ parts-no_float (parts_of rules board))
    ∙ ap compact_text is

pub position_of-written : (rules : RuleParts) (board : Board) (tree : Data) (text : List ℕ) → IsPlayable rules
    → Belongs rules board → tree ≡ parts_tree (parts_of rules board)
    → (has_float tree ≡ false → text ≡ compact_text tree) → IsUtf8 text
    → (depth tree ≤ max_depth → read text ≡ Some tree)
    → position_of rules text ≡ Ok board
position_of-written rules board tree text playable b is spells utf8 reads =
    let shallow : depth tree ≤ max_depth = rw is (parts-shallow (parts_of rules board)) in
    let short : length text ≤ max_file_length = rw (text-written rules board tree text is spells)
    (position_text-short rules board playable b) in
    position_of-spelled rules board text playable b short utf8 (reads shallow ∙ ap (λ (d : Data). Some d) is)
