-- The numbers of a file as bytes: the first fault of a position and its board stay the same.
use Rattle.std.proofs.Common.{◌≡◌, ℕ, ◌-◌, ◌≤◌, zero, suc, Bool, true, false, ◌&&◌, ◌||◌, not, List, [], ◌∷◌, map}
use Rattle.std.proofs.Common.{length, get_or, refl, ap, ap₂, sym, ◌∙◌, arith, inl, inr}
use Rattle.std.specs.Prelude.{cond, ◌⊎◌, Ok, Err, Option, Some, None, IsTrue, nat_lt, nat_le}
use Rattle.std.specs.Prelude.{slice_index_or, if◌then◌else◌}
use Rattle.std.specs.List.{list_any, list_all, find, range_with_len}
use Rattle.std.proofs.lemmas.List.{length-map, get_or_past}
use Rattle.std.proofs.lemmas.List.Sums.{sum_by-cons}
use Rattle.std.proofs.lemmas.Bool.{ltb-false, leb-true, cases_lt}
use Rattle.std.proofs.lemmas.List.FromFn.{get_or-map-range_with_len}
use Rattle.std.proofs.lemmas.Bool.Decides.{nat_tests}
use Rattle.card_piles.specs.declared.Card.{Card}
use Rattle.game_rules.specs.declared.RuleParts.{RuleParts}
use Rattle.game_rules.specs.declared.BoardParts.{BoardParts}
use Rattle.game_rules.specs.declared.Face.{Face}
use Rattle.game_rules.specs.declared.Face.TheVariants.{AllUp, TopUp}
use Rattle.game_rules.specs.declared.Part.{Part}
use Rattle.game_rules.specs.declared.Part.TheVariants.{Tableau, FaceDown, Cells, Reserve, Stock, Waste, RedealsLeft}
use Rattle.game_rules.specs.declared.Part.TheVariants.{Foundations, Hole, Rows}
use Rattle.game_rules.specs.declared.Redeals.{Redeals}
use Rattle.game_rules.specs.declared.Redeals.TheVariants.{Times, Unlimited}
use Rattle.game_rules.specs.declared.BoardFault.{BoardFault}
use Rattle.game_rules.specs.declared.BoardFault.TheVariants.{PlaceFull}
use Rattle.game_rules.specs.Conflicts.{are_redeals_within}
use Rattle.game_rules.specs.Playable.{IsPlayable, HasLimits}
use Rattle.game_rules.specs.Board.{Board, Pile, empty_pile}
use Rattle.game_rules.specs.Belonging.{Belongs, most_redeals, foundation_count, copies_of, copies_in_piles}
use Rattle.game_rules.specs.Belonging.{copies_at_home, copies_on, copies_due}
use Rattle.game_rules.specs.Position.{cards_at, face_down_fits, face_down_fits_at, tableau_full, face_down_full}
use Rattle.game_rules.specs.Position.{cells_full, reserve_full, stock_full, waste_full, foundations_full, hole_full}
use Rattle.game_rules.specs.Position.{rows_full, first_full, filled, pile_of, board_of_parts, deck_size, is_missing}
use Rattle.game_rules.specs.Position.{is_extra, first_card, card_fault, place_fault, fault_of}
use Rattle.game_rules.proofs.Limits.{both, numbers_within, limits_of}
use Rattle.game_rules.specs.NoneFull.{NoneIsFull}
use Rattle.game_rules.proofs.PositionFacts.{none_is_full}
use Rattle.game_rules.proofs.FewCards.{each_place-few}
use Rattle.deal_reader.specs.declared.deal.DealParts.{DealParts}
use Rattle.deal_reader.specs.Position.{default_face_down, face_down_or_default, parts_of_deal, has_great_number}
use Rattle.deal_reader.specs.Position.{board_or_fault, position_of_deal, deal_fault, fault_of_deal}
use Rattle.deal_reader.specs.Bytes.{narrow, narrowed}

-- numbers
narrow-small : (n : ℕ) → n ≤ 255 → narrow n ≡ n
narrow-small n few = omega (arith, few)

narrow-test : (most n : ℕ) → most ≤ 99 → nat_lt most (narrow n) ≡ nat_lt most n
narrow-test most n few = grind (arith, nat_tests)

narrow-fits : (n most : ℕ) → most ≤ 99 → nat_le (narrow n) most ≡ nat_le n most
narrow-fits n most few = grind (arith, nat_tests)

read-map : {A B : Type 0} (f : A → B) (xs : List A) (i : ℕ) (d : A) → get_or (map f xs) i (f d) ≡ f (get_or xs i d)
read-map f [] i d = refl
read-map f (x ∷ xs) zero d = refl
read-map f (x ∷ xs) (suc i) d = read-map f xs i d

all-narrow : (most : ℕ) (xs : List ℕ) → most ≤ 99 → list_all (λ n. nat_le n most) (map narrow xs) ≡ list_all
    (λ n. nat_le n most) xs
all-narrow most [] few = refl
all-narrow most (x ∷ xs) few = ap₂ (λ (a b : Bool). a && b) (narrow-fits x most few) (all-narrow most xs few)

map-small : (most : ℕ) (xs : List ℕ) → most ≤ 255 → IsTrue (list_all (λ n. nat_le n most) xs) → map narrow xs ≡ xs
map-small most [] few all = refl
map-small most (x ∷ xs) few all =
    let parts = both (nat_le x most) (list_all (λ n. nat_le n most) xs) all in
    let small : x ≤ 255 = omega (arith, few, leb-true x most parts.0) in
    ap₂ (λ (y : ℕ) (ys : List ℕ). y ∷ ys) (narrow-small x small) (map-small most xs few parts.1)

neither : (a b : Bool) → (a || b) ≡ false → (a ≡ false) × (b ≡ false)
neither true b h = cc
neither false b h = (refl, h)

map-no_great : (xs : List ℕ) → list_any (λ n. nat_lt 255 n) xs ≡ false → map narrow xs ≡ xs
map-no_great [] none = refl
map-no_great (x ∷ xs) none =
    let parts = neither (nat_lt 255 x) (list_any (λ n. nat_lt 255 n) xs) none in
    ap₂ (λ (y : ℕ) (ys : List ℕ). y ∷ ys) (narrow-small x (ltb-false 255 x parts.0)) (map-no_great xs parts.1)

redeals-few : (redeals : Redeals) → IsTrue (are_redeals_within redeals) → most_redeals redeals ≤ 99
redeals-few (Times n) h = leb-true n 99 h
redeals-few Unlimited h = omega arith

pub most_redeals-few : (rules : RuleParts) → IsPlayable rules → most_redeals rules.redeals ≤ 99
most_redeals-few rules h = redeals-few rules.redeals (both _ _ (numbers_within rules h)).1

-- the first part that is full
abbrev chain : (a b c d e f g h i j : Bool) → Option Part
chain a b c d e f g h i j =
    if a then Some Tableau else
    if b then Some FaceDown else
    if c then Some Cells else
    if d then Some Reserve else
    if e then Some Stock else
    if f then Some Waste else
    if g then Some RedealsLeft else
    if h then Some Foundations else
    if i then Some Hole else
    if j then Some Rows else None

three-same : (a b b' c d e f g g' h h' i j : Bool) → b ≡ b' → g ≡ g' → h ≡ h'
    → chain a b c d e f g h i j ≡ chain a b' c d e f g' h' i j
three-same a b b' c d e f g g' h h' i j p q r =
    ap (λ (x : Bool). chain a x c d e f g h i j) p ∙ ap (λ (x : Bool). chain a b' c d e f x h i j) q
    ∙ ap (λ (x : Bool). chain a b' c d e f g' x i j) r

abbrev FacesAgree : RuleParts → BoardParts → Type 0
FacesAgree rules parts = (i : ℕ) → face_down_fits_at rules (narrowed parts) i ≡ face_down_fits_at rules parts i

all-agree : (p q : ℕ → Bool) (xs : List ℕ) → ((i : ℕ) → p i ≡ q i) → list_all p xs ≡ list_all q xs
all-agree p q [] same = refl
all-agree p q (x ∷ xs) same = ap₂ (λ (a b : Bool). a && b) (same x) (all-agree p q xs same)

face_down-same : (rules : RuleParts) (parts : BoardParts) → FacesAgree rules parts
    → face_down_full rules (narrowed parts) ≡ face_down_full rules parts
face_down-same rules parts agree =
    let long = length-map parts.face_down narrow in
    let test : ℕ → Bool = λ (n : ℕ). nat_lt rules.piles n
    || not (list_all (face_down_fits_at rules (narrowed parts)) (range_with_len 0 n)) in
    ap test long
    ∙ ap (λ (b : Bool). nat_lt rules.piles (length parts.face_down) || not b)
    (all-agree (face_down_fits_at rules (narrowed parts)) (face_down_fits_at rules parts)
    (range_with_len 0 (length parts.face_down)) agree)

foundations-same : (rules : RuleParts) (parts : BoardParts) → rules.max_rank ≤ 99
    → foundations_full rules (narrowed parts) ≡ foundations_full rules parts
foundations-same rules parts few =
    ap₂ (λ (n : ℕ) (b : Bool). nat_lt (foundation_count rules) n || not b) (length-map parts.foundations narrow)
    (all-narrow rules.max_rank parts.foundations few)

first_full-narrowed : (rules : RuleParts) (parts : BoardParts) → IsPlayable rules → FacesAgree rules parts
    → first_full rules (narrowed parts) ≡ first_full rules parts
first_full-narrowed rules parts playable agree =
    let limits = limits_of rules playable in
    three-same (tableau_full rules parts) _ _ (cells_full rules parts) (reserve_full rules parts)
    (stock_full rules parts) (waste_full rules parts) _ _ _ _ (hole_full rules parts) (rows_full rules parts)
    (face_down-same rules parts agree)
    (narrow-test (most_redeals rules.redeals) parts.redeals_left (most_redeals-few rules playable))
    (foundations-same rules parts (omega (arith, limits.max_rank)))

-- the cards
piles-same : (p q : BoardParts) (card : Card) (xs : List ℕ) → p.tableau ≡ q.tableau
    → copies_in_piles card (map (pile_of p) xs) ≡ copies_in_piles card (map (pile_of q) xs)
piles-same p q card [] same = refl
piles-same p q card (i ∷ xs) same =
    let copies : Pile → ℕ = λ (pile : Pile). copies_of card pile.cards in
    let rest = piles-same p q card xs same in
    let one = ap (λ (t : List (List Card)). copies_of card (slice_index_or t i [])) same in
    let left = sum_by-cons copies (pile_of p i) (map (pile_of p) xs) in
    let right = sum_by-cons copies (pile_of q i) (map (pile_of q) xs) in
    omega (arith, rest, one, left, right)

heights-whole : (rules : RuleParts) (parts : BoardParts) → IsPlayable rules → NoneIsFull rules parts
    → map narrow parts.foundations ≡ parts.foundations
heights-whole rules parts playable full =
    let limits = limits_of rules playable in
    let tests = neither (nat_lt (foundation_count rules) (length parts.foundations)) _ full.foundations in
    let opposite : (b : Bool) → not b ≡ false → IsTrue b = λ (b : Bool).
    elim b as (λ b. not b ≡ false → IsTrue b) [ true ↦ λ h. refl | false ↦ λ h. sym h ] in
    map-small rules.max_rank parts.foundations (omega (arith, limits.max_rank)) (opposite _ tests.1)

copies-narrowed : (rules : RuleParts) (parts : BoardParts) (card : Card)
    → map narrow parts.foundations ≡ parts.foundations
    → copies_on rules (board_of_parts rules (narrowed parts)) card ≡ copies_on rules (board_of_parts rules parts) card
copies-narrowed rules parts card same =
    let piles = piles-same (narrowed parts) parts card (range_with_len 0 rules.piles) refl in
    let home : copies_at_home rules card (filled (foundation_count rules) 0 (map narrow parts.foundations))
    ≡ copies_at_home rules card (filled (foundation_count rules) 0 parts.foundations) =
    ap (λ (hs : List ℕ). copies_at_home rules card (filled (foundation_count rules) 0 hs)) same in
    omega (arith, piles, home)

find-same : {A : Type 0} (p q : A → Bool) (xs : List A) → ((x : A) → p x ≡ q x) → find p xs ≡ find q xs
find-same p q [] same = refl
find-same p q (x ∷ xs) same = ap₂ (λ b rest. cond b (Some x) rest) (same x) (find-same p q xs same)

card_fault-narrowed : (rules : RuleParts) (parts : BoardParts) → map narrow parts.foundations ≡ parts.foundations
    → card_fault (first_card (is_missing rules (board_of_parts rules (narrowed parts))) deck_size)
    (first_card (is_extra rules (board_of_parts rules (narrowed parts))) deck_size)
    ≡ card_fault (first_card (is_missing rules (board_of_parts rules parts)) deck_size)
    (first_card (is_extra rules (board_of_parts rules parts)) deck_size)
card_fault-narrowed rules parts same =
    ap₂ (λ (m e : Option Card). card_fault m e)
    (find-same
    (is_missing rules (board_of_parts rules (narrowed parts))) (is_missing rules (board_of_parts rules parts)) _
    (λ card. ap (λ (n : ℕ). nat_lt n (copies_due rules card)) (copies-narrowed rules parts card same)))
    (find-same (is_extra rules (board_of_parts rules (narrowed parts))) (is_extra rules (board_of_parts rules parts)) _
    (λ card. ap (λ (n : ℕ). nat_lt (copies_due rules card) n) (copies-narrowed rules parts card same)))

fault_of-narrowed : (rules : RuleParts) (parts : BoardParts) → IsPlayable rules → FacesAgree rules parts
    → fault_of rules (narrowed parts) ≡ fault_of rules parts
fault_of-narrowed rules parts playable agree =
    let first = first_full-narrowed rules parts playable agree in
    let fault : BoardParts → Option BoardFault = λ (p : BoardParts).
    card_fault (first_card (is_missing rules (board_of_parts rules p)) deck_size)
    (first_card (is_extra rules (board_of_parts rules p)) deck_size) in
    let by_part : (o : Option Part) → first_full rules parts ≡ o
    → place_fault o (fault (narrowed parts)) ≡ place_fault o (fault parts) =
    λ (o : Option Part). elim o as
    (λ o. first_full rules parts ≡ o → place_fault o (fault (narrowed parts)) ≡ place_fault o (fault parts)) [
      | Some part ↦ λ e. refl
      | None ↦ λ e. card_fault-narrowed rules parts (heights-whole rules parts playable (none_is_full rules parts e))
    ] in
    ap (λ (o : Option Part). place_fault o (fault (narrowed parts))) first ∙ by_part (first_full rules parts) refl

-- face-down cards
fits-below : (cards down : ℕ) → down ≤ cards - 1 → face_down_fits TopUp cards down ≡ true
fits-below cards down low = grind (arith, nat_tests)

narrow-below : (n : ℕ) → narrow n ≤ n
narrow-below n = omega arith

faces-agree_where : (rules : RuleParts) (parts : BoardParts) → map narrow parts.face_down ≡ parts.face_down
    → FacesAgree rules parts
faces-agree_where rules parts same i =
    ap (λ (ns : List ℕ). face_down_fits rules.face (length (cards_at parts i)) (slice_index_or ns i 0)) same

by_default : (face : Face) (tableau : List (List Card)) (i : ℕ)
    → face_down_fits face (length (slice_index_or tableau i []))
    (slice_index_or (map narrow (default_face_down face tableau)) i 0)
    ≡ face_down_fits face (length (slice_index_or tableau i [])) (slice_index_or (default_face_down face tableau) i 0)
by_default AllUp tableau i = refl
by_default TopUp tableau i =
    let down : List Card → ℕ = λ (cards : List Card). length cards - 1 in
    let read = read-map down tableau i [] in
    let cards : ℕ = length (slice_index_or tableau i []) in
    let bytes = read-map narrow (map down tableau) i 0 in
    let small : slice_index_or (map narrow (map down tableau)) i 0 ≤ cards - 1 = omega
    (arith, bytes, read, narrow-below (get_or (map down tableau) i 0)) in
    let whole : slice_index_or (map down tableau) i 0 ≤ cards - 1 = omega (arith, read) in
    fits-below cards _ small ∙ sym (fits-below cards _ whole)

default-agrees : (rules : RuleParts) (deal : DealParts) (given : Option (List ℕ)) → deal.face_down ≡ given
    → has_great_number given ≡ false → FacesAgree rules (parts_of_deal rules deal)
default-agrees rules deal None is none i =
    ap (λ (o : Option (List ℕ)). face_down_fits rules.face (length (slice_index_or deal.tableau i []))
    (slice_index_or (map narrow (face_down_or_default rules.face deal.tableau o)) i 0)) is
    ∙ by_default rules.face deal.tableau i
    ∙ sym (ap (λ (o : Option (List ℕ)). face_down_fits rules.face (length (slice_index_or deal.tableau i []))
    (slice_index_or (face_down_or_default rules.face deal.tableau o) i 0)) is)
default-agrees rules deal (Some numbers) is none i =
    let named : face_down_or_default rules.face deal.tableau deal.face_down ≡ numbers =
    ap (face_down_or_default rules.face deal.tableau) is in
    faces-agree_where rules (parts_of_deal rules deal) (ap (map narrow) named ∙ map-no_great numbers none ∙ sym named) i

-- the deal
tableau-first : (rules : RuleParts) (parts : BoardParts) → tableau_full rules parts ≡ true
    → fault_of rules parts ≡ Some (PlaceFull Tableau)
tableau-first rules parts full = rw full refl

no_great_or_full : (great full : Bool) → (great && not full) ≡ false → (great ≡ false) ⊎ (full ≡ true)
no_great_or_full true true h = inr refl
no_great_or_full true false h = cc
no_great_or_full false full h = inl refl

pub fault_of_deal-narrowed : (rules : RuleParts) (deal : DealParts) → IsPlayable rules
    → (has_great_number deal.face_down && not (tableau_full rules (parts_of_deal rules deal))) ≡ false
    → fault_of_deal rules deal ≡ fault_of rules (narrowed (parts_of_deal rules deal))
fault_of_deal-narrowed rules deal playable test =
    let parts : BoardParts = parts_of_deal rules deal in
    let here : fault_of_deal rules deal ≡ fault_of rules parts =
    ap (λ (b : Bool). if b then Some (PlaceFull FaceDown) else fault_of rules parts) test in
    here ∙ elim (no_great_or_full (has_great_number deal.face_down) (tableau_full rules parts) test) [
      | inl none ↦ sym (fault_of-narrowed rules parts playable (default-agrees rules deal deal.face_down refl none))
      | inr full ↦ tableau-first rules parts full ∙ sym (tableau-first rules (narrowed parts) full)
    ]

part_free : (part : Option Part) (fault : Option BoardFault) → place_fault part fault ≡ None → part ≡ None
part_free (Some part) fault h = cc
part_free None fault h = refl

down-few : (tableau : List (List Card)) → ((i : ℕ) → length (get_or tableau i []) ≤ 104)
    → map narrow (map (λ cards. length cards - 1) tableau) ≡ map (λ cards. length cards - 1) tableau
down-few [] few = refl
down-few (cards ∷ rest) few =
    let here : length cards ≤ 104 = few 0 in
    ap₂ (λ (n : ℕ) (ns : List ℕ). n ∷ ns) (narrow-small (length cards - 1) (omega (arith, here)))
    (down-few rest (λ i. few (suc i)))

default-few : (face : Face) (tableau : List (List Card)) → ((i : ℕ) → length (get_or tableau i []) ≤ 104)
    → map narrow (default_face_down face tableau) ≡ default_face_down face tableau
default-few AllUp tableau few = refl
default-few TopUp tableau few = down-few tableau few

given-few : (rules : RuleParts) (deal : DealParts) (given : Option (List ℕ)) → deal.face_down ≡ given
    → has_great_number given ≡ false
    → ((i : ℕ) → length (get_or deal.tableau i []) ≤ 104)
    → map narrow (parts_of_deal rules deal).face_down ≡ (parts_of_deal rules deal).face_down
given-few rules deal None is none few =
    let named : face_down_or_default rules.face deal.tableau deal.face_down ≡ default_face_down rules.face
    deal.tableau = ap (face_down_or_default rules.face deal.tableau) is in
    ap (map narrow) named ∙ default-few rules.face deal.tableau few ∙ sym named
given-few rules deal (Some numbers) is none few =
    let named : face_down_or_default rules.face deal.tableau deal.face_down ≡ numbers =
    ap (face_down_or_default rules.face deal.tableau) is in
    ap (map narrow) named ∙ map-no_great numbers none ∙ sym named

lists-few : (rules : RuleParts) (parts : BoardParts) → HasLimits rules → Belongs rules (board_of_parts rules parts)
    → tableau_full rules parts ≡ false → (i : ℕ) → length (get_or parts.tableau i []) ≤ 104
lists-few rules parts limits belongs room i =
    let few = each_place-few rules (board_of_parts rules parts) limits belongs in
    elim (cases_lt i rules.piles) [
      | inl inside ↦
          let read = ap (λ (pile : Pile). length pile.cards)
          (get_or-map-range_with_len (pile_of parts) 0 rules.piles i i empty_pile inside (omega arith)) in
          let here = few.piles i in
          omega (arith, read, here)
      | inr past ↦
          let short = ltb-false rules.piles (length parts.tableau) room in
          let none = ap (λ (cards : List Card). length cards)
          (get_or_past parts.tableau i [] (omega (arith, short, past))) in
          omega (arith, none)
    ]

three_fields : (parts : BoardParts) (down heights : List ℕ) (left : ℕ) → down ≡ parts.face_down
    → left ≡ parts.redeals_left → heights ≡ parts.foundations
    → record parts { face_down = down; redeals_left = left; foundations = heights } ≡ parts
three_fields parts down heights left d l h =
    ap (λ (x : List ℕ). record parts { face_down = x; redeals_left = left; foundations = heights }) d
    ∙ ap (λ (x : ℕ). record parts { redeals_left = x; foundations = heights }) l
    ∙ ap (λ (x : List ℕ). record parts { foundations = x }) h

no_great : (great full : Bool) → (great && not full) ≡ false → full ≡ false → great ≡ false
no_great true true h k = cc
no_great true false h k = cc
no_great false full h k = refl

pub board-narrowed : (rules : RuleParts) (deal : DealParts) → IsPlayable rules
    → (has_great_number deal.face_down && not (tableau_full rules (parts_of_deal rules deal))) ≡ false
    → fault_of rules (narrowed (parts_of_deal rules deal)) ≡ None
    → Belongs rules (board_of_parts rules (narrowed (parts_of_deal rules deal)))
    → board_of_parts rules (narrowed (parts_of_deal rules deal)) ≡ board_of_parts rules (parts_of_deal rules deal)
board-narrowed rules deal playable test fault belongs =
    let parts : BoardParts = parts_of_deal rules deal in
    let limits = limits_of rules playable in
    let full = none_is_full rules (narrowed parts) (part_free (first_full rules (narrowed parts)) _ fault) in
    let none = no_great (has_great_number deal.face_down) (tableau_full rules parts) test full.tableau in
    let few = lists-few rules (narrowed parts) limits belongs full.tableau in
    let agree = default-agrees rules deal deal.face_down refl none in
    let first : first_full rules parts ≡ None = sym (first_full-narrowed rules parts playable agree)
    ∙ part_free (first_full rules (narrowed parts)) _ fault in
    let whole = none_is_full rules parts first in
    let left = ltb-false (most_redeals rules.redeals) parts.redeals_left whole.redeals_left in
    ap (board_of_parts rules)
    (three_fields parts _ _ _ (given-few rules deal deal.face_down refl none few)
    (narrow-small parts.redeals_left (omega (arith, left, most_redeals-few rules playable)))
    (heights-whole rules parts playable whole))

-- what the deal gives
pub position_of_deal-board : (rules : RuleParts) (deal : DealParts) (board : Board) → IsPlayable rules
    → (has_great_number deal.face_down && not (tableau_full rules (parts_of_deal rules deal))) ≡ false
    → board ≡ board_of_parts rules (narrowed (parts_of_deal rules deal))
    → fault_of rules (narrowed (parts_of_deal rules deal)) ≡ None → Belongs rules board
    → position_of_deal rules deal ≡ Ok board
position_of_deal-board rules deal board playable test is fault belongs =
    let same = board-narrowed rules deal playable test fault (rw is at belongs) in
    ap₂ (λ (b : Board) (o : Option BoardFault). board_or_fault b o) (sym (is ∙ same))
    (fault_of_deal-narrowed rules deal playable test ∙ fault)

pub position_of_deal-fault : (rules : RuleParts) (deal : DealParts) (fault : BoardFault) → IsPlayable rules
    → (has_great_number deal.face_down && not (tableau_full rules (parts_of_deal rules deal))) ≡ false
    → fault_of rules (narrowed (parts_of_deal rules deal)) ≡ Some fault
    → position_of_deal rules deal ≡ Err (deal_fault fault)
position_of_deal-fault rules deal fault playable test is =
    ap (board_or_fault (board_of_parts rules (parts_of_deal rules deal)))
    (fault_of_deal-narrowed rules deal playable test ∙ is)
