-- The legal carries from the waste, place by place.
use Rattle.std.proofs.Common.{◌≡◌, ℕ, Bool, true, false, List, [], ◌∷◌, ◌++◌, map, length, refl, ap, ◌∙◌, append-nil}
use Rattle.std.proofs.Common.{append_assoc}
use Rattle.std.specs.Prelude.{cond, not, ◌&&◌}
use Rattle.std.specs.List.{filter, flat_map, range_with_len}
use Rattle.std.proofs.lemmas.List.{map-append}
use Rattle.std.proofs.lemmas.List.Elements.{filter-append}
use Rattle.std.proofs.lemmas.Grind.{flat_map-append}
use Rattle.game_rules.specs.declared.RuleParts.{RuleParts}
use Rattle.game_rules.specs.declared.Move.{Move}
use Rattle.game_rules.specs.declared.Move.TheVariants.{Carry, Deal, Redeal}
use Rattle.game_rules.specs.declared.Place.{Place}
use Rattle.game_rules.specs.declared.Place.TheVariants.{Tableau, Cell, Reserve, Waste, Foundation, Slot}
use Rattle.game_rules.specs.Board.{Board, has_place}
use Rattle.game_rules.specs.Taking.{most_taken, can_take, taken}
use Rattle.game_rules.specs.Putting.{can_put}
use Rattle.game_rules.specs.Play.{is_legal_move, same_place}
use Rattle.game_rules.specs.Order.{entry_count, hole_place, sources, targets}
use Rattle.game_rules.specs.ByPlace.{legal_between, legal_to}
use Rattle.game_rules.proofs.Listing.{filter-flat_map, legal_moves-by_place}
use Rattle.legal_moves.proofs.Offered.{flat_map-none}
use Rattle.stock_steps.specs.declared.Step.{Step}
use Rattle.stock_steps.specs.Steps.{is_from_waste, steps_from, waste_carries}
use Rattle.stock_moves.specs.declared.onto.Kind.TheVariants.{Foundations, Slots, Piles, Cells}
use Rattle.stock_moves.specs.Onto.{place_in, steps_onto}

-- a move that fails the one test is passed by, whatever the other says
passed_by : (p : Move → Bool) (t : Bool) (m : Move) (ms : List Move) → p m ≡ false → filter p ms ≡ []
    → filter p (cond t (m ∷ ms) ms) ≡ []
passed_by p true m ms fails none = rw fails none
passed_by p false m ms fails none = none

none_between : (rules : RuleParts) (board : Board) (to from : Place)
    → ((n : ℕ) → is_from_waste (Carry from to n) ≡ false)
    → (counts : List ℕ)
    → filter is_from_waste (filter (is_legal_move rules board) (map (λ count. Carry from to count) counts)) ≡ []
none_between rules board to from fails [] = refl
none_between rules board to from fails (n ∷ counts) =
    passed_by is_from_waste (is_legal_move rules board (Carry from to n)) (Carry from to n)
    (filter (is_legal_move rules board) (map (λ count. Carry from to count) counts)) (fails n)
    (none_between rules board to from fails counts)

-- the carries from the waste between two places
abbrev waste_between : RuleParts → Board → Place → Place → List Move
waste_between rules board to from = filter is_from_waste (legal_between rules board to from)

-- of the sources the waste alone is left
waste_alone : (rules : RuleParts) (board : Board) (to : Place)
    → flat_map (waste_between rules board to) (sources rules board) ≡ waste_between rules board to Waste
waste_alone rules board to =
    let f : Place → List Move = waste_between rules board to in
    let piles : flat_map f (map Tableau (range_with_len 0 (length board.piles))) ≡ [] =
    flat_map-none f Tableau (range_with_len 0 (length board.piles))
    (λ n. none_between rules board to (Tableau n) (λ k. refl)
    (range_with_len 1 (most_taken rules board (Tableau n)))) in
    let cells : flat_map f (map Cell (range_with_len 0 (length board.cells))) ≡ [] =
    flat_map-none f Cell (range_with_len 0 (length board.cells))
    (λ n. none_between rules board to (Cell n) (λ k. refl) (1 ∷ [])) in
    let reserve : flat_map f (map Reserve (range_with_len 0 (entry_count rules board))) ≡ [] =
    flat_map-none f Reserve (range_with_len 0 (entry_count rules board))
    (λ n. none_between rules board to (Reserve n) (λ k. refl) (1 ∷ [])) in
    let foundations : flat_map f (map Foundation (range_with_len 0 (length board.heights))) ≡ [] =
    flat_map-none f Foundation (range_with_len 0 (length board.heights))
    (λ n. none_between rules board to (Foundation n) (λ k. refl) (1 ∷ [])) in
    let slots : flat_map f (map Slot (range_with_len 0 (length board.slots))) ≡ [] =
    flat_map-none f Slot (range_with_len 0 (length board.slots))
    (λ n. none_between rules board to (Slot n) (λ k. refl) (1 ∷ [])) in
    simp (flat_map-append, piles, cells, reserve, foundations, slots, append-nil) refl

kept_one : (to : Place) (t : Bool) → filter is_from_waste (cond t (Carry Waste to 1 ∷ []) []) ≡ cond t
    (Carry Waste to 1 ∷ []) []
kept_one to true = refl
kept_one to false = refl

waste_to : (rules : RuleParts) (board : Board) (to : Place)
    → filter is_from_waste (legal_to rules board (sources rules board) to) ≡ filter (is_legal_move rules board)
    (Carry Waste to 1 ∷ [])
waste_to rules board to =
    filter-flat_map is_from_waste (legal_between rules board to) (sources rules board)
    ∙ waste_alone rules board to
    ∙ kept_one to (is_legal_move rules board (Carry Waste to 1))

flat_map-same : (f g : Place → List Move) (xs : List Place) → ((x : Place) → f x ≡ g x) → flat_map f xs ≡ flat_map g xs
flat_map-same f g [] same = refl
flat_map-same f g (x ∷ xs) same =
    ap (λ (ys : List Move). ys ++ flat_map f xs) (same x) ∙ ap (λ (ys : List Move). g x ++ ys)
    (flat_map-same f g xs same)

steps_from-flat_map : (deals : ℕ) (f : Place → List Move) (xs : List Place)
    → steps_from deals (flat_map f xs) ≡ flat_map (λ x. steps_from deals (f x)) xs
steps_from-flat_map deals f [] = refl
steps_from-flat_map deals f (x ∷ xs) =
    map-append (λ (move : Move). record { deals = deals; last = move }) (f x) (flat_map f xs)
    ∙ ap (λ (ys : List Step). steps_from deals (f x) ++ ys) (steps_from-flat_map deals f xs)

no_stock_move : (rules : RuleParts) (board : Board)
    → filter is_from_waste (filter (is_legal_move rules board) (Deal ∷ Redeal ∷ [])) ≡ []
no_stock_move rules board =
    passed_by is_from_waste (is_legal_move rules board Deal) Deal
    (filter (is_legal_move rules board) (Redeal ∷ [])) refl
    (passed_by is_from_waste (is_legal_move rules board Redeal) Redeal [] refl refl)

-- the carries from the waste are those onto each place in turn
pub waste_carries-onto : (rules : RuleParts) (board : Board) (deals : ℕ)
    → steps_from deals (waste_carries rules board) ≡ flat_map (steps_onto rules board deals) (targets rules board)
waste_carries-onto rules board deals =
    let carries : List Move = flat_map (legal_to rules board (sources rules board)) (targets rules board) in
    let kept : waste_carries rules board ≡ flat_map (λ to. filter (is_legal_move rules board) (Carry Waste to 1 ∷ []))
    (targets rules board) =
    ap (filter is_from_waste) (legal_moves-by_place rules board)
    ∙ filter-append is_from_waste carries (filter (is_legal_move rules board) (Deal ∷ Redeal ∷ []))
    ∙ ap (λ (xs : List Move). filter is_from_waste carries ++ xs) (no_stock_move rules board)
    ∙ append-nil (filter is_from_waste carries)
    ∙ filter-flat_map is_from_waste (legal_to rules board (sources rules board)) (targets rules board)
    ∙ flat_map-same (λ to. filter is_from_waste (legal_to rules board (sources rules board) to))
    (λ to. filter (is_legal_move rules board) (Carry Waste to 1 ∷ [])) (targets rules board) (waste_to rules board) in
    ap (steps_from deals) kept
    ∙ steps_from-flat_map deals (λ to. filter (is_legal_move rules board) (Carry Waste to 1 ∷ [])) (targets rules board)

-- and these are listed kind by kind
pub waste_carries-listed : (rules : RuleParts) (board : Board) (deals foundations slots piles cells : ℕ)
    (none some more most all steps : List Step)
    → foundations ≡ length board.heights → slots ≡ length board.slots → piles ≡ length board.piles
    → cells ≡ length board.cells
    → some ≡ none ++ flat_map (steps_onto rules board deals) (map (place_in Foundations) (range_with_len 0 foundations))
    → more ≡ some ++ flat_map (steps_onto rules board deals) (hole_place rules)
    → most ≡ more ++ flat_map (steps_onto rules board deals) (map (place_in Slots) (range_with_len 0 slots))
    → all ≡ most ++ flat_map (steps_onto rules board deals) (map (place_in Piles) (range_with_len 0 piles))
    → steps ≡ all ++ flat_map (steps_onto rules board deals) (map (place_in Cells) (range_with_len 0 cells))
    → steps ≡ none ++ steps_from deals (waste_carries rules board)
waste_carries-listed rules board deals foundations slots piles cells none some more most all steps f s p c a b d e g =
    rw (waste_carries-onto rules board deals, g, e, d, b, a, f, s, p, c) (simp (flat_map-append, append_assoc) refl)

-- a conjunction is false if its fourth part is
fourth_fails : (a b c d e : Bool) → d ≡ false → (a && b && c && d && e) ≡ false
fourth_fails false b c d e fails = refl
fourth_fails true false c d e fails = refl
fourth_fails true true false d e fails = refl
fourth_fails true true true d e fails = rw fails refl

-- an empty waste gives no card to a place
no_card_to : (rules : RuleParts) (board : Board) (to : Place) → board.waste ≡ []
    → is_legal_move rules board (Carry Waste to 1) ≡ false
no_card_to rules board to empty =
    fourth_fails (has_place rules board Waste) (has_place rules board to) (not (same_place Waste to))
    (can_take rules board Waste 1) (can_put rules board to (taken rules board Waste 1)) (rw empty refl)

none_onto : (rules : RuleParts) (board : Board) (deals : ℕ) (to : Place) → board.waste ≡ []
    → steps_onto rules board deals to ≡ []
none_onto rules board deals to empty = rw (no_card_to rules board to empty) refl

flat_map-empty : (f : Place → List Step) (xs : List Place) → ((x : Place) → f x ≡ []) → flat_map f xs ≡ []
flat_map-empty f [] none = refl
flat_map-empty f (x ∷ xs) none = rw (none x) (flat_map-empty f xs none)

-- no card is carried from an empty waste
pub waste_carries-empty : (rules : RuleParts) (board : Board) (deals : ℕ) → board.waste ≡ []
    → steps_from deals (waste_carries rules board) ≡ []
waste_carries-empty rules board deals empty =
    waste_carries-onto rules board deals
    ∙ flat_map-empty (steps_onto rules board deals) (targets rules board) (λ to. none_onto rules board deals to empty)
