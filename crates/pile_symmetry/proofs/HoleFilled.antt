-- The cards that stand nowhere else are those below the top of the hole.
use Rattle.std.proofs.Common.{◌≡◌, ℕ, zero, suc, ◌+◌, ◌-◌, ◌*◌, Bool, true, false, ◌||◌, List, [], ◌∷◌, ◌++◌, map, take}
use Rattle.std.proofs.Common.{length, get_or, replicate, refl, ap, ap₂, sym, ◌∙◌, subst, arith, length-append}
use Rattle.std.specs.Prelude.{IsTrue, Option, Some, None, slice_get, if◌then◌else◌}
use Rattle.std.specs.Option.{option_to_list}
use Rattle.std.specs.List.{All, flat_map, range_with_len}
use Rattle.std.specs.List.Sorted.{IsPermutation}
use Rattle.std.specs.Ordering.{nat_cmp}
use Rattle.std.proofs.Math.Seq.{take-append_seam}
use Rattle.std.proofs.lemmas.List.{take-append-drop, nil_from_length}
use Rattle.std.proofs.lemmas.List.Elements.{All-take}
use Rattle.std.proofs.lemmas.List.Sums.{sum_by-cons}
use Rattle.std.proofs.lemmas.List.Sorted.{IsPermutation-refl, IsPermutation-append_left, length_permutation}
use Rattle.std.proofs.lemmas.Option.{slice_get-get_or}
use Rattle.card_piles.specs.declared.Card.{Card}
use Rattle.game_rules.specs.declared.RuleParts.{RuleParts}
use Rattle.game_rules.specs.declared.BoardParts.{BoardParts}
use Rattle.game_rules.specs.declared.Goal.{Goal}
use Rattle.game_rules.specs.declared.Goal.TheVariants.{Foundations, Hole, Sequences}
use Rattle.game_rules.specs.Rules.{is_foundation_goal, is_hole_goal, is_sequence_goal}
use Rattle.game_rules.specs.Playable.{HasLimits}
use Rattle.game_rules.specs.Board.{Board, Pile, top_of, below_top}
use Rattle.game_rules.specs.Play.{is_empty}
use Rattle.game_rules.specs.Belonging.{Belongs, copies_of, copies_in, copies_in_piles, copies_at_home}
use Rattle.game_rules.specs.Belonging.{copies_on, copies_due}
use Rattle.game_rules.specs.Position.{parts_of, card_numbered, deck_size}
use Rattle.game_rules.specs.Ranked.{HasRanks}
use Rattle.game_rules.proofs.ListFacts.{drop_last}
use Rattle.game_rules.proofs.PositionFacts.{deck_size-is}
use Rattle.game_rules.proofs.Copies.{copies-append}
use Rattle.same_boards.specs.Same.{Same}
use Rattle.same_boards.specs.Keys.{sorted_bytes, card_byte, card_bytes, entry_byte, hole_bytes}
use Rattle.same_boards.proofs.Sorting.{sorted-permutation}
use Rattle.same_boards.specs.Bytes.{card_of_byte}
use Rattle.same_boards.proofs.KeyParts.{entry-back, card-back, permutation-from_bytes, IsGood}
use Rattle.same_boards.proofs.KeysSame.{top-good, empty-nil}
use Rattle.same_boards.proofs.SameAfter.{HasPlaces}
use Rattle.same_boards.proofs.SameBelongs.{copies-from_same}
use Rattle.pile_symmetry.specs.Reading.{top_in, copies_in_lists, lacking, lacking_cards, hole_in}
use Rattle.pile_symmetry.proofs.ReadBack.{in_key_order}
use Rattle.pile_symmetry.proofs.InKeyOrder.{same-in_order, places-in_order}
use Rattle.pile_symmetry.proofs.Counted.{counted-bytes, counted-good, counted-sorted}

-- ---- the hole's top, and what lies below it

hole-cut : (cards : List Card) → below_top 1 cards ++ option_to_list (top_of cards) ≡ cards
hole-cut cards =
    sym (ap (λ (top : List Card). below_top 1 cards ++ top) (drop_last cards))
    ∙ take-append-drop (length cards - 1) cards

top-back_if : (t : Bool) (cards : List Card) → All IsGood cards → IsTrue (t || is_empty cards)
    → top_in (if t then length cards ∷ entry_byte (top_of cards) ∷ [] else []) ≡ option_to_list (top_of cards)
top-back_if true cards good h = ap option_to_list (entry-back (top_of cards) (top-good cards good))
top-back_if false cards good h = sym (ap (λ (cs : List Card). option_to_list (top_of cs)) (empty-nil cards h))

top-back : (rules : RuleParts) (board : Board) → HasRanks board → Belongs rules board
    → top_in (hole_bytes rules board) ≡ option_to_list (top_of board.hole)
top-back rules board ranks belongs = top-back_if (is_hole_goal rules.goal) board.hole ranks.hole belongs.hole

-- ---- how many copies stand nowhere

lists-counted : (card : Card) (piles : List Pile)
    → copies_in_lists card (map (λ pile. pile.cards) piles) ≡ copies_in_piles card piles
lists-counted card [] = refl
lists-counted card (pile ∷ piles) =
    let left = sum_by-cons (λ (cards : List Card). copies_of card cards) pile.cards (map (λ p. p.cards) piles) in
    let right = sum_by-cons (λ (p : Pile). copies_of card p.cards) pile piles in
    let rest = lists-counted card piles in
    omega (arith, left, right, rest)

no_foundations : (goal : Goal) → is_hole_goal goal ≡ true → is_foundation_goal goal ≡ false
no_foundations (Foundations base started take_back complete_runs) e = cc
no_foundations (Hole wrap start) e = refl
no_foundations Sequences e = refl

no_sequences : (goal : Goal) → is_hole_goal goal ≡ true → is_sequence_goal goal ≡ false
no_sequences (Foundations base started take_back complete_runs) e = cc
no_sequences (Hole wrap start) e = refl
no_sequences Sequences e = cc

none_of : {A : Type 0} (t : Bool) (n : ℕ) (xs : List A) → t ≡ false → length xs ≡ (if t then n else 0) → xs ≡ []
none_of true n xs e h = cc
none_of false n xs e h = nil_from_length xs h

taken_off : (due piles cells reserve stock waste top under : ℕ)
    → piles + cells + reserve + stock + waste + (under + top) ≡ due
    → due - piles - cells - reserve - stock - waste - top ≡ under
taken_off due piles cells reserve stock waste top under h = omega (arith, h)

-- in a game with a hole
lacking-is : (rules : RuleParts) (board : Board) (card : Card) → HasLimits rules → HasRanks board → Belongs rules board
    → is_hole_goal rules.goal ≡ true
    → lacking rules (parts_of rules (in_key_order rules board (option_to_list (top_of board.hole)))) card
    ≡ copies_of card (below_top 1 board.hole)
lacking-is rules board card limits ranks belongs goal =
    let other : Board = in_key_order rules board board.hole in
    let top : List Card = option_to_list (top_of board.hole) in
    let same : Same rules board other = same-in_order rules board board.hole ranks belongs refl refl in
    let places : HasPlaces rules other = places-in_order rules board board.hole belongs in
    let own : HasPlaces rules board = record { foundations = belongs.foundations; slots = belongs.slots } in
    let copies : copies_on rules board card ≡ copies_on rules other card = copies-from_same rules board other card
    limits own places same (IsPermutation-refl board.hole) in
    let due : copies_on rules board card ≡ copies_due rules card = belongs.cards card in
    let home : copies_at_home rules card other.heights ≡ 0 =
    ap (copies_at_home rules card) (none_of (is_foundation_goal rules.goal) (4 * rules.decks) other.heights
    (no_foundations rules.goal goal) places.foundations) in
    let slots : copies_in card other.slots ≡ 0 =
    ap (copies_in card) (none_of (is_sequence_goal rules.goal) (4 * rules.decks * rules.max_rank) other.slots
    (no_sequences rules.goal goal) places.slots) in
    let lists = lists-counted card other.piles in
    let cut : copies_of card board.hole ≡ copies_of card (below_top 1 board.hole) + copies_of card top =
    sym (ap (copies_of card) (hole-cut board.hole)) ∙ copies-append card (below_top 1 board.hole) top in
    taken_off (copies_due rules card) _ _ _ _ _ _ _ (omega (arith, copies, due, home, slots, lists, cut))

counted-same : (f g : ℕ → ℕ) → ((n : ℕ) → f n ≡ g n) → (a n : ℕ)
    → flat_map (λ k. replicate (f k) (card_numbered k)) (range_with_len a n) ≡ flat_map
    (λ k. replicate (g k) (card_numbered k)) (range_with_len a n)
counted-same f g same a zero = refl
counted-same f g same a (suc n) =
    ap₂ (λ (k : ℕ) (rest : List Card). replicate k (card_numbered a) ++ rest) (same a) (counted-same f g same (a + 1) n)

-- ---- the cards below the top, in ascending order

record Filled (rules : RuleParts) (board : Board) (cards : List Card) : Type 0 where
  ascending : card_bytes cards ≡ sorted_bytes (card_bytes (below_top 1 board.hole))
  permuted : IsPermutation (below_top 1 board.hole) cards

lacking-filled : (rules : RuleParts) (board : Board) → HasLimits rules → HasRanks board → Belongs rules board
    → is_hole_goal rules.goal ≡ true
    → Filled rules board
    (lacking_cards rules (parts_of rules (in_key_order rules board (option_to_list (top_of board.hole)))))
lacking-filled rules board limits ranks belongs goal =
    let parts : BoardParts = parts_of rules (in_key_order rules board (option_to_list (top_of board.hole))) in
    let under : List Card = below_top 1 board.hole in
    let good : All IsGood under = All-take IsGood (length board.hole - 1) board.hole ranks.hole in
    let f : ℕ → ℕ = λ (n : ℕ). lacking rules parts (card_numbered n) in
    let g : ℕ → ℕ = λ (n : ℕ). copies_of (card_numbered n) under in
    let cards : List Card = flat_map (λ k. replicate (g k) (card_numbered k)) (range_with_len 0 52) in
    let counted : lacking_cards rules parts ≡ cards =
    counted-same f g (λ n. lacking-is rules board (card_numbered n) limits ranks belongs goal) 0 deck_size
    ∙ ap (λ (n : ℕ). flat_map (λ k. replicate (g k) (card_numbered k)) (range_with_len 0 n)) deck_size-is in
    let bytes : card_bytes cards ≡ sorted_bytes (card_bytes under) = counted-bytes g 0 52 (omega arith)
    ∙ counted-sorted under good in
    let moved : IsPermutation (card_bytes under) (card_bytes cards) =
    subst (λ (xs : List ℕ). IsPermutation (card_bytes under) xs) (sym bytes)
    (sorted-permutation nat_cmp (card_bytes under)) in
    let permuted : IsPermutation under cards = permutation-from_bytes card_byte card_of_byte IsGood card-back under
    cards good (counted-good g 0 52) moved in
    subst (λ (cs : List Card). Filled rules board cs) (sym counted) (record { ascending = bytes; permuted = permuted })

-- ---- the hole

last-at : (xs : List Card) (x : Card) → slice_get (xs ++ x ∷ []) (length xs) ≡ Some x
last-at [] x = refl
last-at (y ∷ xs) x = last-at xs x

last-of : (xs : List Card) (x : Card) → top_of (xs ++ x ∷ []) ≡ Some x
last-of xs x =
    let size = length-append xs (x ∷ []) in
    let at : length (xs ++ x ∷ []) - 1 ≡ length xs = omega (arith, size) in
    ap (slice_get (xs ++ x ∷ [])) at ∙ last-at xs x

top-kept : (top : Option Card) (under cards : List Card) → (top ≡ None → under ≡ []) → IsPermutation under cards
    → top_of (cards ++ option_to_list top) ≡ top
top-kept None under cards none h =
    let size : length cards ≡ 0 = length_permutation under cards h ∙ ap (λ (cs : List Card). length cs) (none refl) in
    ap (λ (cs : List Card). top_of (cs ++ [])) (nil_from_length cards size)
top-kept (Some card) under cards none h = last-of cards card

below-kept : (top : Option Card) (under cards : List Card) → (top ≡ None → under ≡ []) → IsPermutation under cards
    → below_top 1 (cards ++ option_to_list top) ≡ cards
below-kept None under cards none h =
    let size : length cards ≡ 0 = length_permutation under cards h ∙ ap (λ (cs : List Card). length cs) (none refl) in
    let nil : cards ≡ [] = nil_from_length cards size in
    ap (λ (cs : List Card). below_top 1 (cs ++ [])) nil ∙ sym nil
below-kept (Some card) under cards none h =
    let size = length-append cards (card ∷ []) in
    let at : length (cards ++ card ∷ []) - 1 ≡ length cards = omega (arith, size) in
    ap (λ (n : ℕ). take n (cards ++ card ∷ [])) at ∙ take-append_seam cards (card ∷ [])

no_top : (cards : List Card) → top_of cards ≡ None → below_top 1 cards ≡ []
no_top [] h = refl
no_top (card ∷ cards) h =
    let last : top_of (card ∷ cards) ≡ Some (get_or (card ∷ cards) (length (card ∷ cards) - 1) card) =
    slice_get-get_or (card ∷ cards) (length (card ∷ cards) - 1) card (omega arith) in
    cc (last, h)

pub record HoleBack (rules : RuleParts) (board : Board) (hole : List Card) : Type 0 where
  pub permuted : IsPermutation board.hole hole
  pub top : top_of board.hole ≡ top_of hole
  pub ascending : card_bytes (below_top 1 hole) ≡ sorted_bytes (card_bytes (below_top 1 board.hole))

hole-back_if : (rules : RuleParts) (board : Board) (t : Bool) (cards : List Card)
    → (t ≡ true → Filled rules board cards) → IsTrue (t || is_empty board.hole)
    → HoleBack rules board
    (if t then cards ++ option_to_list (top_of board.hole) else option_to_list (top_of board.hole))
hole-back_if rules board true cards filled h =
    let under : List Card = below_top 1 board.hole in
    let top : List Card = option_to_list (top_of board.hole) in
    let f = filled refl in
    let moved : IsPermutation (under ++ top) (cards ++ top) = IsPermutation-append_left top under cards f.permuted in
    let kept = top-kept (top_of board.hole) under cards (no_top board.hole) f.permuted in
    record {
      permuted = subst (λ (cs : List Card). IsPermutation cs (cards ++ top)) (hole-cut board.hole) moved;
      top = sym kept;
      ascending = ap card_bytes
          (below-kept (top_of board.hole) under cards (no_top board.hole) f.permuted) ∙ f.ascending;
    }
hole-back_if rules board false cards filled h =
    let none : board.hole ≡ [] = empty-nil board.hole h in
    subst (λ (cs : List Card). HoleBack rules (record board { hole = cs }) (option_to_list (top_of cs))) (sym none)
    (record { permuted = IsPermutation-refl []; top = refl; ascending = refl })

pub hole-back : (rules : RuleParts) (board : Board) → HasLimits rules → HasRanks board → Belongs rules board
    → HoleBack rules board (hole_in rules (parts_of rules (in_key_order rules board (top_in (hole_bytes rules board)))))
hole-back rules board limits ranks belongs =
    subst (λ (top : List Card). HoleBack rules board (hole_in rules (parts_of rules (in_key_order rules board top))))
    (sym (top-back rules board ranks belongs))
    (hole-back_if rules board (is_hole_goal rules.goal)
    (lacking_cards rules (parts_of rules (in_key_order rules board (option_to_list (top_of board.hole)))))
    (lacking-filled rules board limits ranks belongs) belongs.hole)
