-- What each place should have, kind by kind, and the board that it makes.
use Rattle.std.proofs.Common.{◌≡◌, ◌≢◌, ℕ, ◌+◌, ◌-◌, ◌<◌, ◌≤◌, Bool, true, false, ◌&&◌}
use Rattle.std.proofs.Common.{List, map, length, reverse, refl, sym, ap, ap₂, ◌∙◌, arith}
use Rattle.std.proofs.Common.{inl, inr}
use Rattle.std.specs.Prelude.{Option, Some, None, nat_lt, nat_le, nat_eq, if◌then◌else◌}
use Rattle.std.specs.Option.{option_to_list}
use Rattle.std.specs.List.{range_with_len}
use Rattle.std.proofs.lemmas.Bool.{cases_lt}
use Rattle.std.proofs.lemmas.Bool.Decides.{nat_tests}
use Rattle.std.proofs.lemmas.List.{get_or_past, ext_get_or, get_or-reverse, length-reverse}
use Rattle.std.proofs.lemmas.List.FromFn.{length-map-range_with_len, get_or-map-range_with_len, fill_by_all}
use Rattle.card_piles.specs.declared.Card.{Card}
use Rattle.game_rules.specs.declared.RuleParts.{RuleParts}
use Rattle.game_rules.specs.Rules.{takes_complete_runs}
use Rattle.game_rules.specs.Board.{Board, Pile, empty_pile, pile_at, entry_at, height_at, top_of}
use Rattle.game_rules.specs.Board.{foundation_card}
use Rattle.packed_state.specs.declared.Shape.{Shape}
use Rattle.packed_state.specs.Packed.{IsSmall, board_by, home_cards, is_inside, no_card}
use Rattle.packed_state.specs.Packing.{shape_of, cards_due}
use Rattle.packed_state.proofs.Ranges.{range_same}
use Rattle.packed_state.proofs.Boards.{same_boards}
use Rattle.packed_state.proofs.Linking.{or_left, or_right, same_number}

if_true : {X : Type 0} (b : Bool) (x y : X) → b ≡ true → (if b then x else y) ≡ x
if_true true x y e = refl
if_true false x y e = cc

if_false : {X : Type 0} (b : Bool) (x y : X) → b ≡ false → (if b then x else y) ≡ y
if_false true x y e = cc
if_false false x y e = refl

yes_lt : (a b : ℕ) → a < b → nat_lt a b ≡ true
yes_lt a b h = grind (arith, nat_tests)

no_lt : (a b : ℕ) → b ≤ a → nat_lt a b ≡ false
no_lt a b h = grind (arith, nat_tests)

no_eq : (a b : ℕ) → a ≢ b → nat_eq a b ≡ false
no_eq a b h = grind (arith, nat_tests)

-- the numbers from n - 1 down are the reverse of those up to it
turned_over : (g : ℕ → Card) (n : ℕ)
    → map (λ k. g (n - k - 1)) (range_with_len 0 n) ≡ reverse (map g (range_with_len 0 n))
turned_over g n =
    let up : List Card = map g (range_with_len 0 n) in
    let long : length up ≡ n = length-map-range_with_len g 0 n in
    let down : List Card = map (λ k. g (n - k - 1)) (range_with_len 0 n) in
    let long_down : length down ≡ n = length-map-range_with_len (λ k. g (n - k - 1)) 0 n in
    ext_get_or no_card down (reverse up) (long_down ∙ sym (length-reverse up ∙ long))
    (λ k lk.
    get_or-map-range_with_len (λ j. g (n - j - 1)) 0 n k k no_card (omega arith) (omega arith)
    ∙ sym (get_or-reverse up k no_card (omega arith)
    ∙ get_or-map-range_with_len g 0 n (length up - 1 - k) (n - k - 1) no_card (omega arith) (omega arith)))

listed : (runs : Bool) (g : ℕ → Card) (n : ℕ)
    → map (λ k. g ((if runs then n - k else k + 1) - 1)) (range_with_len 0 n)
    ≡ (if runs then reverse (map g (range_with_len 0 n)) else map g (range_with_len 0 n))
listed true g n = turned_over g n
listed false g n =
    range_same g (λ k. g (k + 1 - 1)) 0 n (λ k lk ln. ap g (let e : k + 1 - 1 ≡ k = omega arith in e))

-- the cards of a foundation, one after the other as they are put
abbrev pub home_card : RuleParts → ℕ → ℕ → ℕ → Card
home_card rules f height k =
    foundation_card rules f ((if takes_complete_runs rules.goal then height - k else k + 1) - 1)

pub home_listed : (rules : RuleParts) (f height : ℕ)
    → map (home_card rules f height) (range_with_len 0 height) ≡ home_cards rules f height
home_listed rules f height = listed (takes_complete_runs rules.goal) (foundation_card rules f) height

pub length-home_cards : (rules : RuleParts) (f height : ℕ) → length (home_cards rules f height) ≡ height
length-home_cards rules f height =
    sym (ap length (home_listed rules f height)) ∙ length-map-range_with_len (home_card rules f height) 0 height

module _ (rules : RuleParts) (board : Board) where
  abbrev due : ℕ → List Card
  due = cards_due rules board

  pub due_pile : (p : ℕ) → p < 20 → due p ≡ (pile_at board p).cards
  due_pile p lp = if_true (nat_lt p 20) _ _ (yes_lt p 20 lp)

  pub due_cell : (i p : ℕ) → p ≡ 20 + i → i < 16 → due p ≡ option_to_list (entry_at board.cells i)
  due_cell i p e li =
      let same : p - 20 ≡ i = omega arith in
      if_false (nat_lt p 20) _ _ (no_lt p 20 (omega arith))
      ∙ if_true (nat_lt p 36) _ _ (yes_lt p 36 (omega arith))
      ∙ ap (λ k. option_to_list (entry_at board.cells k)) same

  past_cells : (p : ℕ) (x : List Card) → 36 ≤ p
      → (if nat_lt p 88 then option_to_list (entry_at board.reserve (p - 36)) else
      if nat_eq p 88 then board.waste else
      if nat_eq p 89 then board.stock else
      if nat_lt p 106 then home_cards rules (p - 90) (height_at board (p - 90)) else
      if nat_eq p 106 then board.hole else option_to_list (entry_at board.slots (p - 107))) ≡ x
      → due p ≡ x
  past_cells p x lp e =
      if_false (nat_lt p 20) _ _ (no_lt p 20 (omega arith)) ∙ if_false (nat_lt p 36) _ _ (no_lt p 36 lp) ∙ e

  pub due_entry : (i p : ℕ) → p ≡ 36 + i → i < 52 → due p ≡ option_to_list (entry_at board.reserve i)
  due_entry i p e li =
      let same : p - 36 ≡ i = omega arith in
      past_cells p _ (omega arith)
      (if_true (nat_lt p 88) _ _ (yes_lt p 88 (omega arith))
      ∙ ap (λ k. option_to_list (entry_at board.reserve k)) same)

  pub due_waste : (p : ℕ) → p ≡ 88 → due p ≡ board.waste
  due_waste p e =
      past_cells p _ (omega arith)
      (if_false (nat_lt p 88) _ _ (no_lt p 88 (omega arith)) ∙ if_true (nat_eq p 88) _ _ (same_number p 88 e))

  past_waste : (p : ℕ) (x : List Card) → 89 ≤ p
      → (if nat_eq p 89 then board.stock else
      if nat_lt p 106 then home_cards rules (p - 90) (height_at board (p - 90)) else
      if nat_eq p 106 then board.hole else option_to_list (entry_at board.slots (p - 107))) ≡ x
      → due p ≡ x
  past_waste p x lp e =
      past_cells p x (omega arith)
      (if_false (nat_lt p 88) _ _ (no_lt p 88 (omega arith))
      ∙ if_false (nat_eq p 88) _ _ (no_eq p 88 (omega arith)) ∙ e)

  pub due_stock : (p : ℕ) → p ≡ 89 → due p ≡ board.stock
  due_stock p e = past_waste p _ (omega arith) (if_true (nat_eq p 89) _ _ (same_number p 89 e))

  pub due_home : (f p : ℕ) → p ≡ 90 + f → f < 16 → due p ≡ home_cards rules f (height_at board f)
  due_home f p e lf =
      let same : p - 90 ≡ f = omega arith in
      past_waste p _ (omega arith)
      (if_false (nat_eq p 89) _ _ (no_eq p 89 (omega arith))
      ∙ if_true (nat_lt p 106) _ _ (yes_lt p 106 (omega arith))
      ∙ ap (λ k. home_cards rules k (height_at board k)) same)

  past_home : (p : ℕ) (x : List Card) → 106 ≤ p
      → (if nat_eq p 106 then board.hole else option_to_list (entry_at board.slots (p - 107))) ≡ x → due p ≡ x
  past_home p x lp e =
      past_waste p x (omega arith)
      (if_false (nat_eq p 89) _ _ (no_eq p 89 (omega arith)) ∙ if_false (nat_lt p 106) _ _ (no_lt p 106 lp) ∙ e)

  pub due_hole : (p : ℕ) → p ≡ 106 → due p ≡ board.hole
  due_hole p e = past_home p _ (omega arith) (if_true (nat_eq p 106) _ _ (same_number p 106 e))

  pub due_slot : (i p : ℕ) → p ≡ 107 + i → due p ≡ option_to_list (entry_at board.slots i)
  due_slot i p e =
      let same : p - 107 ≡ i = omega arith in
      past_home p _ (omega arith)
      (if_false (nat_eq p 106) _ _ (no_eq p 106 (omega arith))
      ∙ ap (λ k. option_to_list (entry_at board.slots k)) same)

-- a place that should have a card is a place of the board
pub entry_inside : (entries : List (Option Card)) (i : ℕ) → 1 ≤ length (option_to_list (entry_at entries i))
    → i < length entries
entry_inside entries i some = elim (cases_lt i (length entries)) [
  | inl inside ↦ inside
  | inr past ↦
      let none = ap (λ (e : Option Card). length (option_to_list e)) (get_or_past entries i None past) in
      absurd (omega arith)
]

pile_inside : (board : Board) (i : ℕ) → 1 ≤ length (pile_at board i).cards → i < length board.piles
pile_inside board i some = elim (cases_lt i (length board.piles)) [
  | inl inside ↦ inside
  | inr past ↦
      let none = ap (λ (p : Pile). length p.cards) (get_or_past board.piles i empty_pile past) in
      absurd (omega arith)
]

pub home_inside : (board : Board) (f : ℕ) → 1 ≤ height_at board f → f < length board.heights
home_inside board f some = elim (cases_lt f (length board.heights)) [
  | inl inside ↦ inside
  | inr past ↦ let none = get_or_past board.heights f 0 past in absurd (omega arith)
]

-- the room for the cards of a foundation
pub due_room : (rules : RuleParts) (board : Board) (p f h u : ℕ) → p ≡ 90 + f → f < 16 → h ≡ height_at board f
    → u + length (cards_due rules board p) ≤ 208 → u + h ≤ 208
due_room rules board p f h u e lf eh room =
    let long = ap length (due_home rules board f p e lf) in
    let high = length-home_cards rules f (height_at board f) in
    omega arith

within : (a b p : ℕ) → a ≤ p → p < b → (nat_le a p && nat_lt p b) ≡ true
within a b p la lb = grind (arith, nat_tests)

module _ (rules : RuleParts) (board : Board) (p : ℕ) (some : 1 ≤ length (cards_due rules board p)) where
  abbrev sh : Shape
  sh = shape_of board

  -- a card that is due by another name of the list
  by : (x : List Card) → cards_due rules board p ≡ x → 1 ≤ length x
  by x e = let long = ap length e in omega arith

  inside_high : 89 ≤ p → is_inside (shape_of board) p ≡ true
  inside_high high = elim (cases_lt p 90) [
    | inl in_stock ↦ or_left _ _ (or_left _ _ (or_left _ _ (or_right _ _ (same_number p 89 (omega arith)))))
    | inr past_stock ↦ elim (cases_lt p 106) [
      | inl at_home ↦
          let high_enough = by _ (due_home rules board (p - 90) p (omega arith) (omega arith)) in
          let long = length-home_cards rules (p - 90) (height_at board (p - 90)) in
          let there = home_inside board (p - 90) (omega arith) in
          or_left _ _ (or_left _ _ (or_right _ _ (within 90 (90 + sh.foundations) p (omega arith) (omega arith))))
      | inr past_home ↦ elim (cases_lt p 107) [
        | inl in_hole ↦ or_left _ _ (or_right _ _ (same_number p 106 (omega arith)))
        | inr past_hole ↦
            let there = entry_inside board.slots (p - 107) (by _ (due_slot rules board (p - 107) p (omega arith))) in
            or_right _ _ (within 107 (107 + sh.slots) p (omega arith) (omega arith))
      ]
    ]
  ]

  pub due_inside : is_inside (shape_of board) p ≡ true
  due_inside = elim (cases_lt p 20) [
    | inl in_piles ↦
        let there = pile_inside board p (by _ (due_pile rules board p in_piles)) in
        or_left _ _ (or_left _ _ (or_left _ _ (or_left _ _ (or_left _ _ (or_left _ _ (or_left _ _
        (yes_lt p _ there)))))))
    | inr past_piles ↦ elim (cases_lt p 36) [
      | inl in_cells ↦
          let there = entry_inside board.cells (p - 20)
          (by _ (due_cell rules board (p - 20) p (omega arith) (omega arith))) in
          or_left _ _ (or_left _ _ (or_left _ _ (or_left _ _ (or_left _ _ (or_left _ _
          (or_right _ _ (within 20 (20 + sh.cells) p (omega arith) (omega arith))))))))
      | inr past_cells ↦ elim (cases_lt p 88) [
        | inl in_reserve ↦
            let there = entry_inside board.reserve (p - 36)
            (by _ (due_entry rules board (p - 36) p (omega arith) (omega arith))) in
            or_left _ _ (or_left _ _ (or_left _ _ (or_left _ _ (or_left _ _
            (or_right _ _ (within 36 (36 + sh.entries) p (omega arith) (omega arith)))))))
        | inr past_reserve ↦ elim (cases_lt p 89) [
          | inl in_waste ↦
              or_left _ _ (or_left _ _ (or_left _ _ (or_left _ _ (or_right _ _ (same_number p 88 (omega arith))))))
          | inr past_waste ↦ inside_high past_waste
        ]
      ]
    ]
  ]

-- the board is made of what is due
top_of_entry : (e : Option Card) → top_of (option_to_list e) ≡ e
top_of_entry None = refl
top_of_entry (Some x) = refl

entries_read : (entries : List (Option Card)) (C : ℕ → List Card) (base : ℕ)
    → ((i : ℕ) → i < length entries → C (base + i) ≡ option_to_list (entry_at entries i))
    → map (λ i. top_of (C (base + i))) (range_with_len 0 (length entries)) ≡ entries
entries_read entries C base each =
    sym (fill_by_all (λ i. top_of (C (base + i))) entries (length entries) None refl
    (λ k lk. sym (ap top_of (each k lk) ∙ top_of_entry (entry_at entries k))))

pub board_made : (rules : RuleParts) (board : Board) (rl : ℕ) (C : ℕ → List Card) (F : ℕ → ℕ) → IsSmall (shape_of board)
    → ((q : ℕ) → q < 315 → C q ≡ cards_due rules board q) → ((i : ℕ) → i < 20 → F i ≡ (pile_at board i).face_down)
    → rl ≡ board.redeals_left → board_by (shape_of board) rl C F ≡ board
board_made rules board rl C F small each faces er =
    let fp = small.piles in let fc = small.cells in let fe = small.entries in
    let ff = small.foundations in let fs = small.slots in
    let pile : ℕ → Pile = λ i. record { cards = C i; face_down = F i } in
    let made = λ (n : ℕ). board_by (shape_of board) n C F in
    ap made er
    ∙ same_boards _ _ _ _ _ _ _ _ _ _ _ _ _ _ board.redeals_left _ _
    (sym (fill_by_all pile board.piles (length board.piles) empty_pile refl
    (λ k lk. sym (ap₂ (λ cs n. let r : Pile = record { cards = cs; face_down = n } in r)
    (each k (omega arith) ∙ due_pile rules board k (omega arith)) (faces k (omega arith))))))
    (entries_read board.cells C 20
    (λ i li. each (20 + i) (omega arith) ∙ due_cell rules board i (20 + i) refl (omega arith)))
    (entries_read board.reserve C 36
    (λ i li. each (36 + i) (omega arith) ∙ due_entry rules board i (36 + i) refl (omega arith)))
    (each 89 (omega arith) ∙ due_stock rules board 89 refl)
    (each 88 (omega arith) ∙ due_waste rules board 88 refl)
    (sym (fill_by_all (λ f. length (C (90 + f))) board.heights (length board.heights) 0 refl
    (λ k lk. sym (ap length (each (90 + k) (omega arith) ∙ due_home rules board k (90 + k) refl (omega arith))
    ∙ length-home_cards rules k (height_at board k)))))
    (each 106 (omega arith) ∙ due_hole rules board 106 refl)
    (entries_read board.slots C 107
    (λ i li. each (107 + i) (omega arith) ∙ due_slot rules board i (107 + i) refl))
