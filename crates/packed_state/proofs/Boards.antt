-- The board of the cards in each place, where cards were taken from a place or put on it.
use Rattle.std.proofs.Common.{◌≡◌, ◌≢◌, ℕ, ◌+◌, ◌-◌, ◌<◌, ◌≤◌, min, Bool, true, false, List, [], ◌∷◌, ◌++◌}
use Rattle.std.proofs.Common.{length, map, set, get_or, refl, sym, ap, ap₂, ◌∙◌, arith, length-append, length-take-le}
use Rattle.std.proofs.Common.{take}
use Rattle.std.specs.Prelude.{Option, None, IsTrue, slice_get, if◌then◌else◌, nat_lt, nat_eq}
use Rattle.std.specs.List.{range_with_len}
use Rattle.std.proofs.lemmas.Bool.Decides.{nat_tests}
use Rattle.std.proofs.lemmas.List.FromFn.{get_or-map-range_with_len}
use Rattle.card_piles.specs.declared.Card.{Card}
use Rattle.game_rules.specs.declared.RuleParts.{RuleParts}
use Rattle.game_rules.specs.declared.Place.{Place}
use Rattle.game_rules.specs.declared.Place.TheVariants.{Tableau, Cell, Reserve, Waste, Foundation, Hole, Slot}
use Rattle.game_rules.specs.Board.{Board, Pile, empty_pile, pile_at, height_at, below_top, top_of, has_place}
use Rattle.game_rules.specs.Taking.{without, pile_without}
use Rattle.game_rules.specs.Putting.{with_cards}
use Rattle.packed_state.specs.declared.Shape.{Shape}
use Rattle.packed_state.specs.Packed.{IsSmall, board_by, index_of, source_of, shape_after}
use Rattle.packed_state.proofs.Ranges.{range_same, range_set, range_less, length-range}

abbrev board : List Pile → List (Option Card) → List (Option Card) → List Card → List Card → ℕ → List ℕ → List Card
    → List (Option Card) → Board
board p c r s w l h o t =
    record {
      piles = p;
      cells = c;
      reserve = r;
      stock = s;
      waste = w;
      redeals_left = l;
      heights = h;
      hole = o;
      slots =
          t;
    }

pub same_boards : (p p' : List Pile) (c c' r r' t t' : List (Option Card)) (s s' w w' o o' : List Card) (l : ℕ)
    (h h' : List ℕ)
    → p ≡ p' → c ≡ c' → r ≡ r' → s ≡ s' → w ≡ w' → h ≡ h' → o ≡ o' → t ≡ t'
    → board p c r s w l h o t ≡ board p' c' r' s' w' l h' o' t'
same_boards p p' c c' r r' t t' s s' w w' o o' l h h' a b d e f g i j = cc

-- what holds only of a place that has room for one card
abbrev pub AtSingle : Place → Type 0 → Type 0
AtSingle (Tableau i) P = Unit {0}
AtSingle (Cell i) P = P
AtSingle (Reserve i) P = P
AtSingle Waste P = Unit {0}
AtSingle (Foundation f) P = Unit {0}
AtSingle Hole P = Unit {0}
AtSingle (Slot i) P = P

-- a place other than a pile gives one card, and the hole none
abbrev pub OneTaken : Place → ℕ → Type 0
OneTaken (Tableau i) count = Unit {0}
OneTaken (Cell i) count = count ≡ 1
OneTaken (Reserve i) count = count ≡ 1
OneTaken Waste count = count ≡ 1
OneTaken (Foundation f) count = count ≡ 1
OneTaken Hole count = ⊥
OneTaken (Slot i) count = count ≡ 1

-- where cards are put: a cell and a slot are empty and take one card, and no card is put on a reserve or a waste
abbrev pub RoomFor : Place → List Card → List Card → Type 0
RoomFor (Tableau i) there cards = Unit {0}
RoomFor (Cell i) there cards = (length cards ≡ 1) × (there ≡ [])
RoomFor (Reserve i) there cards = ⊥
RoomFor Waste there cards = ⊥
RoomFor (Foundation f) there cards = Unit {0}
RoomFor Hole there cards = Unit {0}
RoomFor (Slot i) there cards = (length cards ≡ 1) × (there ≡ [])

-- how many cards lie face down after cards were taken
abbrev pub face_after : Place → ℕ → ℕ → ℕ → ℕ → ℕ
face_after (Tableau i) count size face k = if nat_eq k i then min face (size - count - 1) else face
face_after (Cell i) count size face k = face
face_after (Reserve i) count size face k = face
face_after Waste count size face k = face
face_after (Foundation f) count size face k = face
face_after Hole count size face k = face
face_after (Slot i) count size face k = face

module _ (sh : Shape) (rl : ℕ) (C D : ℕ → List Card) (F G : ℕ → ℕ) (small : IsSmall sh) (p : ℕ) (ex : (q : ℕ) → q < 315
    → q ≢ p → D q ≡ C q) where
  abbrev old : Board
  old = board_by sh rl C F

  abbrev now : Board
  now = board_by sh rl D G

  pub piles_kept : ((i : ℕ) → i < 20 → i ≢ p) → ((i : ℕ) → i < 20 → G i ≡ F i) → now.piles ≡ old.piles
  piles_kept out faces = let b = small.piles in
      range_same _ _ 0 sh.piles
      (λ i _ li. ap₂ (λ cards face. let r : Pile = record { cards = cards; face_down = face } in
      r) (ex i (omega arith) (out i (omega arith))) (faces i (omega arith)))

  pub cells_kept : ((i : ℕ) → i < 16 → 20 + i ≢ p) → now.cells ≡ old.cells
  cells_kept out = let b = small.cells in
      range_same _ _ 0 sh.cells (λ i _ li. ap top_of (ex (20 + i) (omega arith) (out i (omega arith))))

  pub entries_kept : ((i : ℕ) → i < 52 → 36 + i ≢ p) → now.reserve ≡ old.reserve
  entries_kept out = let b = small.entries in
      range_same _ _ 0 sh.entries (λ i _ li. ap top_of (ex (36 + i) (omega arith) (out i (omega arith))))

  pub heights_kept : ((i : ℕ) → i < 16 → 90 + i ≢ p) → now.heights ≡ old.heights
  heights_kept out = let b = small.foundations in
      range_same _ _ 0 sh.foundations (λ i _ li. ap length (ex (90 + i) (omega arith) (out i (omega arith))))

  pub stock_kept : 89 ≢ p → now.stock ≡ old.stock
  stock_kept out = ex 89 (omega arith) out

  pub waste_kept : 88 ≢ p → now.waste ≡ old.waste
  waste_kept out = ex 88 (omega arith) out

  pub hole_kept : 106 ≢ p → now.hole ≡ old.hole
  hole_kept out = ex 106 (omega arith) out

  pub slots_kept : ((i : ℕ) → i < 208 → 107 + i ≢ p) → now.slots ≡ old.slots
  slots_kept out = let b = small.slots in
      range_same _ _ 0 sh.slots (λ i _ li. ap top_of (ex (107 + i) (omega arith) (out i (omega arith))))

-- a part is a list of what each number gives
pub part_at : {X : Type 0} (g : ℕ → X) (n i : ℕ) (d : X) → i < n → get_or (map g (range_with_len 0 n)) i d ≡ g i
part_at g n i d li = get_or-map-range_with_len g 0 n i i d li (omega arith)

-- one of a part is another
part_set : {X : Type 0} (g h : ℕ → X) (n i : ℕ) (y : X) → ((k : ℕ) → k < n → k ≢ i → h k ≡ g k) → h i ≡ y
    → map h (range_with_len 0 n) ≡ set (map g (range_with_len 0 n)) i y
part_set g h n i y same here =
    let none_more : 0 + i ≡ i = omega arith in
    range_set g h 0 n i y (λ k _ lk ne. same k (omega arith) (λ e. ne (e ∙ sym none_more))) (ap h none_more ∙ here)

-- below the top of a list of one there is nothing
top-of_none : (xs : List Card) → length xs ≤ 1 → top_of (below_top 1 xs) ≡ None
top-of_none [] h = refl
top-of_none (x ∷ []) h = refl
top-of_none (x ∷ y ∷ xs) h = absurd (omega arith)

length-below : (xs : List Card) → length (below_top 1 xs) ≡ length xs - 1
length-below xs = length-take-le (length xs - 1) xs (omega arith)

-- the top of one card
top-of_one : (xs : List Card) → length xs ≡ 1 → top_of ([] ++ xs) ≡ slice_get xs 0
top-of_one [] h = absurd (omega arith)
top-of_one (x ∷ []) h = refl
top-of_one (x ∷ y ∷ xs) h = absurd (omega arith)

-- the entries of a reserve
abbrev entries_by : Shape → (ℕ → List Card) → List (Option Card)
entries_by sh C = map (λ i. top_of (C (36 + i))) (range_with_len 0 sh.entries)

-- the place that a card of the reserve is taken from is one of the reserve
pub source_low : (v : Bool) (sh : Shape) (i n : ℕ) → sh.entries ≤ 52
    → IsTrue (if v then nat_eq i 0 else nat_lt i n) → n ≡ sh.entries → source_of v sh (Reserve i) < 88
source_low true sh i n few place e = omega arith
source_low false sh i n few place e =
    let inside : i < n = grind (arith, nat_tests) in
    let low : 36 + i < 88 = omega arith in
    low

pub source_high : (v : Bool) (sh : Shape) (i : ℕ) → 36 ≤ source_of v sh (Reserve i)
source_high true sh i = let r : 36 ≤ 36 + (sh.entries - 1) = omega arith in r
source_high false sh i = let r : 36 ≤ 36 + i = omega arith in r

-- a stacked reserve loses its last entry, another the card of one entry
reserve_without : (v : Bool) (sh : Shape) (i : ℕ) (C D : ℕ → List Card) → sh.entries ≤ 52
    → IsTrue (if v then nat_eq i 0 else nat_lt i (length (entries_by sh C)))
    → ((q : ℕ) → q < 315 → q ≢ source_of v sh (Reserve i) → D q ≡ C q)
    → D (source_of v sh (Reserve i)) ≡ below_top 1 (C (source_of v sh (Reserve i)))
    → length (C (source_of v sh (Reserve i))) ≤ 1
    → entries_by (shape_after v sh (Reserve i)) D
    ≡ (if v then below_top 1 (entries_by sh C) else set (entries_by sh C) i None)
reserve_without true sh i C D small place ex here single =
    let long = length-range (λ k. top_of (C (36 + k))) 0 sh.entries in
    range_same (λ k. top_of (C (36 + k))) (λ k. top_of (D (36 + k))) 0 (sh.entries - 1)
    (λ k _ lk. ap top_of (ex (36 + k) (omega arith) (λ e. absurd (omega arith))))
    ∙ sym (range_less (λ k. top_of (C (36 + k))) 0 (sh.entries - 1) sh.entries (omega arith))
    ∙ ap (λ (n : ℕ). take (n - 1) (entries_by sh C)) (sym long)
reserve_without false sh i C D small place ex here single =
    let long = length-range (λ k. top_of (C (36 + k))) 0 sh.entries in
    part_set _ _ sh.entries i None
    (λ k lk ne. ap top_of (ex (36 + k) (omega arith) (λ e. ne (omega arith))))
    (ap top_of here ∙ top-of_none (C (36 + i)) single)

module _ (rules : RuleParts) (sh : Shape) (rl : ℕ) (C D : ℕ → List Card) (F G : ℕ → ℕ) (small : IsSmall sh) where
  abbrev was : Board
  was = board_by sh rl C F

  abbrev next : Board
  next = board_by sh rl D G

  abbrev without_entry : Bool → ℕ → Board
  without_entry v i = record was {
    reserve = if v then below_top 1 (entries_by sh C) else set (entries_by sh C) i None;
  }

  reserve_taken : (v : Bool) (i : ℕ) → IsTrue (if v then nat_eq i 0 else nat_lt i (length (entries_by sh C)))
      → ((q : ℕ) → q < 315 → q ≢ source_of v sh (Reserve i) → D q ≡ C q)
      → D (source_of v sh (Reserve i)) ≡ below_top 1 (C (source_of v sh (Reserve i)))
      → length (C (source_of v sh (Reserve i))) ≤ 1
      → ((k : ℕ) → k < 20 → G k ≡ F k)
      → board_by (shape_after v sh (Reserve i)) rl D G ≡ without_entry v i
  reserve_taken true i place ex here single faces =
      let p : ℕ = 36 + (sh.entries - 1) in
      let few = small.entries in
      same_boards _ _ _ _ _ _ _ _ _ _ _ _ _ _ rl _ _
      (piles_kept sh rl C D F G small p ex (λ k lk e. absurd (omega arith)) faces)
      (cells_kept sh rl C D F G small p ex (λ k lk e. absurd (omega arith)))
      (reserve_without true sh i C D small.entries place ex here single)
      (stock_kept sh rl C D F G small p ex (λ e. absurd (omega arith)))
      (waste_kept sh rl C D F G small p ex (λ e. absurd (omega arith)))
      (heights_kept sh rl C D F G small p ex (λ k lk e. absurd (omega arith)))
      (hole_kept sh rl C D F G small p ex (λ e. absurd (omega arith)))
      (slots_kept sh rl C D F G small p ex (λ k lk e. absurd (omega arith)))
  reserve_taken false i place ex here single faces =
      let long = length-range (λ k. top_of (C (36 + k))) 0 sh.entries in
      let few = small.entries in
      let low : 36 + i < 88 = source_low false sh i (length (entries_by sh C)) small.entries place long in
      same_boards _ _ _ _ _ _ _ _ _ _ _ _ _ _ rl _ _
      (piles_kept sh rl C D F G small (36 + i) ex (λ k lk e. absurd (omega arith)) faces)
      (cells_kept sh rl C D F G small (36 + i) ex (λ k lk e. absurd (omega arith)))
      (reserve_without false sh i C D small.entries place ex here single)
      (stock_kept sh rl C D F G small (36 + i) ex (λ e. absurd (omega arith)))
      (waste_kept sh rl C D F G small (36 + i) ex (λ e. absurd (omega arith)))
      (heights_kept sh rl C D F G small (36 + i) ex (λ k lk e. absurd (omega arith)))
      (hole_kept sh rl C D F G small (36 + i) ex (λ e. absurd (omega arith)))
      (slots_kept sh rl C D F G small (36 + i) ex (λ k lk e. absurd (omega arith)))

  pub board_without : (from : Place) (count : ℕ) → IsTrue (has_place rules was from)
      → ((q : ℕ) → q < 315 → q ≢ source_of rules.stacked sh from → D q ≡ C q)
      → D (source_of rules.stacked sh from) ≡ below_top count (C (source_of rules.stacked sh from))
      → OneTaken from count → AtSingle from (length (C (source_of rules.stacked sh from)) ≤ 1)
      → ((k : ℕ) → k < 20 → G k ≡ face_after from count (length (C (source_of rules.stacked sh from))) (F k) k)
      → board_by (shape_after rules.stacked sh from) rl D G ≡ without rules was from count
  board_without (Tableau i) count place ex here one single faces =
      let b = small.piles in
      let long = length-range (λ k. let r : Pile = record { cards = C k; face_down = F k } in r) 0 sh.piles in
      let inside : i < sh.piles = grind (arith, nat_tests) in
      let at : pile_at was i ≡ record { cards = C i; face_down = F i } =
      part_at (λ k. let r : Pile = record { cards = C k; face_down = F k } in r) sh.piles i empty_pile inside in
      let face : G i ≡ min (F i) (length (C i) - count - 1) = faces i (omega arith) ∙ grind (arith, nat_tests) in
      same_boards _ _ _ _ _ _ _ _ _ _ _ _ _ _ rl _ _
      (part_set _ _ sh.piles i (pile_without count (pile_at was i))
      (λ k lk ne. ap₂ (λ cards f. let r : Pile = record { cards = cards; face_down = f } in
      r) (ex k (omega arith) ne) (faces k (omega arith) ∙ grind (arith, nat_tests)))
      (ap₂ (λ cards f. let r : Pile = record { cards = cards; face_down = f } in r) here face
      ∙ sym (ap (pile_without count) at)))
      (cells_kept sh rl C D F G small i ex (λ k lk e. absurd (omega arith)))
      (entries_kept sh rl C D F G small i ex (λ k lk e. absurd (omega arith)))
      (stock_kept sh rl C D F G small i ex (λ e. absurd (omega arith)))
      (waste_kept sh rl C D F G small i ex (λ e. absurd (omega arith)))
      (heights_kept sh rl C D F G small i ex (λ k lk e. absurd (omega arith)))
      (hole_kept sh rl C D F G small i ex (λ e. absurd (omega arith)))
      (slots_kept sh rl C D F G small i ex (λ k lk e. absurd (omega arith)))
  board_without (Cell i) count place ex here one single faces =
      let b = small.cells in
      let long = length-range (λ k. top_of (C (20 + k))) 0 sh.cells in
      let inside : i < sh.cells = grind (arith, nat_tests) in
      let here' : D (20 + i) ≡ below_top 1 (C (20 + i)) = here ∙ ap (λ n. below_top n (C (20 + i))) one in
      same_boards _ _ _ _ _ _ _ _ _ _ _ _ _ _ rl _ _
      (piles_kept sh rl C D F G small (20 + i) ex (λ k lk e. absurd (omega arith)) faces)
      (part_set _ _ sh.cells i None (λ k lk ne. ap top_of (ex (20 + k) (omega arith) (λ e. ne (omega arith))))
      (ap top_of here' ∙ top-of_none (C (20 + i)) single))
      (entries_kept sh rl C D F G small (20 + i) ex (λ k lk e. absurd (omega arith)))
      (stock_kept sh rl C D F G small (20 + i) ex (λ e. absurd (omega arith)))
      (waste_kept sh rl C D F G small (20 + i) ex (λ e. absurd (omega arith)))
      (heights_kept sh rl C D F G small (20 + i) ex (λ k lk e. absurd (omega arith)))
      (hole_kept sh rl C D F G small (20 + i) ex (λ e. absurd (omega arith)))
      (slots_kept sh rl C D F G small (20 + i) ex (λ k lk e. absurd (omega arith)))
  board_without (Reserve i) count place ex here one single faces =
      reserve_taken rules.stacked i place ex (here
      ∙ ap (λ n. below_top n (C (source_of rules.stacked sh (Reserve i)))) one)
      single faces
  board_without (Waste) count place ex here one single faces =
      same_boards _ _ _ _ _ _ _ _ _ _ _ _ _ _ rl _ _
      (piles_kept sh rl C D F G small (88) ex (λ k lk e. absurd (omega arith)) faces)
      (cells_kept sh rl C D F G small (88) ex (λ k lk e. absurd (omega arith)))
      (entries_kept sh rl C D F G small (88) ex (λ k lk e. absurd (omega arith)))
      (stock_kept sh rl C D F G small (88) ex (λ e. absurd (omega arith)))
      (here ∙ ap (λ n. below_top n (C 88)) one)
      (heights_kept sh rl C D F G small (88) ex (λ k lk e. absurd (omega arith)))
      (hole_kept sh rl C D F G small (88) ex (λ e. absurd (omega arith)))
      (slots_kept sh rl C D F G small (88) ex (λ k lk e. absurd (omega arith)))
  board_without (Foundation f) count place ex here one single faces =
      let b = small.foundations in
      let long = length-range (λ k. length (C (90 + k))) 0 sh.foundations in
      let inside : f < sh.foundations = grind (arith, nat_tests) in
      let at : height_at was f ≡ length (C (90 + f)) = part_at (λ k. length (C (90 + k))) sh.foundations f 0 inside in
      let here' : D (90 + f) ≡ below_top 1 (C (90 + f)) = here ∙ ap (λ n. below_top n (C (90 + f))) one in
      same_boards _ _ _ _ _ _ _ _ _ _ _ _ _ _ rl _ _
      (piles_kept sh rl C D F G small (90 + f) ex (λ k lk e. absurd (omega arith)) faces)
      (cells_kept sh rl C D F G small (90 + f) ex (λ k lk e. absurd (omega arith)))
      (entries_kept sh rl C D F G small (90 + f) ex (λ k lk e. absurd (omega arith)))
      (stock_kept sh rl C D F G small (90 + f) ex (λ e. absurd (omega arith)))
      (waste_kept sh rl C D F G small (90 + f) ex (λ e. absurd (omega arith)))
      (part_set _ _ sh.foundations f (height_at was f - 1)
      (λ k lk ne. ap length (ex (90 + k) (omega arith) (λ e. ne (omega arith)))) (ap length here'
      ∙ length-below (C (90 + f)) ∙ sym (ap (λ n. n - 1) at)))
      (hole_kept sh rl C D F G small (90 + f) ex (λ e. absurd (omega arith)))
      (slots_kept sh rl C D F G small (90 + f) ex (λ k lk e. absurd (omega arith)))
  board_without Hole count place ex here one single faces = absurd one
  board_without (Slot i) count place ex here one single faces =
      let b = small.slots in
      let long = length-range (λ k. top_of (C (107 + k))) 0 sh.slots in
      let inside : i < sh.slots = grind (arith, nat_tests) in
      let here' : D (107 + i) ≡ below_top 1 (C (107 + i)) = here ∙ ap (λ n. below_top n (C (107 + i))) one in
      same_boards _ _ _ _ _ _ _ _ _ _ _ _ _ _ rl _ _
      (piles_kept sh rl C D F G small (107 + i) ex (λ k lk e. absurd (omega arith)) faces)
      (cells_kept sh rl C D F G small (107 + i) ex (λ k lk e. absurd (omega arith)))
      (entries_kept sh rl C D F G small (107 + i) ex (λ k lk e. absurd (omega arith)))
      (stock_kept sh rl C D F G small (107 + i) ex (λ e. absurd (omega arith)))
      (waste_kept sh rl C D F G small (107 + i) ex (λ e. absurd (omega arith)))
      (heights_kept sh rl C D F G small (107 + i) ex (λ k lk e. absurd (omega arith)))
      (hole_kept sh rl C D F G small (107 + i) ex (λ e. absurd (omega arith)))
      (part_set _ _ sh.slots i None (λ k lk ne. ap top_of (ex (107 + k) (omega arith) (λ e. ne (omega arith))))
      (ap top_of here' ∙ top-of_none (C (107 + i)) single))

  pub board_with : (to : Place) (cards : List Card) → IsTrue (has_place rules was to)
      → ((q : ℕ) → q < 315 → q ≢ index_of to → D q ≡ C q)
      → D (index_of to) ≡ C (index_of to) ++ cards
      → RoomFor to (C (index_of to)) cards
      → ((k : ℕ) → k < 20 → G k ≡ F k)
      → next ≡ with_cards was to cards
  board_with (Tableau i) cards place ex here room faces =
      let b = small.piles in
      let long = length-range (λ k. let r : Pile = record { cards = C k; face_down = F k } in r) 0 sh.piles in
      let inside : i < sh.piles = grind (arith, nat_tests) in
      let at : pile_at was i ≡ record { cards = C i; face_down = F i } =
      part_at (λ k. let r : Pile = record { cards = C k; face_down = F k } in r) sh.piles i empty_pile inside in
      same_boards _ _ _ _ _ _ _ _ _ _ _ _ _ _ rl _ _
      (part_set _ _ sh.piles i
      (record { cards = (pile_at was i).cards ++ cards; face_down = (pile_at was i).face_down })
      (λ k lk ne. ap₂ (λ cs f. let r : Pile = record { cards = cs; face_down = f } in
      r) (ex k (omega arith) ne) (faces k (omega arith)))
      (ap₂ (λ cs f. let r : Pile = record { cards = cs; face_down = f } in r) here (faces i (omega arith))
      ∙ sym (ap (λ (q : Pile). let r : Pile = record { cards = q.cards ++ cards; face_down = q.face_down } in
      r) at)))
      (cells_kept sh rl C D F G small (i) ex (λ k lk e. absurd (omega arith)))
      (entries_kept sh rl C D F G small (i) ex (λ k lk e. absurd (omega arith)))
      (stock_kept sh rl C D F G small (i) ex (λ e. absurd (omega arith)))
      (waste_kept sh rl C D F G small (i) ex (λ e. absurd (omega arith)))
      (heights_kept sh rl C D F G small (i) ex (λ k lk e. absurd (omega arith)))
      (hole_kept sh rl C D F G small (i) ex (λ e. absurd (omega arith)))
      (slots_kept sh rl C D F G small (i) ex (λ k lk e. absurd (omega arith)))
  board_with (Cell i) cards place ex here pair faces =
      let b = small.cells in
      let long = length-range (λ k. top_of (C (20 + k))) 0 sh.cells in
      let inside : i < sh.cells = grind (arith, nat_tests) in
      same_boards _ _ _ _ _ _ _ _ _ _ _ _ _ _ rl _ _
      (piles_kept sh rl C D F G small (20 + i) ex (λ k lk e. absurd (omega arith)) faces)
      (part_set _ _ sh.cells i (slice_get cards 0)
      (λ k lk ne. ap top_of (ex (20 + k) (omega arith) (λ e. ne (omega arith))))
      (ap top_of (here ∙ ap (λ xs. xs ++ cards) pair.1) ∙ top-of_one cards pair.0))
      (entries_kept sh rl C D F G small (20 + i) ex (λ k lk e. absurd (omega arith)))
      (stock_kept sh rl C D F G small (20 + i) ex (λ e. absurd (omega arith)))
      (waste_kept sh rl C D F G small (20 + i) ex (λ e. absurd (omega arith)))
      (heights_kept sh rl C D F G small (20 + i) ex (λ k lk e. absurd (omega arith)))
      (hole_kept sh rl C D F G small (20 + i) ex (λ e. absurd (omega arith)))
      (slots_kept sh rl C D F G small (20 + i) ex (λ k lk e. absurd (omega arith)))
  board_with (Reserve i) cards place ex here room faces = absurd room
  board_with (Waste) cards place ex here room faces = absurd room
  board_with (Foundation f) cards place ex here room faces =
      let b = small.foundations in
      let long = length-range (λ k. length (C (90 + k))) 0 sh.foundations in
      let inside : f < sh.foundations = grind (arith, nat_tests) in
      let at : height_at was f ≡ length (C (90 + f)) = part_at (λ k. length (C (90 + k))) sh.foundations f 0 inside in
      same_boards _ _ _ _ _ _ _ _ _ _ _ _ _ _ rl _ _
      (piles_kept sh rl C D F G small (90 + f) ex (λ k lk e. absurd (omega arith)) faces)
      (cells_kept sh rl C D F G small (90 + f) ex (λ k lk e. absurd (omega arith)))
      (entries_kept sh rl C D F G small (90 + f) ex (λ k lk e. absurd (omega arith)))
      (stock_kept sh rl C D F G small (90 + f) ex (λ e. absurd (omega arith)))
      (waste_kept sh rl C D F G small (90 + f) ex (λ e. absurd (omega arith)))
      (part_set _ _ sh.foundations f (height_at was f + length cards)
      (λ k lk ne. ap length (ex (90 + k) (omega arith) (λ e. ne (omega arith)))) (ap length here
      ∙ length-append (C (90 + f)) cards ∙ sym (ap (λ n. n + length cards) at)))
      (hole_kept sh rl C D F G small (90 + f) ex (λ e. absurd (omega arith)))
      (slots_kept sh rl C D F G small (90 + f) ex (λ k lk e. absurd (omega arith)))
  board_with (Hole) cards place ex here room faces =
      same_boards _ _ _ _ _ _ _ _ _ _ _ _ _ _ rl _ _
      (piles_kept sh rl C D F G small (106) ex (λ k lk e. absurd (omega arith)) faces)
      (cells_kept sh rl C D F G small (106) ex (λ k lk e. absurd (omega arith)))
      (entries_kept sh rl C D F G small (106) ex (λ k lk e. absurd (omega arith)))
      (stock_kept sh rl C D F G small (106) ex (λ e. absurd (omega arith)))
      (waste_kept sh rl C D F G small (106) ex (λ e. absurd (omega arith)))
      (heights_kept sh rl C D F G small (106) ex (λ k lk e. absurd (omega arith)))
      (here)
      (slots_kept sh rl C D F G small (106) ex (λ k lk e. absurd (omega arith)))
  board_with (Slot i) cards place ex here pair faces =
      let b = small.slots in
      let long = length-range (λ k. top_of (C (107 + k))) 0 sh.slots in
      let inside : i < sh.slots = grind (arith, nat_tests) in
      same_boards _ _ _ _ _ _ _ _ _ _ _ _ _ _ rl _ _
      (piles_kept sh rl C D F G small (107 + i) ex (λ k lk e. absurd (omega arith)) faces)
      (cells_kept sh rl C D F G small (107 + i) ex (λ k lk e. absurd (omega arith)))
      (entries_kept sh rl C D F G small (107 + i) ex (λ k lk e. absurd (omega arith)))
      (stock_kept sh rl C D F G small (107 + i) ex (λ e. absurd (omega arith)))
      (waste_kept sh rl C D F G small (107 + i) ex (λ e. absurd (omega arith)))
      (heights_kept sh rl C D F G small (107 + i) ex (λ k lk e. absurd (omega arith)))
      (hole_kept sh rl C D F G small (107 + i) ex (λ e. absurd (omega arith)))
      (part_set _ _ sh.slots i (slice_get cards 0)
      (λ k lk ne. ap top_of (ex (107 + k) (omega arith) (λ e. ne (omega arith))))
      (ap top_of (here ∙ ap (λ xs. xs ++ cards) pair.1) ∙ top-of_one cards pair.0))
