-- The parts of a packed board, as lists over its places.
use Rattle.std.proofs.Common.{◌≡◌, ℕ, zero, suc, ◌+◌, ◌*◌, ◌-◌, ◌<◌, ◌≤◌, List, [], ◌∷◌, ◌++◌, map, length, get_or}
use Rattle.std.proofs.Common.{take, drop, refl, sym, ap, ap₂, ◌∙◌, arith, length-drop, mul-le-mul_right}
use Rattle.std.specs.Prelude.{Option, Some, None, slice_get, nat_lt, if◌then◌else◌}
use Rattle.std.specs.List.{range_with_len}
use Rattle.std.proofs.lemmas.Bool.Decides.{nat_tests}
use Rattle.std.proofs.lemmas.Option.{get_or_from_slice_get}
use Rattle.std.proofs.lemmas.List.{ext_get_or, get_or-take, get_or-drop, take_more, length-take}
use Rattle.std.proofs.lemmas.List.FromFn.{length-map-range_with_len, get_or-map-range_with_len, map-range_with_len_more}
use Rattle.card_piles.specs.declared.Card.{Card}
use Rattle.card_links.specs.Chains.{slot_at}
use Rattle.game_rules.specs.declared.RuleParts.{RuleParts}
use Rattle.game_rules.specs.Rules.{is_sequence_goal}
use Rattle.game_rules.specs.Board.{Pile, top_of}
use Rattle.game_rules.specs.Winning.{row_at}
use Rattle.game_rules.specs.declared.BoardParts.{BoardParts}
use Rattle.game_rules.specs.Position.{parts_of, row_count}
use Rattle.game_rules.specs.Belonging.{Belongs}
use Rattle.game_rules.proofs.PositionFacts.{slots-counted}
use Rattle.packed_state.specs.Packed.{Linked, cards_at, face_at, card_of, no_card, board_of}
use Rattle.packed_state.proofs.Ranges.{length-range}
use Rattle.packed_state.specs.Spots.{under_top}
use Rattle.packed_state.proofs.Tops.{size_is}
use Rattle.packed_state.proofs.Depths.{deep_some}

-- a part of a list that is made over a range
pub part_of_range : {X : Type 0} (g : ℕ → X) (d : X) (n k m a : ℕ) → k + m ≤ n
    → take m (drop k (map (λ i. g (a + i)) (range_with_len 0 n))) ≡ map (λ i. g (a + k + i)) (range_with_len 0 m)
part_of_range {X = X} g d n k m a fits =
    let all : List X = map (λ i. g (a + i)) (range_with_len 0 n) in
    let long : length all ≡ n = length-map-range_with_len (λ i. g (a + i)) 0 n in
    let dropped = length-drop k all in
    let taken = length-take m (drop k all) in
    let wanted = length-map-range_with_len (λ i. g (a + k + i)) 0 m in
    ext_get_or d (take m (drop k all)) _ (omega arith)
    (λ i li.
    get_or-take m (drop k all) i d (omega arith)
    ∙ get_or-drop k all i d
    ∙ get_or-map-range_with_len (λ j. g (a + j)) 0 n (k + i) (k + i) d (omega arith) (omega arith)
    ∙ ap g (let same : a + (k + i) ≡ a + k + i = omega arith in same)
    ∙ sym (get_or-map-range_with_len (λ j. g (a + k + j)) 0 m i i d (omega arith) (omega arith)))

inside : (a b : ℕ) (x : Option Card) → a < b → (if nat_lt a b then x else None) ≡ x
inside a b x h = grind (arith, nat_tests)

some_at : (xs : List Card) (k i : ℕ) (c : Card) → i < length xs → k ≡ length xs - 1 - i → under_top xs k ≡ Some c
    → slice_get xs i ≡ Some c
some_at xs k i c li ek e =
    let same : length xs - 1 - k ≡ i = omega arith in
    sym (ap (slice_get xs) same) ∙ sym (inside k (length xs) _ (omega arith)) ∙ e

-- the card of a place that lies so many from the bottom
pub card_read : (l : Linked) (p i size : ℕ) → size ≡ length (cards_at l p) → i < size
    → get_or (cards_at l p) i no_card ≡ card_of l.cards (slot_at l.links p (size - 1 - i))
card_read l p i size es li =
    let long = size_is l p in
    get_or_from_slice_get (cards_at l p) i _ no_card
    (some_at (cards_at l p) (size - 1 - i) i _ (omega arith) (omega arith) (deep_some l p (size - 1 - i) (omega arith)))

pub cards_more : (l : Linked) (p i size : ℕ) (out next : List Card) (c : Card) → size ≡ length (cards_at l p) → i < size
    → out ≡ take i (cards_at l p) → c ≡ card_of l.cards (slot_at l.links p (size - 1 - i)) → next ≡ out ++ c ∷ []
    → next ≡ take (i + 1) (cards_at l p)
cards_more l p i size out next c es li eo ec en =
    en
    ∙ ap₂ (λ xs x. xs ++ x ∷ []) eo (ec ∙ sym (card_read l p i size es li))
    ∙ sym (take_more (cards_at l p) i no_card (omega arith))

-- the parts of a list that is made over a range
over : {X Y : Type 0} (f : X → Y) (g : ℕ → X) (a n : ℕ)
    → map f (map g (range_with_len a n)) ≡ map (λ i. f (g i)) (range_with_len a n)
over f g a zero = refl
over f g a (suc n) = ap (λ ys. f (g a) ∷ ys) (over f g (a + 1) n)

pub row_read : (rules : RuleParts) (l : Linked) (r first m : ℕ) → m ≡ rules.max_rank
    → l.shape.slots ≡ row_count rules * rules.max_rank → r < row_count rules → first ≡ 107 + r * m
    → map (λ i. top_of (cards_at l (first + i))) (range_with_len 0 m) ≡ row_at rules (board_of l) r
row_read rules l r first m em es lr ef =
    let below : (r + 1) * rules.max_rank ≤ row_count rules * rules.max_rank =
    mul-le-mul_right rules.max_rank (let up : r + 1 ≤ row_count rules = omega arith in up) in
    let one : (r + 1) * rules.max_rank ≡ r * rules.max_rank + rules.max_rank = omega arith in
    let start : first ≡ 107 + r * rules.max_rank = ef ∙ ap (λ n. 107 + r * n) em in
    ap₂ (λ (k n : ℕ). map (λ i. top_of (cards_at l (k + i))) (range_with_len 0 n)) start em
    ∙ sym (part_of_range (λ i. top_of (cards_at l i)) None l.shape.slots (r * rules.max_rank) rules.max_rank 107
    (omega arith))

pub more_listed : {X : Type 0} (f : ℕ → X) (i : ℕ) (out next : List X) (x : X) → out ≡ map f (range_with_len 0 i)
    → next ≡ out ++ x ∷ [] → x ≡ f i → next ≡ map f (range_with_len 0 (i + 1))
more_listed f i out next x eo en ex =
    en ∙ ap₂ (λ ys y. ys ++ y ∷ []) eo ex ∙ sym (map-range_with_len_more f 0 i i (omega arith))

pub slots_there : (rules : RuleParts) (l : Linked) → Belongs rules (board_of l)
    → l.shape.slots ≡ row_count rules * rules.max_rank
slots_there rules l b =
    sym (length-range (λ i. top_of (cards_at l (107 + i))) 0 l.shape.slots)
    ∙ b.slots
    ∙ sym (slots-counted (is_sequence_goal rules.goal) rules.decks rules.max_rank)

abbrev pile_by : Linked → ℕ → Pile
pile_by l i = record { cards = cards_at l i; face_down = face_at l i }

pub piles_read : (l : Linked)
    → map (cards_at l) (range_with_len 0 l.shape.piles) ≡ map (λ (pile : Pile). pile.cards) (board_of l).piles
piles_read l =
    sym (over (λ (pile : Pile). pile.cards) (pile_by l) 0 l.shape.piles)

pub faces_read : (l : Linked)
    → map (face_at l) (range_with_len 0 l.shape.piles) ≡ map (λ (pile : Pile). pile.face_down) (board_of l).piles
faces_read l =
    sym (over (λ (pile : Pile). pile.face_down) (pile_by l) 0 l.shape.piles)

abbrev pub parts_with : List (List Card) → List ℕ → List (Option Card) → List (Option Card) → List Card → List Card → ℕ
    → List ℕ → List Card → List (List (Option Card)) → BoardParts
parts_with t f c r s w n h o q = record {
  tableau = t;
  face_down = f;
  cells = c;
  reserve = r;
  stock = s;
  waste = w;
  redeals_left = n;
  foundations = h;
  hole = o;
  rows = q;
}

same_parts : (t t' : List (List Card)) (f f' h h' : List ℕ) (c c' r r' : List (Option Card))
    (s s' w w' o o' : List Card) (n n' : ℕ) (q q' : List (List (Option Card)))
    → t ≡ t' → f ≡ f' → c ≡ c' → r ≡ r' → s ≡ s' → w ≡ w' → n ≡ n' → h ≡ h' → o ≡ o' → q ≡ q'
    → parts_with t f c r s w n h o q ≡ parts_with t' f' c' r' s' w' n' h' o' q'
same_parts t t' f f' h h' c c' r r' s s' w w' o o' n n' q q' et ef ec er es ew en eh eo eq = cc

module _ (rules : RuleParts) (c d : Linked) (view : c ≡ d) where
  pub parts_made : (t : List (List Card)) (f h : List ℕ) (ce re : List (Option Card)) (s w o : List Card) (n : ℕ)
      (q : List (List (Option Card)))
      → t ≡ map (cards_at d) (range_with_len 0 d.shape.piles)
      → f ≡ map (face_at d) (range_with_len 0 d.shape.piles)
      → ce ≡ map (λ i. top_of (cards_at d (20 + i))) (range_with_len 0 c.shape.cells)
      → re ≡ map (λ i. top_of (cards_at d (36 + i))) (range_with_len 0 c.shape.entries)
      → s ≡ cards_at d 89 → w ≡ cards_at d 88 → n ≡ c.redeals_left → h ≡ (board_of d).heights → o ≡ cards_at d 106
      → q ≡ map (row_at rules (board_of d)) (range_with_len 0 (row_count rules))
      → parts_with t f ce re s w n h o q ≡ parts_of rules (board_of d)
  parts_made t f h ce re s w o n q et ef ec er es ew en eh eo eq =
      same_parts _ _ _ _ _ _ _ _ _ _ _ _ _ _ _ _ _ _ _ _ (et ∙ piles_read d) (ef ∙ faces_read d)
      (ec ∙ ap (λ (x : Linked). map (λ i. top_of (cards_at d (20 + i))) (range_with_len 0 x.shape.cells)) view)
      (er ∙ ap (λ (x : Linked). map (λ i. top_of (cards_at d (36 + i))) (range_with_len 0 x.shape.entries)) view)
      es ew (en ∙ ap (λ (x : Linked). x.redeals_left) view) eh eo eq
