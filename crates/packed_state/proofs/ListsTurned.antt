-- Cards that go one after the other between the stock and another list.
use Rattle.std.proofs.Common.{◌≡◌, ◌≢◌, ℕ, ◌+◌, ◌<◌, ◌≤◌, Bool, ◌||◌, true, false}
use Rattle.std.proofs.Common.{List, [], ◌∷◌, ◌++◌, length, map, reverse}
use Rattle.std.proofs.Common.{refl, sym, ap, ◌∙◌, arith}
use Rattle.std.proofs.lemmas.Bool.Decides.{nat_tests}
use Rattle.std.proofs.lemmas.List.{reverse-append, map-append}
use Rattle.card_piles.specs.declared.Card.{Card}
use Rattle.game_rules.specs.Board.{Board, Pile, top_of, top_part, below_top}
use Rattle.card_links.specs.Chains.{Chains, size_at, slots_of, shifted_each}
use Rattle.card_links.proofs.Each.{Each, each, Turned, turned_each}
use Rattle.packed_state.specs.Packed.{Linked, IsLinked, is_inside, is_single, face_at, card_of, cards_at, board_of}
use Rattle.packed_state.specs.Turning.{IsList, turned}
use Rattle.packed_state.proofs.Seams.{top-append, below-append}
use Rattle.packed_state.proofs.Ranges.{range_same}
use Rattle.packed_state.proofs.Contents.{up, up-append, length-up}

reverse-cons : {X : Type 0} (x : X) (xs : List X) → reverse (x ∷ xs) ≡ reverse xs ++ x ∷ []
reverse-cons x xs = reverse-append (x ∷ []) xs

map-reverse : {X Y : Type 0} (f : X → Y) (xs : List X) → map f (reverse xs) ≡ reverse (map f xs)
map-reverse f [] = refl
map-reverse f (x ∷ xs) =
    ap (map f) (reverse-cons x xs) ∙ map-append f (reverse xs) (x ∷ [])
    ∙ ap (λ ys. ys ++ f x ∷ []) (map-reverse f xs) ∙ sym (reverse-cons (f x) (map f xs))

pub up-reverse : (cards : List Card) (xs : List ℕ) → up cards (reverse xs) ≡ reverse (up cards xs)
up-reverse cards xs = map-reverse (card_of cards) (reverse xs)

-- the packed board with other links
abbrev pub with_links : Linked → Chains → Linked
with_links l links = record l { links = links }

-- the waste, the stock and the hole are lists
or_left : (a b : Bool) → a ≡ true → (a || b) ≡ true
or_left true b e = refl
or_left false b e = cc

or_right : (a b : Bool) → b ≡ true → (a || b) ≡ true
or_right true b e = refl
or_right false b e = e

not_single : (p : ℕ) → 88 ≤ p → p < 107 → is_single p ≡ false
not_single p h g = grind (arith, nat_tests)

a_list : (l : Linked) (p : ℕ) → 88 ≤ p → p < 107 → is_inside l.shape p ≡ true → IsList l p
a_list l p high low inside =
    record { high = high; low = low; inside = inside; many = not_single p high low }

pub waste_list : (l : Linked) → IsList l 88
waste_list l = a_list l 88 (omega arith) (omega arith)
    (or_left _ _ (or_left _ _ (or_left _ _ (or_left _ _ (or_right _ _ refl)))))

pub stock_list : (l : Linked) → IsList l 89
stock_list l = a_list l 89 (omega arith) (omega arith)
    (or_left _ _ (or_left _ _ (or_left _ _ (or_right _ _ refl))))

pub hole_list : (l : Linked) → IsList l 106
hole_list l = a_list l 106 (omega arith) (omega arith)
    (or_left _ _ (or_right _ _ refl))

module _ (l : Linked) (h : IsLinked l) (a b n : ℕ) (la : IsList l a) (lb : IsList l b) (ne : a ≢ b)
    (enough : n ≤ size_at l.links a) where
  abbrev d : Chains
  d = shifted_each l.links a b n

  a_below : a < 315
  a_below = let x = la.low in omega arith

  b_below : b < 315
  b_below = let x = lb.low in omega arith

  e : Each l.links d a b n
  e = each a b a_below b_below ne l.links h.chained n enough

  t : Turned l.links d a b n
  t = turned_each a b a_below b_below ne l.links h.chained n enough

  outside : (p : ℕ) → p < 315 → is_inside l.shape p ≡ false → size_at d p ≡ 0
  outside p lp out =
      e.other p
      (λ q. let r : false ≡ true = sym out ∙ ap (is_inside l.shape) q ∙ la.inside in cc)
      (λ q. let r : false ≡ true = sym out ∙ ap (is_inside l.shape) q ∙ lb.inside in cc)
      ∙ h.outside p lp out

  singles : (p : ℕ) → p < 315 → is_single p ≡ true → size_at d p ≤ 1
  singles p lp one =
      let same = e.other p
      (λ q. let r : true ≡ false = sym one ∙ ap is_single q ∙ la.many in cc)
      (λ q. let r : true ≡ false = sym one ∙ ap is_single q ∙ lb.many in cc) in
      let o = h.singles p lp one in omega arith

  faces : (i : ℕ) → i < 20 → face_at l i ≤ size_at d i
  faces i li =
      let x = la.high in let y = lb.high in
      let same = e.other i (λ q. absurd (omega arith)) (λ q. absurd (omega arith)) in
      let f = h.faces i li in omega arith

  pub turned_linked : IsLinked (turned l a b n)
  turned_linked = record {
    chained = e.chained;
    sized = h.sized;
    faces = faces;
    outside = outside;
    singles = singles;
  }

  abbrev next : Linked
  next = turned l a b n

  split : cards_at l a ≡ cards_at next a ++ up l.cards t.front
  split = ap (up l.cards) t.rest ∙ up-append l.cards t.front (slots_of d a)

  front_long : length (up l.cards t.front) ≡ n
  front_long = length-up l.cards t.front ∙ t.long

  pub turned_left : cards_at next a ≡ below_top n (cards_at l a)
  turned_left = sym (ap (below_top n) split ∙ below-append (cards_at next a) (up l.cards t.front) n front_long)

  pub turned_there : cards_at next b ≡ cards_at l b ++ reverse (top_part n (cards_at l a))
  turned_there =
      ap (up l.cards) t.there ∙ up-append l.cards (reverse t.front) (slots_of l.links b)
      ∙ ap (λ xs. cards_at l b ++ xs) (up-reverse l.cards t.front
      ∙ ap reverse (sym (ap (top_part n) split ∙ top-append (cards_at next a) (up l.cards t.front) n front_long)))

  pub turned_other : (p : ℕ) → p < 315 → p ≢ a → p ≢ b → cards_at next p ≡ cards_at l p
  turned_other p lp na nb = ap (up l.cards) (e.other_slots p lp na nb)

  -- the parts of the board that neither is
  abbrev was : Board
  was = board_of l

  abbrev now : Board
  now = board_of next

  off : (p : ℕ) → (p < 88) → p ≢ a
  off p lp q = let x = la.high in absurd (omega arith)

  off_b : (p : ℕ) → (p < 88) → p ≢ b
  off_b p lp q = let x = lb.high in absurd (omega arith)

  pub piles_stay : now.piles ≡ was.piles
  piles_stay = let f = h.sized.small.piles in
      range_same _ _ 0 l.shape.piles (λ i _ li.
      ap (λ cs. let r : Pile = record { cards = cs; face_down = face_at l i } in r)
      (turned_other i (omega arith) (off i (omega arith)) (off_b i (omega arith))))

  pub cells_stay : now.cells ≡ was.cells
  cells_stay = let f = h.sized.small.cells in
      range_same _ _ 0 l.shape.cells (λ i _ li. ap top_of
      (turned_other (20 + i) (omega arith) (off (20 + i) (omega arith)) (off_b (20 + i) (omega arith))))

  pub reserve_stays : now.reserve ≡ was.reserve
  reserve_stays = let f = h.sized.small.entries in
      range_same _ _ 0 l.shape.entries (λ i _ li. ap top_of
      (turned_other (36 + i) (omega arith) (off (36 + i) (omega arith)) (off_b (36 + i) (omega arith))))

  pub heights_stay : ((i : ℕ) → i < 16 → 90 + i ≢ a) → ((i : ℕ) → i < 16 → 90 + i ≢ b)
      → now.heights ≡ was.heights
  heights_stay na nb = let f = h.sized.small.foundations in
      range_same _ _ 0 l.shape.foundations (λ i _ li. ap length
      (turned_other (90 + i) (omega arith) (na i (omega arith)) (nb i (omega arith))))

  pub slots_stay : now.slots ≡ was.slots
  slots_stay = let f = h.sized.small.slots in let x = la.low in let y = lb.low in
      range_same _ _ 0 l.shape.slots (λ i _ li. ap top_of
      (turned_other (107 + i) (omega arith) (λ q. absurd (omega arith)) (λ q. absurd (omega arith))))
