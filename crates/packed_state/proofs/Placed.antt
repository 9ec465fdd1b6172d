-- A packed board whose first places have their cards.
use Rattle.std.proofs.Common.{◌≡◌, ℕ, ◌+◌, ◌<◌, ◌≤◌, List, [], ◌++◌}
use Rattle.std.proofs.Common.{length, get_or, refl, sym, ap, ◌∙◌, subst, arith, inl, inr}
use Rattle.std.specs.Prelude.{IsTrue}
use Rattle.std.proofs.lemmas.Bool.{cases_eq}
use Rattle.std.proofs.lemmas.Bool.Decides.{nat_tests}
use Rattle.card_links.specs.Chains.{size_at}
use Rattle.game_rules.specs.declared.RuleParts.{RuleParts}
use Rattle.game_rules.specs.declared.Face.{Face}
use Rattle.game_rules.specs.declared.Face.TheVariants.{AllUp, TopUp}
use Rattle.game_rules.specs.Playable.{HasLimits}
use Rattle.game_rules.specs.Board.{Board, Pile, empty_pile, pile_at, height_at}
use Rattle.game_rules.specs.Belonging.{Belongs, lies_well}
use Rattle.game_rules.specs.Counting.{card_count}
use Rattle.game_rules.proofs.ListFacts.{list_all-get}
use Rattle.game_rules.proofs.FewCards.{each_place-few}
use Rattle.packed_state.specs.declared.Shape.{Shape}
use Rattle.packed_state.specs.Packed.{Linked, IsLinked, cards_at, board_of, Added}
use Rattle.packed_state.specs.Packed.{home_cards, HoldsFoundations}
use Rattle.packed_state.specs.Packing.{shape_of, cards_due, with_faces}
use Rattle.packed_state.proofs.Tops.{size_is}
use Rattle.packed_state.proofs.Due.{board_made, due_home, due_pile, length-home_cards}
use Rattle.packed_state.proofs.Tiles.{sizes_from, one_more, no_more, all_due, small_board}

-- the places below a number have the cards that are due, and the others none
pub record Placed (rules : RuleParts) (board : Board) (l : Linked) (n : ℕ) : Type 0 where
  pub shape : l.shape ≡ shape_of board
  pub redeals_left : l.redeals_left ≡ board.redeals_left
  pub stacked : l.stacked ≡ rules.stacked
  pub below : (q : ℕ) → q < n → cards_at l q ≡ cards_due rules board q
  pub above : (q : ℕ) → n ≤ q → q < 315 → cards_at l q ≡ []
  pub used : l.links.used ≡ sizes_from (cards_due rules board) 0 n

room : (u s k t w c : ℕ) → u ≡ s → t ≡ s + k → t ≤ w → w ≡ c → c ≤ 104 → u + k ≤ 208
room u s k t w c e one less all few = omega arith

module _ (rules : RuleParts) (board : Board) (l : Linked) (n : ℕ) (ln : n < 315) (placed : Placed rules board l n) where
  pub placed_empty : size_at l.links n ≡ 0
  placed_empty = size_is l n ∙ ap length (placed.above n (omega arith) ln)

  pub placed_room : HasLimits rules → Belongs rules board
      → l.links.used + length (cards_due rules board n) ≤ 208
  placed_room limits b =
      let few : card_count board ≤ 104 = (each_place-few rules board limits b).all in
      let one = one_more (cards_due rules board) n in
      let less = no_more (cards_due rules board) (n + 1) 315 (omega arith) in
      let all = all_due rules board (small_board rules board limits b) 315 refl in
      room l.links.used (sizes_from (cards_due rules board) 0 n) (length (cards_due rules board n)) _ _ _
      placed.used one less all few

  pub placed_more : (m : Linked) → Added l m n (cards_due rules board n) → Placed rules board m (n + 1)
  placed_more m added = record {
    shape = added.shape ∙ placed.shape;
    redeals_left = added.redeals_left ∙ placed.redeals_left;
    stacked = added.stacked ∙ placed.stacked;
    below = λ q lq. elim (cases_eq q n) [
      | inl e ↦
          ap (cards_at m) e ∙ added.there
          ∙ ap (λ xs. xs ++ cards_due rules board n) (placed.above n (omega arith) ln)
          ∙ sym (ap (cards_due rules board) e)
      | inr ne ↦ added.other q (omega arith) ne ∙ placed.below q (omega arith)
    ];
    above = λ q lq l315. added.other q l315 (omega arith) ∙ placed.above q (omega arith) l315;
    used = added.used ∙ ap (λ k. k + length (cards_due rules board n)) placed.used
        ∙ sym (one_more (cards_due rules board) n);
  }

-- the face-down cards of a pile are no more than it has
well_faces : (face : Face) (pile : Pile) → IsTrue (lies_well face pile) → pile.face_down ≤ length pile.cards
well_faces AllUp pile h = let none : pile.face_down ≡ 0 = grind (arith, nat_tests) in omega arith
well_faces TopUp pile h = grind (arith, nat_tests)

well_empty : (face : Face) → IsTrue (lies_well face empty_pile)
well_empty AllUp = refl
well_empty TopUp = refl

few_faces : (rules : RuleParts) (board : Board) (i : ℕ) → Belongs rules board
    → (pile_at board i).face_down ≤ length (pile_at board i).cards
few_faces rules board i b =
    well_faces rules.face (pile_at board i)
    (list_all-get (lies_well rules.face) board.piles i empty_pile b.faces (well_empty rules.face))

module _ (rules : RuleParts) (board : Board) (limits : HasLimits rules) (b : Belongs rules board) (l : Linked) (n : ℕ)
    (en : n ≡ 315) (placed : Placed rules board l n) (faces : List ℕ)
    (each : (i : ℕ) → i < 20 → get_or faces i 0 ≡ (pile_at board i).face_down) where
  each_place : (q : ℕ) → q < 315 → cards_at l q ≡ cards_due rules board q
  each_place q lq = placed.below q (omega arith)

  pub faces_fit : (i : ℕ) → i < 20 → get_or faces i 0 ≤ size_at l.links i
  faces_fit i li =
      let size : size_at l.links i ≡ length (pile_at board i).cards =
      size_is l i ∙ ap length (each_place i (omega arith) ∙ due_pile rules board i li) in
      let face = each i li in
      let fits = few_faces rules board i b in
      omega arith

  module _ (m : Linked) (em : m ≡ with_faces l faces) where
    pub placed_board : board_of m ≡ board
    placed_board =
        ap board_of em
        ∙ ap (λ s. board_of (record l { face_down = faces; shape = s })) placed.shape
        ∙ board_made rules board l.redeals_left (cards_at l) (λ i. get_or faces i 0) (small_board rules board limits b)
        each_place each placed.redeals_left

    pub placed_stacked : m.stacked ≡ rules.stacked
    placed_stacked = ap (λ (x : Linked). x.stacked) em ∙ placed.stacked

    pub placed_used : m.links.used ≡ card_count board
    placed_used =
        ap (λ (x : Linked). x.links.used) em ∙ placed.used ∙ all_due rules board (small_board rules board limits b) n en

    home_placed : (f : ℕ) → f < l.shape.foundations
        → cards_at l (90 + f) ≡ home_cards rules f (size_at l.links (90 + f))
    home_placed f lf =
        let small = (small_board rules board limits b).foundations in
        let few : f < 16 = let s = ap (λ (s : Shape). s.foundations) placed.shape in omega arith in
        let its : cards_at l (90 + f) ≡ home_cards rules f (height_at board f) =
        each_place (90 + f) (omega arith) ∙ due_home rules board f (90 + f) refl few in
        let size : size_at l.links (90 + f) ≡ height_at board f =
        size_is l (90 + f) ∙ ap length its ∙ length-home_cards rules f (height_at board f) in
        its ∙ ap (home_cards rules f) (sym size)

    pub placed_home : HoldsFoundations rules m
    placed_home = subst (HoldsFoundations rules) (sym em) home_placed

-- a packed board with other face-down counts that fit
module _ (c d : Linked) (view : c ≡ d) (h : IsLinked c) (faces : List ℕ) (long : length faces ≡ 20)
    (fit : (i : ℕ) → i < 20 → get_or faces i 0 ≤ size_at d.links i) where
  pub faces_linked : IsLinked (with_faces c faces)
  faces_linked = record {
    chained = h.chained;
    sized = record { cards_length = h.sized.cards_length; faces_length = long; small = h.sized.small };
    faces = subst (λ (x : Linked). (i : ℕ) → i < 20 → get_or faces i 0 ≤ size_at x.links i) (sym view) fit;
    outside = h.outside;
    singles = h.singles;
  }
