-- The board after a carry along the links is the board after the carry.
use Rattle.std.proofs.Common.{◌≡◌, ◌≢◌, ℕ, ◌+◌, ◌-◌, ◌<◌, ◌≤◌, List, ◌++◌, length, set, refl, sym, ap, ap₂, ◌∙◌, subst}
use Rattle.std.proofs.Common.{arith, inl, inr}
use Rattle.std.specs.Prelude.{IsTrue, nat_eq, if◌then◌else◌}
use Rattle.std.specs.Option.{option_to_list}
use Rattle.std.proofs.lemmas.Bool.{cases_eq}
use Rattle.card_piles.specs.declared.Card.{Card}
use Rattle.game_rules.specs.declared.RuleParts.{RuleParts}
use Rattle.game_rules.specs.declared.Move.TheVariants.{Carry}
use Rattle.game_rules.specs.declared.Place.{Place}
use Rattle.game_rules.specs.declared.Place.TheVariants.{Tableau, Cell, Reserve, Waste, Foundation, Hole, Slot}
use Rattle.game_rules.specs.Board.{Board, has_place, top_part, below_top, foundation_top, foundation_card}
use Rattle.game_rules.specs.Taking.{taken, can_take, without}
use Rattle.game_rules.specs.Putting.{with_cards}
use Rattle.game_rules.specs.Play.{after, is_legal_carry}
use Rattle.game_rules.proofs.LegalFacts.{CarryFacts}
use Rattle.card_links.specs.Chains.{size_at, slot_at, slots_of}
use Rattle.packed_state.specs.declared.Shape.{Shape}
use Rattle.packed_state.specs.Packed.{Linked, IsLinked, index_of, source_of, shape_after, is_place, face_at, cards_at}
use Rattle.packed_state.specs.Packed.{board_by, board_of}
use Rattle.packed_state.specs.Undoing.{CanCarry, with_card, written, first_slot, gone}
use Rattle.packed_state.proofs.Ranges.{range_same}
use Rattle.packed_state.proofs.Contents.{up, length-up, cards_left, cards_there, cards_other}
use Rattle.packed_state.proofs.Boards.{AtSingle, OneTaken, RoomFor, face_after, board_without, board_with, same_boards}
use Rattle.packed_state.proofs.Boards.{piles_kept, cells_kept, entries_kept, stock_kept, waste_kept, hole_kept}
use Rattle.packed_state.proofs.Boards.{slots_kept}
use Rattle.packed_state.proofs.Linking.{small_of, small_after, can_shift, below_of}
use Rattle.packed_state.proofs.Finding.{place_again, place_after}
use Rattle.packed_state.proofs.Moving.{Takes, taken_by}
use Rattle.packed_state.proofs.Carrying.{if_here, if_there, long, faces_after, one_at, at_single, written_other}
use Rattle.packed_state.proofs.Carrying.{written_top, foundation_some, can, facts, takes, room}

-- the cards of the slots with the card of a foundation's top written
abbrev pub cards_written : RuleParts → Linked → Place → ℕ → List Card
cards_written rules l from count =
    with_card l.cards (first_slot l (source_of rules.stacked l.shape from) count)
    (written rules (size_at l.links (source_of rules.stacked l.shape from)) from)

abbrev pub contents : RuleParts → Linked → Place → ℕ → ℕ → List Card
contents rules l from count p = up (cards_written rules l from count) (slots_of l.links p)

module _ (rules : RuleParts) (l : Linked) (h : IsLinked l) (count f : ℕ) (p : IsTrue (is_place l.shape (Foundation f)))
    (one : count ≡ 1) (some : 0 < size_at l.links (90 + f)) where
  abbrev card : Card
  card = foundation_card rules f (size_at l.links (90 + f) - 1)

  written_is : cards_written rules l (Foundation f) count ≡ set l.cards (slot_at l.links (90 + f) 0) card
  written_is =
      let first : count - 1 ≡ 0 = omega arith in
      ap₂ (with_card l.cards) (ap (slot_at l.links (90 + f)) first)
      (foundation_some rules f (size_at l.links (90 + f)) some)

  pub home_other : (q : ℕ) → q < 315 → q ≢ 90 + f → contents rules l (Foundation f) count q ≡ cards_at l q
  home_other q lq ne = ap (λ cs. up cs (slots_of l.links q)) written_is ∙ written_other rules l h f p some card q lq ne

  pub home_top : top_part 1 (contents rules l (Foundation f) count (90 + f))
      ≡ option_to_list (foundation_top rules f (length (contents rules l (Foundation f) count (90 + f))))
  home_top =
      let n : length (contents rules l (Foundation f) count (90 + f)) ≡ size_at l.links (90 + f) =
      length-up (cards_written rules l (Foundation f) count) (slots_of l.links (90 + f))
      ∙ sym (length-up l.cards (slots_of l.links (90 + f))) ∙ long l h (90 + f) in
      ap (λ cs. top_part 1 (up cs (slots_of l.links (90 + f)))) written_is ∙ written_top rules l h f p some card
      ∙ sym (ap option_to_list (foundation_some rules f (size_at l.links (90 + f)) some))
      ∙ ap (λ k. option_to_list (foundation_top rules f k)) (sym n)

  pub home_board : board_by l.shape l.redeals_left (contents rules l (Foundation f) count) (face_at l)
      ≡ board_by l.shape l.redeals_left (cards_at l) (face_at l)
  home_board =
      let sm = small_of l h in
      let lt = below_of _ _ p in let few = h.sized.small.foundations in
      let ex : (q : ℕ) → q < 315 → q ≢ 90 + f → contents rules l (Foundation f) count q ≡ cards_at l q = home_other in
      same_boards _ _ _ _ _ _ _ _ _ _ _ _ _ _ l.redeals_left _ _
      (piles_kept l.shape l.redeals_left (cards_at l) (contents rules l (Foundation f) count) (face_at l) (face_at l) sm
      (90 + f) ex (λ k lk e. absurd (omega arith)) (λ k lk. refl))
      (cells_kept l.shape l.redeals_left (cards_at l) (contents rules l (Foundation f) count) (face_at l) (face_at l) sm
      (90 + f) ex (λ k lk e. absurd (omega arith)))
      (entries_kept l.shape l.redeals_left (cards_at l) (contents rules l (Foundation f) count) (face_at l) (face_at l)
      sm (90 + f) ex (λ k lk e. absurd (omega arith)))
      (stock_kept l.shape l.redeals_left (cards_at l) (contents rules l (Foundation f) count) (face_at l) (face_at l) sm
      (90 + f) ex (λ e. absurd (omega arith)))
      (waste_kept l.shape l.redeals_left (cards_at l) (contents rules l (Foundation f) count) (face_at l) (face_at l) sm
      (90 + f) ex (λ e. absurd (omega arith)))
      (range_same _ _ 0 l.shape.foundations
      (λ k _ _. length-up (cards_written rules l (Foundation f) count) (slots_of l.links (90 + k))
      ∙ sym (length-up l.cards (slots_of l.links (90 + k)))))
      (hole_kept l.shape l.redeals_left (cards_at l) (contents rules l (Foundation f) count) (face_at l) (face_at l) sm
      (90 + f) ex (λ e. absurd (omega arith)))
      (slots_kept l.shape l.redeals_left (cards_at l) (contents rules l (Foundation f) count) (face_at l) (face_at l) sm
      (90 + f) ex (λ k lk e. absurd (omega arith)))

-- whatever place cards are taken from
module _ (rules : RuleParts) (l : Linked) (h : IsLinked l) (count : ℕ) where
  pub any_other : (from : Place) → IsTrue (is_place l.shape from) → OneTaken from count
      → 0 < size_at l.links (source_of rules.stacked l.shape from)
      → (q : ℕ) → q < 315 → q ≢ source_of rules.stacked l.shape from → contents rules l from count q ≡ cards_at l q
  any_other (Tableau i) p one some q lq ne = refl
  any_other (Cell i) p one some q lq ne = refl
  any_other (Reserve i) p one some q lq ne = refl
  any_other Waste p one some q lq ne = refl
  any_other (Foundation f) p one some q lq ne = home_other rules l h count f p one some q lq ne
  any_other Hole p one some q lq ne = refl
  any_other (Slot i) p one some q lq ne = refl

  pub any_board : (from : Place) → IsTrue (is_place l.shape from) → OneTaken from count
      → 0 < size_at l.links (source_of rules.stacked l.shape from)
      → board_by l.shape l.redeals_left (contents rules l from count) (face_at l)
      ≡ board_by l.shape l.redeals_left (cards_at l) (face_at l)
  any_board (Tableau i) p one some = refl
  any_board (Cell i) p one some = refl
  any_board (Reserve i) p one some = refl
  any_board Waste p one some = refl
  any_board (Foundation f) p one some = home_board rules l h count f p one some
  any_board Hole p one some = refl
  any_board (Slot i) p one some = refl

  pub any_top : (from : Place) → IsTrue (is_place l.shape from) → OneTaken from count
      → 0 < size_at l.links (source_of rules.stacked l.shape from) → (f : ℕ) → from ≡ Foundation f
      → top_part 1 (contents rules l from count (90 + f))
      ≡ option_to_list (foundation_top rules f (length (contents rules l from count (90 + f))))
  any_top (Tableau i) p one some f e = cc
  any_top (Cell i) p one some f e = cc
  any_top (Reserve i) p one some f e = cc
  any_top Waste p one some f e = cc
  any_top (Foundation g) p one some f e =
      let same : g ≡ f = cc in
      subst (λ k. top_part 1 (contents rules l (Foundation g) count (90 + k))
      ≡ option_to_list (foundation_top rules k (length (contents rules l (Foundation g) count (90 + k))))) same
      (home_top rules l h count g p one some)
  any_top Hole p one some f e = cc
  any_top (Slot i) p one some f e = cc

module _ (rules : RuleParts) (l : Linked) (h : IsLinked l) (from to : Place) (count : ℕ)
    (legal : IsTrue (is_legal_carry rules (board_of l) from to count)) where
  abbrev g : Linked
  g = gone rules l from to count

  abbrev C : ℕ → List Card
  C = contents rules l from count

  abbrev a : ℕ
  a = source_of rules.stacked l.shape from

  abbrev b : ℕ
  b = index_of to

  -- the cards while those that are carried lie nowhere
  abbrev mid : ℕ → List Card
  mid q =
      if nat_eq q (source_of rules.stacked l.shape from)
      then below_top count (contents rules l from count (source_of rules.stacked l.shape from))
      else contents rules l from count q

  abbrev was : Board
  was = board_by l.shape l.redeals_left C (face_at l)

  abbrev cards : List Card
  cards = top_part count (contents rules l from count (source_of rules.stacked l.shape from))

  abbrev less : Shape
  less = shape_after rules.stacked l.shape from

  it : CanCarry rules.stacked l from to count
  it = can rules l h from to count legal

  known : CarryFacts rules (board_of l) from to count
  known = facts rules l h from to count legal

  take : Takes from (cards_at l a) count
  take = takes rules l h from to count legal

  some_there : 0 < size_at l.links a
  some_there = let e = it.enough in let s = it.some in omega arith

  same_board : was ≡ board_of l
  same_board = any_board rules l h count from it.from_place take.one some_there

  takes_now : IsTrue (can_take rules was from count)
  takes_now = subst (λ x. IsTrue (can_take rules x from count)) (sym same_board) known.takes

  taken_now : taken rules was from count ≡ cards
  taken_now =
      taken_by rules l.shape l.redeals_left C (face_at l) from count it.from_place takes_now
      (any_top rules l h count from it.from_place take.one some_there)

  af : a < 315
  af = (can_shift rules.stacked l h from to count it).from_below

  bt : b < 315
  bt = (can_shift rules.stacked l h from to count it).to_below

  length_there : length (C a) ≡ size_at l.links a
  length_there =
      length-up (cards_written rules l from count) (slots_of l.links a)
      ∙ sym (length-up l.cards (slots_of l.links a)) ∙ long l h a

  single_there : AtSingle from (length (C a) ≤ 1)
  single_there =
      at_single from (size_at l.links a ≤ 1) (length (C a) ≤ 1) (λ fit. let n = length_there in omega arith)
      (one_at l h rules.stacked from it.from_place)

  cut : board_by less l.redeals_left mid (face_at g) ≡ without rules was from count
  cut =
      board_without rules l.shape l.redeals_left C mid (face_at l) (face_at g) (small_of l h) from count
      (place_again rules l.shape l.redeals_left (cards_at l) C (face_at l) (face_at l) from known.from_place)
      (λ q lq ne. if_there q a (below_top count (C a)) (C q) ne)
      (if_here a a (below_top count (C a)) (C a) refl)
      take.one
      single_there
      (λ k lk.
      faces_after l h rules.stacked from count it.from_place k lk
      ∙ ap (λ n. face_after from count n (face_at l k) k) (sym length_there))

  apart : b ≢ a
  apart e = it.apart (sym e)

  mid_there : mid b ≡ C b
  mid_there = if_there b a (below_top count (C a)) (C b) apart

  now_left : cards_at g a ≡ mid a
  now_left =
      cards_left (cards_written rules l from count) l.links h.chained a b count af bt it.apart it.some it.enough
      ∙ sym (if_here a a (below_top count (C a)) (C a) refl)

  now_there : cards_at g b ≡ mid b ++ cards
  now_there =
      cards_there (cards_written rules l from count) l.links h.chained a b count af bt it.apart it.some it.enough
      ∙ ap (λ xs. xs ++ cards) (sym mid_there)

  now_other : (q : ℕ) → q < 315 → q ≢ b → cards_at g q ≡ mid q
  now_other q lq nb = elim (cases_eq q a) [
    | inl e ↦ ap (cards_at g) e ∙ now_left ∙ ap mid (sym e)
    | inr na ↦
        cards_other (cards_written rules l from count) l.links h.chained a b count af bt it.apart it.some it.enough q lq
        na nb
        ∙ sym (if_there q a (below_top count (C a)) (C q) na)
  ]

  room_now : RoomFor to (mid b) cards
  room_now =
      let there : mid b ≡ cards_at l b =
      mid_there ∙ any_other rules l h count from it.from_place take.one some_there b bt apart in
      let took : taken rules (board_of l) from count ≡ cards =
      ap (λ x. taken rules x from count) (sym same_board) ∙ taken_now in
      subst (λ xs. RoomFor to xs cards) (sym there)
      (subst (RoomFor to (cards_at l b)) took (room rules l h from to count legal))

  place_now : IsTrue (has_place rules (board_by less l.redeals_left mid (face_at g)) to)
  place_now =
      place_after rules rules.stacked l.shape from l.redeals_left mid (face_at g) to (mid b) cards room_now
      (place_again rules l.shape l.redeals_left (cards_at l) mid (face_at l) (face_at g) to known.to_place)

  joined : board_by less l.redeals_left (cards_at g) (face_at g)
      ≡ with_cards (board_by less l.redeals_left mid (face_at g)) to cards
  joined =
      board_with rules less l.redeals_left mid (cards_at g) (face_at g) (face_at g)
      (small_after rules.stacked l.shape from (small_of l h)) to cards
      place_now
      now_other
      now_there
      room_now
      (λ k lk. refl)

  pub board_gone : board_of (gone rules l from to count) ≡ after rules (board_of l) (Carry from to count)
  board_gone =
      joined
      ∙ ap₂ (λ x xs. with_cards x to xs) cut (sym taken_now)
      ∙ ap (λ x. with_cards (without rules x from count) to (taken rules x from count)) same_board
