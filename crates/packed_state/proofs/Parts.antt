-- A packed board as a table: what the tops of its places and its chains are on the board.
use Rattle.std.proofs.Common.{◌≡◌, ◌≢◌, ℕ, zero, suc, ◌+◌, ◌-◌, ◌<◌, List, [], ◌∷◌, length}
use Rattle.std.proofs.Common.{refl, sym, ap, ◌∙◌, subst, arith}
use Rattle.std.specs.Prelude.{Option, Some, None}
use Rattle.std.specs.Option.{unwrap_or}
use Rattle.std.proofs.lemmas.Option.{unwrap_or-slice_get}
use Rattle.card_piles.specs.declared.Card.{Card}
use Rattle.card_links.specs.Chains.{link, chain, follow, top_at, size_at}
use Rattle.game_rules.specs.Board.{Pile, pile_at, entry_at, empty_pile, top_of, below_top}
use Rattle.packed_state.specs.declared.table.Chain.{Chain}
use Rattle.packed_state.specs.Packed.{Linked, IsLinked, card_of, cards_at, face_at, board_of}
use Rattle.packed_state.specs.Piles.{IsPart, part_cards}
use Rattle.packed_state.proofs.Seams.{below-append}
use Rattle.packed_state.proofs.Ranges.{length-range}
use Rattle.packed_state.proofs.Contents.{up, up-append}
use Rattle.packed_state.proofs.Tops.{up_last}
use Rattle.packed_state.proofs.Boards.{part_at}

abbrev pub part : ℕ → ℕ → Chain
part slot left = record { slot = slot; left = left }

-- a pile by its number
abbrev pile_by : Linked → ℕ → Pile
pile_by l k = record { cards = cards_at l k; face_down = face_at l k }

module _ (d : Linked) (h : IsLinked d) (i : ℕ) where
  -- the parts of a board, as long as the code says
  pub pile_low : i < length (board_of d).piles → i < 20
  pile_low lt =
      let n = length-range (pile_by d) 0 d.shape.piles in let f = h.sized.small.piles in omega arith

  pub cell_low : i < length (board_of d).cells → i < 16
  cell_low lt =
      let n = length-range (λ k. top_of (cards_at d (20 + k))) 0 d.shape.cells in let f = h.sized.small.cells in
      omega arith

  pub entry_low : i < length (board_of d).reserve → i < 52
  entry_low lt =
      let n = length-range (λ k. top_of (cards_at d (36 + k))) 0 d.shape.entries in let f = h.sized.small.entries in
      omega arith

  pub slot_low : i < length (board_of d).slots → i < 208
  slot_low lt =
      let n = length-range (λ k. top_of (cards_at d (107 + k))) 0 d.shape.slots in let f = h.sized.small.slots in
      omega arith

  -- and what they hold
  pub pile_cards : i < length (board_of d).piles → cards_at d i ≡ (pile_at (board_of d) i).cards
  pile_cards lt =
      let n = length-range (pile_by d) 0 d.shape.piles in
      sym (ap (λ (p : Pile). p.cards) (part_at (pile_by d) d.shape.piles i empty_pile (omega arith)))

  pub cell_top : i < length (board_of d).cells → top_of (cards_at d (20 + i)) ≡ entry_at (board_of d).cells i
  cell_top lt =
      let n = length-range (λ k. top_of (cards_at d (20 + k))) 0 d.shape.cells in
      sym (part_at (λ k. top_of (cards_at d (20 + k))) d.shape.cells i None (omega arith))

  pub entry_top : i < length (board_of d).reserve → top_of (cards_at d (36 + i)) ≡ entry_at (board_of d).reserve i
  entry_top lt =
      let n = length-range (λ k. top_of (cards_at d (36 + k))) 0 d.shape.entries in
      sym (part_at (λ k. top_of (cards_at d (36 + k))) d.shape.entries i None (omega arith))

  pub slot_top : i < length (board_of d).slots → top_of (cards_at d (107 + i)) ≡ entry_at (board_of d).slots i
  slot_top lt =
      let n = length-range (λ k. top_of (cards_at d (107 + k))) 0 d.shape.slots in
      sym (part_at (λ k. top_of (cards_at d (107 + k))) d.shape.slots i None (omega arith))

-- a whole pile
module _ (c d : Linked) (view : c ≡ d) (h : IsLinked d) (i : ℕ) where
  pub whole_part : (slot left : ℕ) → i < length (board_of d).piles → slot ≡ top_at c.links i → left ≡ size_at c.links i
      → IsPart d (part slot left)
  whole_part slot left lt e f = λ k lk.
      let low = pile_low d h i lt in
      let size : size_at c.links i ≡ size_at d.links i = ap (λ x. size_at x.links i) view in
      let inside = h.chained.within i k (omega arith) (omega arith) in
      let fits = h.chained.fits in
      let same : follow d.links.under k slot ≡ follow d.links.under k (top_at d.links i) =
      ap (follow d.links.under k) (e ∙ ap (λ x. top_at x.links i) view) in
      omega arith

  pub whole_cards : (slot left : ℕ) → i < length (board_of d).piles → slot ≡ top_at c.links i → left ≡ size_at c.links i
      → part_cards d (part slot left) ≡ (pile_at (board_of d) i).cards
  whole_cards slot left lt e f =
      ap (λ s. up d.cards (chain d.links.under left s)) (e ∙ ap (λ x. top_at x.links i) view)
      ∙ ap (λ n. up d.cards (chain d.links.under n (top_at d.links i))) (f ∙ ap (λ x. size_at x.links i) view)
      ∙ pile_cards d h i lt

-- how many entries, and the last of them
pub entries_long : (c d : Linked) → c ≡ d → c.shape.entries ≡ length (board_of d).reserve
entries_long c d view =
    ap (λ x. x.shape.entries) view ∙ sym (length-range (λ k. top_of (cards_at d (36 + k))) 0 d.shape.entries)

no_entry : (xs : List (Option Card)) → length xs ≡ 0 → None ≡ unwrap_or (top_of xs) None
no_entry [] e = refl
no_entry (x ∷ xs) e = absurd (omega arith)

pub last_none : (c d : Linked) → c ≡ d → c.shape.entries ≡ 0 → None ≡ unwrap_or (top_of (board_of d).reserve) None
last_none c d view none = let n = entries_long c d view in no_entry (board_of d).reserve (omega arith)

pub last_some : (c d : Linked) → c ≡ d → IsLinked d → c.shape.entries ≢ 0
    → top_of (cards_at d (36 + (c.shape.entries - 1))) ≡ unwrap_or (top_of (board_of d).reserve) None
last_some c d view h some =
    let n = entries_long c d view in
    let e : c.shape.entries - 1 ≡ length (board_of d).reserve - 1 = omega arith in
    ap (λ k. top_of (cards_at d (36 + k))) e
    ∙ entry_top d h (length (board_of d).reserve - 1) (omega arith)
    ∙ sym (unwrap_or-slice_get (board_of d).reserve (length (board_of d).reserve - 1) None)

-- the card on top of a part, and the part under it
pub part_slot : (l : Linked) (p : Chain) → IsPart l p → p.left ≢ 0 → p.slot < 208
part_slot l p h some = h 0 (omega arith)

pub part_none : (l : Linked) (p : Chain) → p.left ≡ 0 → part_cards l p ≡ []
part_none l p e = ap (λ n. up l.cards (chain l.links.under n p.slot)) e

pub part_top : (l : Linked) (p : Chain) → p.left ≢ 0 → Some (card_of l.cards p.slot) ≡ top_of (part_cards l p)
part_top l p some = sym (up_last l.cards l.links.under p.left p.slot (omega arith))

pub part_under : (l : Linked) (p : Chain) (slot left : ℕ) → IsPart l p → p.left ≢ 0 → slot ≡ link l.links.under p.slot
    → left ≡ p.left - 1 → IsPart l (part slot left)
part_under l p slot left h some e f = λ k lk.
    let inside : follow l.links.under (suc k) p.slot < 208 = h (suc k) (omega arith) in
    subst (λ s. follow l.links.under k s < 208) (sym e) inside

under_cards : (cards : List Card) (under : List ℕ) (n m slot : ℕ) → n ≡ suc m
    → up cards (chain under m (link under slot)) ≡ below_top 1 (up cards (chain under n slot))
under_cards cards under zero m slot e = absurd (omega arith)
under_cards cards under (suc n) m slot e =
    let same : m ≡ n = omega arith in
    let rest : List Card = up cards (chain under n (link under slot)) in
    ap (λ k. up cards (chain under k (link under slot))) same
    ∙ sym (ap (below_top 1) (up-append cards (slot ∷ []) (chain under n (link under slot)))
    ∙ below-append rest (card_of cards slot ∷ []) 1 refl)

pub part_rest : (l : Linked) (p : Chain) (slot left : ℕ) → p.left ≢ 0 → slot ≡ link l.links.under p.slot
    → left ≡ p.left - 1 → part_cards l (part slot left) ≡ below_top 1 (part_cards l p)
part_rest l p slot left some e f =
    ap (λ s. up l.cards (chain l.links.under left s)) e
    ∙ under_cards l.cards l.links.under p.left left p.slot (omega arith)
