-- The card with so many above it is that of the slot so many links down.
use Rattle.std.proofs.Common.{◌≡◌, ◌≢◌, ℕ, zero, suc, ◌+◌, ◌-◌, ◌<◌, ◌≤◌, true, false, List, [], ◌∷◌, ◌++◌}
use Rattle.std.proofs.Common.{length, map, refl, sym, ap, ◌∙◌, subst, arith, inl, inr}
use Rattle.std.specs.Prelude.{Option, Some, None, slice_get, nat_lt, nat_eq, if◌then◌else◌}
use Rattle.std.specs.List.{range_with_len}
use Rattle.std.specs.Option.{unwrap_or}
use Rattle.std.proofs.lemmas.Bool.{cases_lt}
use Rattle.std.proofs.lemmas.Bool.Decides.{nat_tests}
use Rattle.std.proofs.lemmas.List.{get_or_past}
use Rattle.card_piles.specs.declared.Card.{Card}
use Rattle.game_rules.specs.Board.{Pile, pile_at, entry_at, empty_pile, top_of}
use Rattle.card_links.specs.Chains.{link, follow, chain, top_at, size_at, slot_at}
use Rattle.card_links.proofs.Following.{length-chain}
use Rattle.packed_state.specs.Packed.{Linked, cards_at, card_of, face_at, board_of}
use Rattle.packed_state.specs.Spots.{under_top, in_entry, in_reserve}
use Rattle.packed_state.proofs.Seams.{get-seam}
use Rattle.packed_state.proofs.Ranges.{length-range, range_get}
use Rattle.packed_state.proofs.Boards.{part_at}
use Rattle.packed_state.proofs.Contents.{up, up-append, length-up}

get-left : (xs ys : List Card) (i : ℕ) → i < length xs → slice_get (xs ++ ys) i ≡ slice_get xs i
get-left [] ys i h = absurd (omega arith)
get-left (x ∷ xs) ys zero h = refl
get-left (x ∷ xs) ys (suc i) h = get-left xs ys i (omega arith)

long-up : (cards : List Card) (under : List ℕ) (n t : ℕ) → length (up cards (chain under n t)) ≡ n
long-up cards under n t = length-up cards (chain under n t) ∙ length-chain under n t

depth_up : (cards : List Card) (under : List ℕ) (n t k i : ℕ) → k < n → i ≡ n - 1 - k
    → slice_get (up cards (chain under n t)) i ≡ Some (card_of cards (follow under k t))
depth_up cards under zero t k i h e = absurd (omega arith)
depth_up cards under (suc n) t zero i h e =
    let l = long-up cards under n (link under t) in
    ap (λ xs. slice_get xs i) (up-append cards (t ∷ []) (chain under n (link under t)))
    ∙ get-seam (up cards (chain under n (link under t))) (card_of cards t) i (omega arith)
depth_up cards under (suc n) t (suc k) i h e =
    let l = long-up cards under n (link under t) in
    ap (λ xs. slice_get xs i) (up-append cards (t ∷ []) (chain under n (link under t)))
    ∙ get-left (up cards (chain under n (link under t))) (card_of cards t ∷ []) i (omega arith)
    ∙ depth_up cards under n (link under t) k i (omega arith) (omega arith)

test_yes : (a b : ℕ) (x y : Option Card) → a < b → (if nat_lt a b then x else y) ≡ x
test_yes a b x y h = grind (arith, nat_tests)

test_no : (a b : ℕ) (x y : Option Card) → b ≤ a → (if nat_lt a b then x else y) ≡ y
test_no a b x y h = grind (arith, nat_tests)

module _ (l : Linked) (p k : ℕ) where
  long_here : length (cards_at l p) ≡ size_at l.links p
  long_here = long-up l.cards l.links.under (size_at l.links p) (top_at l.links p)

  pub deep_some : k < size_at l.links p → under_top (cards_at l p) k ≡ Some (card_of l.cards (slot_at l.links p k))
  deep_some h =
      let n = long_here in
      test_yes k (length (cards_at l p)) _ _ (omega arith)
      ∙ depth_up l.cards l.links.under (size_at l.links p) (top_at l.links p) k (length (cards_at l p) - 1 - k) h
      (omega arith)

  pub deep_none : size_at l.links p ≤ k → under_top (cards_at l p) k ≡ None
  deep_none h = let n = long_here in test_no k (length (cards_at l p)) _ _ (omega arith)

-- what the code of a reader makes
module _ (c d : Linked) (view : c ≡ d) (p k : ℕ) where
  pub reads_some : (size slot : ℕ) (card : Card) → size ≡ size_at c.links p → k < size → slot ≡ slot_at c.links p k
      → card ≡ card_of d.cards slot
      → Some card ≡ under_top (cards_at d p) k
  reads_some size slot card es lt el ec =
      let s : size_at c.links p ≡ size_at d.links p = ap (λ x. size_at x.links p) view in
      let same : card ≡ card_of d.cards (slot_at d.links p k) = ec
      ∙ ap (card_of d.cards) (el ∙ ap (λ x. slot_at x.links p k) view) in
      ap (λ x. let y : Option Card = Some x in y) same ∙ sym (deep_some d p k (omega arith))

  pub reads_none : (size : ℕ) → size ≡ size_at c.links p → size ≤ k → None ≡ under_top (cards_at d p) k
  reads_none size es le =
      let s : size_at c.links p ≡ size_at d.links p = ap (λ x. size_at x.links p) view in
      sym (deep_none d p k (omega arith))

-- parts of the board, as they are read
under_empty : (k : ℕ) → under_top {A = Card} [] k ≡ None
under_empty k = test_no k 0 _ _ (omega arith)

module _ (l : Linked) (i depth : ℕ) where
  abbrev pile_by : ℕ → Pile
  pile_by k = record { cards = cards_at l k; face_down = face_at l k }

  pub pile_read : i < l.shape.piles → under_top (cards_at l i) depth ≡ under_top (pile_at (board_of l) i).cards depth
  pile_read h = ap (λ (q : Pile). under_top q.cards depth) (sym (part_at pile_by l.shape.piles i empty_pile h))

  pub pile_missing : l.shape.piles ≤ i → None ≡ under_top (pile_at (board_of l) i).cards depth
  pile_missing h =
      let n = length-range pile_by 0 l.shape.piles in
      sym (ap (λ (q : Pile). under_top q.cards depth)
      (get_or_past (map pile_by (range_with_len 0 l.shape.piles)) i empty_pile (omega arith)) ∙ under_empty depth)

  entry_none : in_entry None depth ≡ None
  entry_none =
      elim (nat_eq depth 0) as (λ b. (if b then None else None) ≡ (let x : Option Card = None in x)) [
        | true ↦
            refl
        | false ↦ refl
      ]

  pub entry_read : (base n : ℕ) → (if nat_lt i n then in_entry (top_of (cards_at l (base + i))) depth else None)
      ≡ in_entry (entry_at (map (λ k. top_of (cards_at l (base + k))) (range_with_len 0 n)) i) depth
  entry_read base n = elim (cases_lt i n) [
    | inl h ↦
        test_yes i n _ _ h ∙ ap (λ e. in_entry e depth) (sym (part_at (λ k. top_of (cards_at l (base + k))) n i None h))
    | inr h ↦
        let long = length-range (λ k. top_of (cards_at l (base + k))) 0 n in
        test_no i n _ _ h ∙ sym entry_none
        ∙ ap (λ e. in_entry e depth)
        (sym (get_or_past (map (λ k. top_of (cards_at l (base + k))) (range_with_len 0 n)) i None (omega arith)))
  ]

unwrap_yes : (a b : ℕ) (o : Option (Option Card)) → a < b → unwrap_or (if nat_lt a b then o else None) None
    ≡ unwrap_or o None
unwrap_yes a b o h = grind (arith, nat_tests)

unwrap_no : (a b : ℕ) (o : Option (Option Card)) → b ≤ a → unwrap_or (if nat_lt a b then o else None) None ≡ None
unwrap_no a b o h = grind (arith, nat_tests)

module _ (l : Linked) (i depth : ℕ) where
  entries_long : length (board_of l).reserve ≡ l.shape.entries
  entries_long = length-range (λ k. top_of (cards_at l (36 + k))) 0 l.shape.entries

  pub reserve_single : l.stacked ≡ false
      → (if nat_lt i l.shape.entries then in_entry (top_of (cards_at l (36 + i))) depth else None)
      ≡ in_reserve l.stacked (board_of l).reserve i depth
  reserve_single e = rw e (entry_read l i depth 36 l.shape.entries)

  -- the entries of a stacked reserve, from the last one down
  list_read : depth < l.shape.entries
      → unwrap_or (under_top (board_of l).reserve depth) None ≡ top_of (cards_at l (36 + (l.shape.entries - 1 - depth)))
  list_read h =
      let long = entries_long in
      let index : length (board_of l).reserve - 1 - depth ≡ l.shape.entries - 1 - depth = omega arith in
      let none : 0 + (l.shape.entries - 1 - depth) ≡ l.shape.entries - 1 - depth = omega arith in
      unwrap_yes depth (length (board_of l).reserve) _ (omega arith)
      ∙ ap (λ (n : ℕ). unwrap_or (slice_get (board_of l).reserve n) None) index
      ∙ ap (λ (o : Option (Option Card)). unwrap_or o None)
      (range_get (λ k. top_of (cards_at l (36 + k))) 0 l.shape.entries (l.shape.entries - 1 - depth) (omega arith))
      ∙ ap (λ (n : ℕ). top_of (cards_at l (36 + n))) none

  list_past : l.shape.entries ≤ depth → unwrap_or (under_top (board_of l).reserve depth) None ≡ None
  list_past h = let long = entries_long in unwrap_no depth (length (board_of l).reserve) _ (omega arith)

  pub reserve_list : l.stacked ≡ true → i ≡ 0 → depth < l.shape.entries
      → top_of (cards_at l (36 + (l.shape.entries - 1 - depth))) ≡ in_reserve l.stacked (board_of l).reserve i depth
  reserve_list e z h =
      let zero_test : nat_eq i 0 ≡ true = grind (arith, nat_tests) in
      rw (e, zero_test) (sym (list_read h))

  pub reserve_past : l.stacked ≡ true → l.shape.entries ≤ depth
      → None ≡ in_reserve l.stacked (board_of l).reserve i depth
  reserve_past e h =
      rw (e, list_past h)
      (elim (nat_eq i 0) as (λ b. (let x : Option Card = None in x) ≡ (if b then None else None)) [
        | true ↦
            refl
        | false ↦ refl
      ])

  pub reserve_none : l.stacked ≡ true → i ≢ 0 → None ≡ in_reserve l.stacked (board_of l).reserve i depth
  reserve_none e nz =
      let not_zero : nat_eq i 0 ≡ false = grind (arith, nat_tests) in
      rw (e, not_zero) refl

-- what the code of the readers makes
module _ (c d : Linked) (view : c ≡ d) (i depth : ℕ) where
  pub made_single : (r : Option Card) → c.stacked ≡ false
      → r ≡ (if nat_lt i c.shape.entries then in_entry (top_of (cards_at d (36 + i))) depth else None)
      → r ≡ in_reserve d.stacked (board_of d).reserve i depth
  made_single r e f =
      f ∙ ap (λ x. let o : Option Card =
      (if nat_lt i x.shape.entries then in_entry (top_of (cards_at d (36 + i))) depth else None) in o) view
      ∙ reserve_single d i depth (sym (ap (λ x. x.stacked) view) ∙ e)

  pub made_list : (r : Option Card) (k : ℕ) → c.stacked ≡ true → i ≡ 0 → depth < c.shape.entries
      → k ≡ c.shape.entries - 1 - depth → r ≡ top_of (cards_at d (36 + k))
      → r ≡ in_reserve d.stacked (board_of d).reserve i depth
  made_list r k e z h ek f =
      let same : k ≡ d.shape.entries - 1 - depth = ek ∙ ap (λ x. x.shape.entries - 1 - depth) view in
      f ∙ ap (λ (n : ℕ). top_of (cards_at d (36 + n))) same
      ∙ reserve_list d i depth (sym (ap (λ x. x.stacked) view) ∙ e) z (subst (λ x. depth < x.shape.entries) view h)

  pub made_past : c.stacked ≡ true → c.shape.entries ≤ depth → None ≡ in_reserve d.stacked (board_of d).reserve i depth
  made_past e h =
      reserve_past d i depth (sym (ap (λ x. x.stacked) view) ∙ e) (subst (λ x. x.shape.entries ≤ depth) view h)

  pub made_none : c.stacked ≡ true → i ≢ 0 → None ≡ in_reserve d.stacked (board_of d).reserve i depth
  made_none e nz = reserve_none d i depth (sym (ap (λ x. x.stacked) view) ∙ e) nz

  pub made_pile : (r : Option Card) (p : ℕ) → i < c.shape.piles → p ≡ i → r ≡ under_top (cards_at d p) depth
      → r ≡ under_top (pile_at (board_of d) i).cards depth
  made_pile r p h e f = f ∙ ap (λ x. under_top (cards_at d x) depth) e
      ∙ pile_read d i depth (subst (λ x. i < x.shape.piles) view h)

  pub made_no_pile : c.shape.piles ≤ i → None ≡ under_top (pile_at (board_of d) i).cards depth
  made_no_pile h = pile_missing d i depth (subst (λ x. x.shape.piles ≤ i) view h)

  pub made_cell : (r : Option Card)
      → r ≡ (if nat_lt i c.shape.cells then in_entry (top_of (cards_at d (20 + i))) depth else None)
      → r ≡ in_entry (entry_at (board_of d).cells i) depth
  made_cell r f =
      f ∙ ap (λ x. let o : Option Card =
      (if nat_lt i x.shape.cells then in_entry (top_of (cards_at d (20 + i))) depth else None) in o) view
      ∙ entry_read d i depth 20 d.shape.cells

  pub made_slot : (r : Option Card)
      → r ≡ (if nat_lt i c.shape.slots then in_entry (top_of (cards_at d (107 + i))) depth else None)
      → r ≡ in_entry (entry_at (board_of d).slots i) depth
  made_slot r f =
      f ∙ ap (λ x. let o : Option Card =
      (if nat_lt i x.shape.slots then in_entry (top_of (cards_at d (107 + i))) depth else None) in o) view
      ∙ entry_read d i depth 107 d.shape.slots
