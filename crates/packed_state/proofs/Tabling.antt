-- A deal to the tableau is that of the board.
use Rattle.std.proofs.Common.{◌≡◌, ◌≢◌, ℕ, zero, suc, ◌+◌, ◌-◌, ◌<◌, ◌≤◌, min, Bool, true, false, List, [], ◌∷◌, ◌++◌}
use Rattle.std.proofs.Common.{length, map, reverse, get_or, refl, sym, ap, ap₂, ◌∙◌, subst, arith, inl, inr}
use Rattle.std.specs.Prelude.{IsTrue, Option, Some, None, nat_lt, nat_le, if◌then◌else◌}
use Rattle.std.specs.List.{list_all, range_with_len}
use Rattle.std.proofs.lemmas.Bool.{cases_eq, cases_lt}
use Rattle.std.proofs.lemmas.Bool.Decides.{nat_tests}
use Rattle.std.proofs.lemmas.List.{reverse-reverse, length-map}
use Rattle.card_piles.specs.declared.Card.{Card}
use Rattle.game_rules.specs.declared.RuleParts.{RuleParts}
use Rattle.game_rules.specs.declared.Target.TheVariants.{ToTableau}
use Rattle.game_rules.specs.Board.{Pile, top_of, top_part, below_top}
use Rattle.game_rules.specs.Play.{dealt_each, after_deal_to}
use Rattle.game_rules.proofs.Limits.{both}
use Rattle.game_rules.proofs.ListFacts.{and_both}
use Rattle.card_links.specs.Chains.{Chains, IsChained, size_at, slots_of, dealt_out, gathered}
use Rattle.card_links.proofs.Out.{Out, out, out_undone, ready_first, gathering}
use Rattle.packed_state.specs.declared.Shape.{Shape}
use Rattle.packed_state.specs.declared.Undo.TheVariants.{Dealt}
use Rattle.packed_state.specs.Packed.{Linked, IsLinked, is_inside, is_single, face_at, card_of, cards_at, board_of}
use Rattle.packed_state.specs.Packed.{no_card}
use Rattle.packed_state.specs.Turning.{dealt, have_tops}
use Rattle.packed_state.specs.Undoing.{before}
use Rattle.packed_state.proofs.Seams.{top-append, below-append}
use Rattle.packed_state.proofs.Ranges.{range_same, length-range}
use Rattle.packed_state.proofs.Contents.{up, up-append, length-up}
use Rattle.packed_state.proofs.Boards.{same_boards}
use Rattle.packed_state.proofs.Linking.{relinked, or_left, below_of}
use Rattle.packed_state.proofs.Carrying.{long}
use Rattle.packed_state.proofs.Dealing.{top_min, below_min, at_most_of}
use Rattle.packed_state.proofs.ListsTurned.{stock_list, up-reverse}

pile_inside : (sh : Shape) (p : ℕ) → p < sh.piles → is_inside sh p ≡ true
pile_inside sh p h =
    let t : nat_lt p sh.piles ≡ true = grind (arith, nat_tests) in
    or_left _ _ (or_left _ _ (or_left _ _ (or_left _ _ (or_left _ _ (or_left _ _ (or_left _ _ t))))))

low_single : (p : ℕ) → p < 20 → is_single p ≡ false
low_single p h = grind (arith, nat_tests)

module _ (l : Linked) (h : IsLinked l) (d : Chains) (n : ℕ) (few : n ≤ l.shape.piles) (chained : IsChained d)
    (other : (p : ℕ) → n ≤ p → p ≢ 89 → size_at d p ≡ size_at l.links p)
    (fit : (i : ℕ) → i < n → face_at l i ≤ size_at d i) where
  not_stock : (p : ℕ) → is_inside l.shape p ≡ false → p ≢ 89
  not_stock p out_p q = let i = (stock_list l).inside in let r : false ≡ true = sym out_p ∙ ap (is_inside l.shape) q
      ∙ i in cc

  not_pile : (p : ℕ) → is_inside l.shape p ≡ false → n ≤ p
  not_pile p out_p = elim (cases_lt p n) [
    | inl lp ↦ let r : false ≡ true = sym out_p ∙ pile_inside l.shape p (omega arith) in cc
    | inr ge ↦ ge
  ]

  not_low : (p : ℕ) → is_single p ≡ true → n ≤ p
  not_low p one = let f = h.sized.small.piles in elim (cases_lt p n) [
    | inl lp ↦ let r : true ≡ false = sym one ∙ low_single p (omega arith) in cc
    | inr ge ↦ ge
  ]

  pub piles_linked : IsLinked (relinked l d l.cards l.face_down)
  piles_linked = record {
    chained = chained;
    sized = h.sized;
    faces = λ i li. elim (cases_lt i n) [
      | inl lo ↦ fit i lo
      | inr hi ↦ let s = other i hi (λ q. absurd (omega arith)) in let f = h.faces i li in omega arith
    ];
    outside = λ p lp o. other p (not_pile p o) (not_stock p o) ∙ h.outside p lp o;
    singles = λ p lp one.
        let s = other p (not_low p one) (λ q. let m = (stock_list l).many in let r : true ≡ false = sym one
        ∙ ap is_single q ∙ m in cc) in
        let o = h.singles p lp one in omega arith;
  }

-- cards that are dealt one to each pile
dealt_is : (cs : List Card) (P Q : ℕ → Pile) (a m : ℕ) → length cs ≤ m
    → ((k : ℕ) → k < length cs
    → Q (a + k)
    ≡ record { cards = (P (a + k)).cards ++ get_or cs k no_card ∷ []; face_down = (P (a + k)).face_down })
    → ((k : ℕ) → length cs ≤ k → k < m → Q (a + k) ≡ P (a + k))
    → map Q (range_with_len a m) ≡ dealt_each cs (map P (range_with_len a m))
dealt_is [] P Q a m le got other =
    range_same P Q a m (λ i la lb. let e : a + (i - a) ≡ i = omega arith in
    subst (λ k. Q k ≡ P k) e (other (i - a) (omega arith) (omega arith)))
dealt_is (c ∷ cs) P Q a zero le got other = absurd (omega arith)
dealt_is (c ∷ cs) P Q a (suc m) le got other =
    let z : a + 0 ≡ a = omega arith in
    let first : Q a ≡ record { cards = (P a).cards ++ c ∷ []; face_down = (P a).face_down } =
    subst (λ k. Q k ≡ record { cards = (P k).cards ++ c ∷ []; face_down = (P k).face_down }) z (got 0 (omega arith)) in
    ap₂ ◌∷◌ first
    (dealt_is cs P Q (a + 1) m (omega arith)
    (λ k lk. let e : a + suc k ≡ a + 1 + k = omega arith in
    subst (λ j. Q j ≡ record { cards = (P j).cards ++ get_or cs k no_card ∷ []; face_down = (P j).face_down }) e
    (got (suc k) (omega arith)))
    (λ k lk lm. let e : a + suc k ≡ a + 1 + k = omega arith in
    subst (λ j. Q j ≡ P j) e (other (suc k) (omega arith) (omega arith))))

get_map : (cards : List Card) (xs : List ℕ) (k : ℕ) → k < length xs → get_or (map (card_of cards) xs) k no_card
    ≡ card_of cards (get_or xs k 0)
get_map cards [] k h = absurd (omega arith)
get_map cards (x ∷ xs) zero h = refl
get_map cards (x ∷ xs) (suc k) h = get_map cards xs k (omega arith)

module _ (l : Linked) (h : IsLinked l) where
  abbrev n : ℕ
  n = min (size_at l.links 89) l.shape.piles

  n_below : min (size_at l.links 89) l.shape.piles ≤ 89
  n_below = let f = h.sized.small.piles in omega arith

  o : Out l.links (dealt_out l.links 89 (min (size_at l.links 89) l.shape.piles)) 89
      (min (size_at l.links 89) l.shape.piles)
  o = out 89 (omega arith) l.links h.chained n n_below (omega arith)

  pub tableau_linked : IsLinked (dealt l (min (size_at l.links 89) l.shape.piles))
  tableau_linked =
      piles_linked l h (dealt_out l.links 89 n) n (omega arith) o.chained o.other
      (λ i li. let t = o.there i li in let p = h.sized.small.piles in let f = h.faces i (omega arith) in omega arith)

  abbrev next : Linked
  next = dealt l (min (size_at l.links 89) l.shape.piles)

  front_long : length (up l.cards o.front) ≡ n
  front_long = length-up l.cards o.front ∙ o.long

  split : cards_at l 89 ≡ cards_at next 89 ++ up l.cards o.front
  split = ap (up l.cards) o.rest ∙ up-append l.cards o.front (slots_of next.links 89)

  pub other_cards : (p : ℕ) → p < 315 → 20 ≤ p → p ≢ 89 → cards_at next p ≡ cards_at l p
  other_cards p lp hp np = let f = h.sized.small.piles in ap (up l.cards) (o.others p lp (omega arith) np)

  -- the cards in the order in which they are dealt
  abbrev cs : List Card
  cs = map (card_of l.cards) o.front

  cs_is : reverse (top_part l.shape.piles (cards_at l 89)) ≡ map (card_of l.cards) o.front
  cs_is =
      ap reverse (sym (top_min (cards_at l 89) (size_at l.links 89) l.shape.piles (sym (long l h 89)))
      ∙ ap (top_part n) split ∙ top-append (cards_at next 89) (up l.cards o.front) n front_long)
      ∙ sym (up-reverse l.cards o.front) ∙ ap (map (card_of l.cards)) (reverse-reverse o.front)

  cs_long : length (map (card_of l.cards) o.front) ≡ n
  cs_long = length-map o.front (card_of l.cards) ∙ o.long

  piles_are : (board_of next).piles
      ≡ dealt_each (reverse (top_part (length (board_of l).piles) (board_of l).stock)) (board_of l).piles
  piles_are =
      let f = h.sized.small.piles in
      let many = length-range (λ i. let r : Pile = record { cards = cards_at l i; face_down = face_at l i } in
      r) 0 l.shape.piles in
      let cl = cs_long in
      let fl = o.long in
      dealt_is (map (card_of l.cards) o.front) (λ i. record { cards = cards_at l i; face_down = face_at l i })
      (λ i. record { cards = cards_at next i; face_down = face_at l i }) 0 l.shape.piles (omega arith)
      (λ k lk.
      let z : k ≡ 0 + k = omega arith in
      let card : get_or (map (card_of l.cards) o.front) k no_card ≡ card_of l.cards (get_or o.front k 0) =
      get_map l.cards o.front k (omega arith) in
      let cards : cards_at next k ≡ cards_at l k ++ get_or (map (card_of l.cards) o.front) k no_card ∷ [] =
      ap (up l.cards) (o.got k (omega arith)) ∙ up-append l.cards (get_or o.front k 0 ∷ []) (slots_of l.links k)
      ∙ ap (λ x. cards_at l k ++ x ∷ []) (sym card) in
      subst (λ j. (let r : Pile = record { cards = cards_at next j; face_down = face_at l j } in r)
      ≡ record {
        cards = cards_at l j ++ get_or (map (card_of l.cards) o.front) k no_card ∷ [];
        face_down =
            face_at l j;
      }) z
      (ap (λ xs. let r : Pile = record { cards = xs; face_down = face_at l k } in r) cards))
      (λ k lk lm.
      let z : k ≡ 0 + k = omega arith in
      subst (λ j. (let r : Pile = record { cards = cards_at next j; face_down = face_at l j } in r)
      ≡ record { cards = cards_at l j; face_down = face_at l j }) z
      (ap (λ xs. let r : Pile = record { cards = up l.cards xs; face_down = face_at l k } in
      r) (o.others k (omega arith) (omega arith) (λ q. absurd (omega arith)))))
      ∙ ap (λ xs. dealt_each xs (board_of l).piles) (sym cs_is
      ∙ ap (λ k. reverse (top_part k (cards_at l 89))) (sym many))

  reserve_are : (board_of next).reserve ≡ (board_of l).reserve
  reserve_are = let f = h.sized.small.entries in
      range_same _ _ 0 l.shape.entries
      (λ i _ li. ap top_of (other_cards (36 + i) (omega arith) (omega arith) (λ q. absurd (omega arith))))

  pub tableau_board : (rules : RuleParts) → board_of (dealt l (min (size_at l.links 89) l.shape.piles))
      ≡ after_deal_to ToTableau rules (board_of l)
  tableau_board rules =
      let fc = h.sized.small.cells in let ff = h.sized.small.foundations in let fs = h.sized.small.slots in
      let many = length-range (λ i. let r : Pile = record { cards = cards_at l i; face_down = face_at l i } in
      r) 0 l.shape.piles in
      same_boards _ _ _ _ _ _ _ _ _ _ _ _ _ _ l.redeals_left _ _
      piles_are
      (range_same _ _ 0 l.shape.cells
      (λ i _ li. ap top_of (other_cards (20 + i) (omega arith) (omega arith) (λ q. absurd (omega arith)))))
      reserve_are
      (sym (ap (below_top n) split ∙ below-append (cards_at next 89) (up l.cards o.front) n front_long)
      ∙ below_min (cards_at l 89) (size_at l.links 89) l.shape.piles (sym (long l h 89))
      ∙ ap (λ k. below_top k (cards_at l 89)) (sym many))
      (other_cards 88 (omega arith) (omega arith) (λ q. absurd (omega arith)))
      (range_same _ _ 0 l.shape.foundations
      (λ i _ li. ap length (other_cards (90 + i) (omega arith) (omega arith) (λ q. absurd (omega arith)))))
      (other_cards 106 (omega arith) (omega arith) (λ q. absurd (omega arith)))
      (range_same _ _ 0 l.shape.slots
      (λ i _ li. ap top_of (other_cards (107 + i) (omega arith) (omega arith) (λ q. absurd (omega arith)))))

  fits : (a b : ℕ) → a ≤ b → IsTrue (nat_le a b)
  fits a b e = grind (arith, nat_tests)

  more : (a b : ℕ) → a < b → IsTrue (nat_lt a b)
  more a b e = grind (arith, nat_tests)

  each_of : (p : ℕ → Bool) (a m : ℕ) → ((i : ℕ) → a ≤ i → i < a + m → IsTrue (p i))
      → IsTrue (list_all p (range_with_len a m))
  each_of p a zero f = refl
  each_of p a (suc m) f =
      and_both (p a) _ (f a (omega arith) (omega arith))
      (each_of p (a + 1) m (λ i la lb. f i (omega arith) (omega arith)))

  have_again : IsTrue
      (have_tops (dealt l (min (size_at l.links 89) l.shape.piles)) (min (size_at l.links 89) l.shape.piles))
  have_again =
      and_both (nat_le n l.shape.piles) _ (fits n l.shape.piles (omega arith))
      (each_of (λ i. nat_lt (face_at l i) (size_at next.links i)) 0 n
      (λ i _ li. more (face_at l i) (size_at next.links i) (let t = o.there i (omega arith) in let p =
      h.sized.small.piles in let f = h.faces i (omega arith) in omega arith)))

  chosen : {X : Type 0} (b : Bool) (x : X) → IsTrue b → (if b then Some x else None) ≡ Some x
  chosen true x e = refl
  chosen false x e = cc

  pub tableau_back : before (Dealt ToTableau (min (size_at l.links 89) l.shape.piles))
      (dealt l (min (size_at l.links 89) l.shape.piles)) ≡ Some l
  tableau_back =
      chosen (have_tops next n) _ have_again
      ∙ ap (λ k. let y : Option Linked = Some (relinked l k l.cards l.face_down) in
      y) (out_undone 89 (omega arith) l.links h.chained n n_below (omega arith))

-- what the test of a deal that is taken back says
each_was : (p : ℕ → Bool) (a m i : ℕ) → IsTrue (list_all p (range_with_len a m)) → a ≤ i → i < a + m → IsTrue (p i)
each_was p a zero i f la lb = absurd (omega arith)
each_was p a (suc m) i f la lb =
    let t = both (p a) (list_all p (range_with_len (a + 1) m)) f in
    elim (cases_eq i a) [
      | inl e ↦ subst (λ x. IsTrue (p x)) (sym e) t.0
      | inr ne ↦ each_was p (a + 1) m i t.1 (omega arith) (omega arith)
    ]

module _ (c d : Linked) (view : c ≡ d) (h : IsLinked c) (n : ℕ) (have : IsTrue (have_tops d n)) where
  have_here : IsTrue (have_tops c n)
  have_here = subst (λ x. IsTrue (have_tops x n)) (sym view) have

  pub few_here : n ≤ c.shape.piles
  few_here = let t = both (nat_le n c.shape.piles) _ have_here in at_most_of n c.shape.piles t.0

  pub below_here : n ≤ 89
  below_here = let f = few_here in let p = h.sized.small.piles in omega arith

  up_here : (i : ℕ) → i < n → face_at c i < size_at c.links i
  up_here i li =
      let t = both (nat_le n c.shape.piles) _ have_here in
      below_of _ _ (each_was (λ k. nat_lt (face_at c k) (size_at c.links k)) 0 n i t.1 (omega arith) (omega arith))

  pub some_here : (i : ℕ) → i < n → 1 ≤ size_at c.links i
  some_here i li = let u = up_here i li in omega arith

  pub undealt_made : (k : Chains) → k ≡ gathered c.links 89 n → IsLinked (relinked c k c.cards c.face_down)
  undealt_made k e =
      let g = gathering 89 (omega arith) n c.links below_here (ready_first c.links n h.chained some_here) in
      subst (λ x. IsLinked (relinked c x c.cards c.face_down)) (sym e)
      (piles_linked c h (gathered c.links 89 n) n few_here g.chained g.other
      (λ i li. let u = up_here i li in let s = g.less i li in omega arith))

module _ (c d : Linked) (view : c ≡ d) (h : IsLinked c) where
  pub dealt_made : (k : Chains) (size n : ℕ) → size ≡ size_at c.links 89 → n ≡ min size c.shape.piles
      → k ≡ dealt_out c.links 89 n → IsLinked (relinked c k c.cards c.face_down)
  dealt_made k size n es en e =
      let at : n ≡ min (size_at c.links 89) c.shape.piles = en ∙ ap (λ x. min x c.shape.piles) es in
      subst (λ x. IsLinked (relinked c x c.cards c.face_down)) (sym (e ∙ ap (dealt_out c.links 89) at))
      (tableau_linked c h)

  pub dealt_low : (size n : ℕ) → n ≡ min size c.shape.piles → n ≤ 89
  dealt_low size n e = let f = h.sized.small.piles in omega arith
