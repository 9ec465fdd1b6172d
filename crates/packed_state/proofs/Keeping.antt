-- Each foundation still holds the cards that the rules say.
use Rattle.std.proofs.Common.{◌≡◌, ◌≢◌, ℕ, ◌+◌, ◌-◌, ◌%◌, ◌<◌, ◌≤◌, Bool, true, false, ◌&&◌, ◌||◌, List, []}
use Rattle.std.proofs.Common.{◌∷◌, ◌++◌, length, map}
use Rattle.std.proofs.Common.{reverse, set, refl, sym, ap, ap₂, ◌∙◌, subst, arith, inl, inr, mod-eq_of_lt}
use Rattle.std.specs.Prelude.{Option, Some, None, IsTrue, not, is_some, nat_eq, nat_lt, if◌then◌else◌}
use Rattle.std.specs.List.{range_with_len}
use Rattle.std.specs.Option.{option_to_list}
use Rattle.std.proofs.lemmas.Bool.{cases_eq, eqb-true}
use Rattle.std.proofs.lemmas.List.{set-get_or, reverse-append}
use Rattle.std.proofs.lemmas.List.FromFn.{map-range_with_len_more}
use Rattle.card_piles.specs.declared.Card.{Card}
use Rattle.card_piles.specs.declared.Suit.{Suit}
use Rattle.card_piles.specs.Cards.{place_of}
use Rattle.game_rules.specs.declared.RuleParts.{RuleParts}
use Rattle.game_rules.specs.declared.Place.{Place}
use Rattle.game_rules.specs.declared.Place.TheVariants.{Tableau, Cell, Reserve, Waste, Foundation, Hole, Slot}
use Rattle.game_rules.specs.Rules.{base_of, takes_back, takes_complete_runs, moves_groups, is_started, foundation_rank}
use Rattle.game_rules.specs.Rules.{foundation_suit}
use Rattle.game_rules.specs.Conflicts.{builds_runs, has_no_complete_runs}
use Rattle.game_rules.specs.Playable.{IsPlayable}
use Rattle.game_rules.specs.Board.{height_at, suit_at, top_of, top_part, below_top, foundation_card, foundation_cards}
use Rattle.game_rules.specs.Board.{foundation_top}
use Rattle.game_rules.specs.Taking.{taken, can_take}
use Rattle.game_rules.specs.Putting.{can_put, is_next_on, is_complete_run, falls_in_suit}
use Rattle.game_rules.specs.Play.{is_legal_carry}
use Rattle.game_rules.proofs.Limits.{both, past, was_false}
use Rattle.game_rules.proofs.ListFacts.{map-range-same}
use Rattle.game_rules.proofs.Copies.{foundation-grows}
use Rattle.game_rules.proofs.Rooms.{suit-at_place, card-by_parts}
use Rattle.game_rules.proofs.KeepsBelonging.{base-of_runs}
use Rattle.card_links.specs.Chains.{top_at, size_at, slot_at, slots_of}
use Rattle.packed_state.specs.declared.Shape.{Shape}
use Rattle.packed_state.specs.Packed.{Linked, IsLinked, index_of, source_of, shape_after, is_place, cards_at, card_of}
use Rattle.packed_state.specs.Packed.{no_card}
use Rattle.packed_state.specs.Packed.{board_of, face_at, home_cards, HoldsFoundations}
use Rattle.packed_state.specs.Undoing.{CanCarry, with_card, written, first_slot, gone}
use Rattle.packed_state.proofs.Seams.{top-seam, below-append, length-top}
use Rattle.packed_state.proofs.Contents.{up, cards_left, cards_there, cards_other}
use Rattle.packed_state.proofs.Tops.{size_is, up_last}
use Rattle.packed_state.proofs.Linking.{can_shift, from_size, to_size, other_size, below_of}
use Rattle.packed_state.proofs.Moving.{height_is, taken_by, top_list}
use Rattle.packed_state.proofs.Carrying.{can, facts, foundation_some}

-- playable rules that take complete runs take nothing back
second_of : (a b c d e f : Bool) → (a && (not b || c || d || not e || not f)) ≡ false → a ≡ true → d ≡ false
second_of true b c false e f h k = refl
second_of true true true true e f h k = cc
second_of true true false true e f h k = cc
second_of true false c true e f h k = cc
second_of false b c d e f h k = cc

none_back : (rules : RuleParts) → IsPlayable rules → takes_complete_runs rules.goal ≡ true
    → takes_back rules.goal ≡ false
none_back rules h e =
    let none : has_no_complete_runs rules ≡ false =
    was_false (has_no_complete_runs rules) 7 _
    (past _ 6 _ (past _ 5 _ (past _ 4 _ (past _ 3 _ (past _ 2 _ h.no_conflict))))) in
    second_of (takes_complete_runs rules.goal) (nat_eq (base_of rules.goal) 1) (is_started rules.goal)
    (takes_back rules.goal)
    (moves_groups rules.groups) (builds_runs rules.group_build) none e

single_cards : (v : Bool) (rules : RuleParts) (f n : ℕ) → v ≡ false
    → (if v then reverse (foundation_cards rules f n) else foundation_cards rules f n) ≡ foundation_cards rules f n
single_cards true rules f n e = cc
single_cards false rules f n e = refl

run_cards : (v : Bool) (rules : RuleParts) (f n : ℕ) → v ≡ true
    → (if v then reverse (foundation_cards rules f n) else foundation_cards rules f n)
    ≡ reverse (foundation_cards rules f n)
run_cards true rules f n e = refl
run_cards false rules f n e = cc

cases_of : (v : Bool) (P : Type 0) → (v ≡ true → P) → (v ≡ false → P) → P
cases_of true P f g = f refl
cases_of false P f g = g refl

no_cards : (v : Bool) (rules : RuleParts) (f : ℕ)
    → (if v then reverse (foundation_cards rules f 0) else foundation_cards rules f 0) ≡ []
no_cards true rules f = refl
no_cards false rules f = refl

-- a complete run lies as a foundation of complete runs does
abbrev suit_cards : Suit → ℕ → List Card
suit_cards suit n = map (λ p. record { suit = suit; rank = p + 1 }) (range_with_len 0 n)

suit_cards-grow : (suit : Suit) (n : ℕ)
    → suit_cards suit (n + 1) ≡ suit_cards suit n ++ record { suit = suit; rank = n + 1 } ∷ []
suit_cards-grow suit n =
    map-range_with_len_more (λ (p : ℕ). let card : Card = record { suit = suit; rank = p + 1 } in
    card) 0 n n (omega arith)

run_is : (f r : ℕ) (cards : List Card) → IsTrue (falls_in_suit f r cards) → length cards ≡ r
    → cards ≡ reverse (suit_cards (suit_at (foundation_suit f)) r)
run_is f r [] falls long = ap (λ (n : ℕ). reverse (suit_cards (suit_at (foundation_suit f)) n)) long
run_is f r (card ∷ cards) falls long =
    let suit : Suit = suit_at (foundation_suit f) in
    let rest = both (nat_eq (place_of card.suit) (foundation_suit f) && nat_eq card.rank r)
    (falls_in_suit f (r - 1) cards) falls in
    let first = both (nat_eq (place_of card.suit) (foundation_suit f)) (nat_eq card.rank r) rest.0 in
    let in_suit =
    suit-at_place card.suit (foundation_suit f) (eqb-true (place_of card.suit) (foundation_suit f) first.0) in
    let of_rank = eqb-true card.rank r first.1 in
    let down : (r - 1) + 1 ≡ r = omega (arith, long) in
    let same : card ≡ record { suit = suit; rank = (r - 1) + 1 } =
    card-by_parts card suit ((r - 1) + 1) in_suit (of_rank ∙ sym down) in
    let below = run_is f (r - 1) cards rest.1 (omega (arith, long)) in
    ap₂ ◌∷◌ same below
    ∙ sym (reverse-append (suit_cards suit (r - 1)) (record { suit = suit; rank = (r - 1) + 1 } ∷ []))
    ∙ ap reverse (sym (suit_cards-grow suit (r - 1)))
    ∙ ap (λ (n : ℕ). reverse (suit_cards suit n)) down

whole_foundation : (rules : RuleParts) (f : ℕ) → base_of rules.goal ≡ 1
    → foundation_cards rules f rules.max_rank ≡ suit_cards (suit_at (foundation_suit f)) rules.max_rank
whole_foundation rules f base =
    map-range-same (foundation_card rules f)
    (λ (p : ℕ). let card : Card = record { suit = suit_at (foundation_suit f); rank = p + 1 } in card) 0 rules.max_rank
    (λ k low high.
    let small : k < rules.max_rank = omega (arith, high) in
    let start : (base_of rules.goal - 1) + k ≡ k = omega (arith, base) in
    let rank : foundation_rank rules k ≡ k + 1 =
    ap (λ (n : ℕ). n % rules.max_rank + 1) start ∙ ap (λ (n : ℕ). n + 1) (mod-eq_of_lt small) in
    ap (λ (r : ℕ). let card : Card = record { suit = suit_at (foundation_suit f); rank = r } in card) rank)

one_alone : (cards : List Card) → IsTrue (nat_eq (length cards) 0) → cards ≡ []
one_alone [] h = refl
one_alone (x ∷ cards) h = let e = eqb-true (length (x ∷ cards)) 0 h in absurd (omega arith)

next_puts : (rules : RuleParts) (f height : ℕ) (card : Card) (cards : List Card)
    → IsTrue (nat_eq (length cards) 0 && is_next_on rules f height card)
    → foundation_cards rules f (height + length (card ∷ cards)) ≡ foundation_cards rules f height ++ (card ∷ cards)
next_puts rules f height card cards h =
    let two = both (nat_eq (length cards) 0) (is_next_on rules f height card) h in
    let ranks =
    both (nat_lt height rules.max_rank && nat_eq (place_of card.suit) (foundation_suit f))
    (nat_eq card.rank (foundation_rank rules height)) two.1 in
    let lows = both (nat_lt height rules.max_rank) (nat_eq (place_of card.suit) (foundation_suit f)) ranks.0 in
    let suit = suit-at_place card.suit (foundation_suit f) (eqb-true (place_of card.suit) (foundation_suit f) lows.1) in
    let rank = eqb-true card.rank (foundation_rank rules height) ranks.1 in
    let same : card ≡ foundation_card rules f height =
    card-by_parts card (suit_at (foundation_suit f)) (foundation_rank rules height) suit rank in
    let none : cards ≡ [] = one_alone cards two.0 in
    let long : height + length (card ∷ cards) ≡ height + 1 =
    ap (λ (cs : List Card). height + length (card ∷ cs)) none in
    ap (foundation_cards rules f) long ∙ foundation-grows rules f height
    ∙ ap₂ (λ (c : Card) (cs : List Card). foundation_cards rules f height ++ (c ∷ cs)) (sym same) (sym none)

run_puts : (rules : RuleParts) (f height : ℕ) (cards : List Card) → base_of rules.goal ≡ 1
    → IsTrue (is_complete_run rules f height cards)
    → (height ≡ 0) × (reverse (foundation_cards rules f (height + length cards)) ≡ cards)
run_puts rules f height cards base run =
    let falls =
    both (nat_eq height 0 && nat_eq (length cards) rules.max_rank) (falls_in_suit f rules.max_rank cards) run in
    let whole = both (nat_eq height 0) (nat_eq (length cards) rules.max_rank) falls.0 in
    let empty : height ≡ 0 = eqb-true height 0 whole.0 in
    let long : length cards ≡ rules.max_rank = eqb-true (length cards) rules.max_rank whole.1 in
    let all : height + length cards ≡ rules.max_rank = omega (arith, empty, long) in (
      empty,
      ap (λ (n : ℕ). reverse (foundation_cards rules f n)) all
          ∙ ap reverse (whole_foundation rules f base)
          ∙ sym (run_is f rules.max_rank cards falls.1 long),
    )

puts_by : (v : Bool) (rules : RuleParts) (f height : ℕ) (card : Card) (cards : List Card)
    → (v ≡ true → base_of rules.goal ≡ 1)
    → IsTrue (if v then is_complete_run rules f height (card ∷ cards)
    else nat_eq (length cards) 0 && is_next_on rules f height card)
    → (if v then reverse (foundation_cards rules f (height + length (card ∷ cards)))
    else foundation_cards rules f (height + length (card ∷ cards)))
    ≡ (if v then reverse (foundation_cards rules f height) else foundation_cards rules f height) ++ (card ∷ cards)
puts_by true rules f height card cards base h =
    let two = run_puts rules f height (card ∷ cards) (base refl) h in
    two.1 ∙ ap (λ (n : ℕ). reverse (foundation_cards rules f n) ++ (card ∷ cards)) (sym two.0)
puts_by false rules f height card cards base h = next_puts rules f height card cards h

-- a foundation with the cards that go on it
home_puts : (rules : RuleParts) → IsPlayable rules → (f height : ℕ) (cards : List Card)
    → (l : Linked) → height_at (board_of l) f ≡ height → IsTrue (can_put rules (board_of l) (Foundation f) cards)
    → home_cards rules f (height + length cards) ≡ home_cards rules f height ++ cards
home_puts rules playable f height [] l at h = cc
home_puts rules playable f height (card ∷ cards) l at h =
    puts_by (takes_complete_runs rules.goal) rules f height card cards (base-of_runs rules playable)
    (subst (λ (n : ℕ). IsTrue (if takes_complete_runs rules.goal then is_complete_run rules f n (card ∷ cards)
    else nat_eq (length cards) 0 && is_next_on rules f n card)) at h)

-- the top of a foundation that holds its cards
module _ (rules : RuleParts) (playable : IsPlayable rules) (l : Linked) (holds : HoldsFoundations rules l)
    (f : ℕ) (there : f < l.shape.foundations) (back : takes_back rules.goal ≡ true)
    (some : 0 < size_at l.links (90 + f)) where
  single : takes_complete_runs rules.goal ≡ false
  single =
      cases_of (takes_complete_runs rules.goal) (takes_complete_runs rules.goal ≡ false)
      (λ runs. let no : true ≡ false = sym back ∙ none_back rules playable runs in cc) (λ e. e)

  cards_are : cards_at l (90 + f) ≡ foundation_cards rules f (size_at l.links (90 + f))
  cards_are = holds f there ∙ single_cards (takes_complete_runs rules.goal) rules f (size_at l.links (90 + f)) single

  joined : foundation_cards rules f (size_at l.links (90 + f))
      ≡ foundation_cards rules f (size_at l.links (90 + f) - 1) ++ foundation_card rules f
      (size_at l.links (90 + f) - 1) ∷ []
  joined =
      let down : size_at l.links (90 + f) ≡ size_at l.links (90 + f) - 1 + 1 = omega arith in
      ap (foundation_cards rules f) down ∙ foundation-grows rules f (size_at l.links (90 + f) - 1)

  ruled : top_of (cards_at l (90 + f)) ≡ Some (foundation_card rules f (size_at l.links (90 + f) - 1))
  ruled =
      ap top_of (cards_are ∙ joined)
      ∙ top-seam (foundation_cards rules f (size_at l.links (90 + f) - 1))
      (foundation_card rules f (size_at l.links (90 + f) - 1))

  home_listed : top_part 1 (cards_at l (90 + f))
      ≡ option_to_list (foundation_top rules f (length (cards_at l (90 + f))))
  home_listed =
      sym (top_list (cards_at l (90 + f))) ∙ ap option_to_list ruled
      ∙ ap option_to_list (sym (foundation_some rules f (size_at l.links (90 + f)) some))
      ∙ ap (λ (n : ℕ). option_to_list (foundation_top rules f n)) (size_is l (90 + f))

  home_top : card_of l.cards (top_at l.links (90 + f)) ≡ foundation_card rules f (size_at l.links (90 + f) - 1)
  home_top =
      let linked : top_of (cards_at l (90 + f)) ≡ Some (card_of l.cards (top_at l.links (90 + f))) =
      up_last l.cards l.links.under (size_at l.links (90 + f)) (top_at l.links (90 + f)) some in
      let same : Some (card_of l.cards (top_at l.links (90 + f)))
      ≡ Some (foundation_card rules f (size_at l.links (90 + f) - 1)) =
      sym linked ∙ ruled in
      cc

  home_written : with_card l.cards (top_at l.links (90 + f)) (foundation_top rules f (size_at l.links (90 + f)))
      ≡ l.cards
  home_written =
      ap (with_card l.cards (top_at l.links (90 + f))) (foundation_some rules f (size_at l.links (90 + f)) some)
      ∙ ap (set l.cards (top_at l.links (90 + f))) (sym home_top)
      ∙ set-get_or l.cards (top_at l.links (90 + f)) no_card

  home_less : below_top 1 (cards_at l (90 + f)) ≡ home_cards rules f (size_at l.links (90 + f) - 1)
  home_less =
      ap (below_top 1) (cards_are ∙ joined)
      ∙ below-append (foundation_cards rules f (size_at l.links (90 + f) - 1))
      (foundation_card rules f (size_at l.links (90 + f) - 1) ∷ []) 1 refl
      ∙ sym (single_cards (takes_complete_runs rules.goal) rules f (size_at l.links (90 + f) - 1) single)

found_back : (b : Bool) (o : Option Card) → IsTrue (is_some (if b then o else None)) → b ≡ true
found_back true o h = refl
found_back false o h = cc

same_foundations : (v : Bool) (sh : Shape) (from : Place) → (shape_after v sh from).foundations ≡ sh.foundations
same_foundations v sh (Tableau i) = refl
same_foundations v sh (Cell i) = refl
same_foundations true sh (Reserve i) = refl
same_foundations false sh (Reserve i) = refl
same_foundations v sh Waste = refl
same_foundations v sh (Foundation i) = refl
same_foundations v sh Hole = refl
same_foundations v sh (Slot i) = refl

module _ (rules : RuleParts) (playable : IsPlayable rules) (l : Linked) (h : IsLinked l) (from to : Place) (count : ℕ)
    (legal : IsTrue (is_legal_carry rules (board_of l) from to count)) where
  it : CanCarry rules.stacked l from to count
  it = can rules l h from to count legal

  abbrev a : ℕ
  a = source_of rules.stacked l.shape from

  abbrev b : ℕ
  b = index_of to

  f_there : (f : ℕ) → IsTrue (is_place l.shape (Foundation f)) → f < l.shape.foundations
  f_there f p = below_of _ _ p

  -- a foundation that gives a card: whether the rules take back, and how many it gives
  gives : (f : ℕ) → from ≡ Foundation f → (takes_back rules.goal ≡ true) × (count ≡ 1)
  gives f e =
      let takes_f : IsTrue (can_take rules (board_of l) (Foundation f) count) =
      subst (λ x. IsTrue (can_take rules (board_of l) x count)) e (facts rules l h from to count legal).takes in
      let two = both (nat_eq count 1) _ takes_f in
      (found_back (takes_back rules.goal) _ two.1, eqb-true count 1 two.0)

  written_by : (place : Place) → from ≡ place → (((f : ℕ) → from ≡ Foundation f → HoldsFoundations rules l))
      → with_card l.cards (first_slot l (source_of rules.stacked l.shape place) count)
      (written rules (size_at l.links (source_of rules.stacked l.shape place)) place) ≡ l.cards
  written_by (Tableau i) e home = refl
  written_by (Cell i) e home = refl
  written_by (Reserve i) e home = refl
  written_by Waste e home = refl
  written_by (Foundation f) e home =
      let two = gives f e in
      let one = two.1 in
      let first : count - 1 ≡ 0 = omega arith in
      let place : IsTrue (is_place l.shape (Foundation f)) = subst (λ x. IsTrue (is_place l.shape x)) e it.from_place in
      let enough : count ≤ size_at l.links (90 + f) =
      subst (λ x. count ≤ size_at l.links (source_of rules.stacked l.shape x)) e it.enough in
      ap (λ (k : ℕ). with_card l.cards (slot_at l.links (90 + f) k) (foundation_top rules f (size_at l.links (90 + f))))
      first
      ∙ home_written rules playable l (home f e) f (f_there f place) two.0 (omega arith)
  written_by Hole e home = refl
  written_by (Slot i) e home = refl

  -- no card is written over another
  pub same_cards : ((f : ℕ) → from ≡ Foundation f → HoldsFoundations rules l) → (gone rules l from to count).cards
      ≡ l.cards
  same_cards home = written_by from refl home

  at_foundation : (place : Place) (f : ℕ) → f < 16 → IsTrue (is_place l.shape place) → 90 + f ≡ index_of place
      → place ≡ Foundation f
  at_foundation (Tableau i) f lf p e = let x = below_of _ _ p in let y = h.sized.small.piles in absurd (omega arith)
  at_foundation (Cell i) f lf p e = let x = below_of _ _ p in let y = h.sized.small.cells in absurd (omega arith)
  at_foundation (Reserve i) f lf p e = let x = below_of _ _ p in let y = h.sized.small.entries in absurd (omega arith)
  at_foundation Waste f lf p e = absurd (omega arith)
  at_foundation (Foundation i) f lf p e = let same : i ≡ f = omega arith in ap Foundation same
  at_foundation Hole f lf p e = absurd (omega arith)
  at_foundation (Slot i) f lf p e = absurd (omega arith)

  from_foundation : (v : Bool) (place : Place) (f : ℕ) → f < 16 → IsTrue (is_place l.shape place)
      → 90 + f ≡ source_of v l.shape place → place ≡ Foundation f
  from_foundation v (Tableau i) f lf p e = at_foundation (Tableau i) f lf p e
  from_foundation v (Cell i) f lf p e = at_foundation (Cell i) f lf p e
  from_foundation true (Reserve i) f lf p e = let y = h.sized.small.entries in absurd (omega arith)
  from_foundation false (Reserve i) f lf p e = at_foundation (Reserve i) f lf p e
  from_foundation v Waste f lf p e = at_foundation Waste f lf p e
  from_foundation v (Foundation i) f lf p e = at_foundation (Foundation i) f lf p e
  from_foundation v Hole f lf p e = at_foundation Hole f lf p e
  from_foundation v (Slot i) f lf p e = at_foundation (Slot i) f lf p e

  module _ (holds : HoldsFoundations rules l) where
    abbrev g : Linked
    g = gone rules l from to count

    shifts : (a < 315) × (b < 315)
    shifts = (
      (can_shift rules.stacked l h from to count it).from_below,
      (can_shift rules.stacked l h from to count it).to_below,
    )

    same : g.cards ≡ l.cards
    same = same_cards (λ f e. holds)

    source_some : (f : ℕ) → from ≡ Foundation f → 0 < size_at l.links (90 + f)
    source_some f e =
        let some = it.some in
        let enough : count ≤ size_at l.links (90 + f) =
        subst (λ x. count ≤ size_at l.links (source_of rules.stacked l.shape x)) e it.enough in
        omega arith

    source_there : (f : ℕ) → from ≡ Foundation f → f < l.shape.foundations
    source_there f e = f_there f (subst (λ x. IsTrue (is_place l.shape x)) e it.from_place)

    taken_is : taken rules (board_of l) from count ≡ top_part count (cards_at l a)
    taken_is =
        taken_by rules l.shape l.redeals_left (cards_at l) (face_at l) from count it.from_place
        (facts rules l h from to count legal).takes
        (λ f e. home_listed rules playable l holds f (source_there f e) (gives f e).0 (source_some f e))

    taken_long : length (taken rules (board_of l) from count) ≡ count
    taken_long =
        let long = size_is l a in let enough = it.enough in
        ap length taken_is ∙ length-top count (cards_at l a) ∙ omega arith

    now_left : cards_at g a ≡ below_top count (cards_at l a)
    now_left =
        ap (λ cs. up cs (slots_of g.links a)) same
        ∙ cards_left l.cards l.links h.chained a b count shifts.0 shifts.1 it.apart it.some it.enough

    now_there : cards_at g b ≡ cards_at l b ++ top_part count (cards_at l a)
    now_there =
        ap (λ cs. up cs (slots_of g.links b)) same
        ∙ cards_there l.cards l.links h.chained a b count shifts.0 shifts.1 it.apart it.some it.enough

    now_other : (q : ℕ) → q < 315 → q ≢ a → q ≢ b → cards_at g q ≡ cards_at l q
    now_other q lq na nb =
        ap (λ cs. up cs (slots_of g.links q)) same
        ∙ cards_other l.cards l.links h.chained a b count shifts.0 shifts.1 it.apart it.some it.enough q lq na nb

    left_holds : (f : ℕ) → f < 16 → 90 + f ≡ a → cards_at g (90 + f) ≡ home_cards rules f (size_at g.links (90 + f))
    left_holds f lf e =
        let is_from : from ≡ Foundation f = from_foundation rules.stacked from f lf it.from_place e in
        let two = gives f is_from in
        let left : size_at g.links a ≡ size_at l.links a - count =
        from_size l h a b count (can_shift rules.stacked l h from to count it) in
        let here : size_at g.links (90 + f) ≡ size_at g.links a = ap (size_at g.links) e in
        let was : size_at l.links (90 + f) ≡ size_at l.links a = ap (size_at l.links) e in
        let one = two.1 in
        let size : size_at l.links (90 + f) - 1 ≡ size_at g.links (90 + f) = omega arith in
        ap (cards_at g) e ∙ now_left
        ∙ ap₂ (λ (n q : ℕ). below_top n (cards_at l q)) one (sym e)
        ∙ home_less rules playable l holds f (source_there f is_from) two.0 (source_some f is_from)
        ∙ ap (home_cards rules f) size

    there_holds : (f : ℕ) → f < 16 → 90 + f ≡ b → cards_at g (90 + f) ≡ home_cards rules f (size_at g.links (90 + f))
    there_holds f lf e =
        let is_to : to ≡ Foundation f = at_foundation to f lf it.to_place e in
        let place : IsTrue (is_place l.shape (Foundation f)) =
        subst (λ x. IsTrue (is_place l.shape x)) is_to it.to_place in
        let puts : IsTrue (can_put rules (board_of l) (Foundation f) (taken rules (board_of l) from count)) =
        subst (λ x. IsTrue (can_put rules (board_of l) x (taken rules (board_of l) from count))) is_to
        (facts rules l h from to count legal).puts in
        let height : height_at (board_of l) f ≡ size_at l.links (90 + f) =
        height_is rules l.shape l.redeals_left (cards_at l) (face_at l) f place ∙ sym (size_is l (90 + f)) in
        let more : size_at g.links b ≡ size_at l.links b + count =
        to_size l h a b count (can_shift rules.stacked l h from to count it) in
        let here : size_at g.links (90 + f) ≡ size_at g.links b = ap (size_at g.links) e in
        let was : size_at l.links (90 + f) ≡ size_at l.links b = ap (size_at l.links) e in
        let long = taken_long in
        let size : size_at l.links (90 + f) + length (taken rules (board_of l) from count) ≡ size_at g.links (90 + f) =
        omega arith in
        ap (cards_at g) e ∙ now_there
        ∙ ap₂ (λ (q : ℕ) (xs : List Card). cards_at l q ++ xs) (sym e) (sym taken_is)
        ∙ ap (λ (xs : List Card). xs ++ taken rules (board_of l) from count) (holds f (f_there f place))
        ∙ sym (home_puts rules playable f (size_at l.links (90 + f)) (taken rules (board_of l) from count) l height
        puts)
        ∙ ap (home_cards rules f) size

    pub carry_holds : HoldsFoundations rules (gone rules l from to count)
    carry_holds f lf =
        let same_count = same_foundations rules.stacked l.shape from in
        let there : f < l.shape.foundations = omega arith in
        let few = h.sized.small.foundations in
        elim (cases_eq (90 + f) a) [
          | inl e ↦ left_holds f (omega arith) e
          | inr na ↦ elim (cases_eq (90 + f) b) [
            | inl e ↦ there_holds f (omega arith) e
            | inr nb ↦
                now_other (90 + f) (omega arith) na nb ∙ holds f there
                ∙ ap (home_cards rules f)
                (sym (other_size l h a b count (can_shift rules.stacked l h from to count it) (90 + f) na nb))
          ]
        ]

-- a move that leaves the foundations as they were
pub others_hold : (rules : RuleParts) (l m : Linked) → m.shape ≡ l.shape
    → ((f : ℕ) → f < l.shape.foundations → cards_at m (90 + f) ≡ cards_at l (90 + f))
    → HoldsFoundations rules l → HoldsFoundations rules m
others_hold rules l m shape same holds f lf =
    let there : f < l.shape.foundations = subst (λ (s : Shape). f < s.foundations) shape lf in
    same f there ∙ holds f there
    ∙ ap (home_cards rules f) (size_is l (90 + f) ∙ sym (ap length (same f there)) ∙ sym (size_is m (90 + f)))
