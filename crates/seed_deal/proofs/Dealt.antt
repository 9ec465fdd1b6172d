-- The board of a deck belongs to the rules.
use Rattle.std.proofs.Common.{◌≡◌, ◌⊎◌, ℕ, ◌+◌, ◌*◌, ◌-◌, ◌≤◌, zero, suc, Bool, true, false, ◌&&◌, ◌||◌, not, List, []}
use Rattle.std.proofs.Common.{◌∷◌, map, length, take, replicate, min, refl, ap, sym, ◌∙◌, arith, inl, inr}
use Rattle.std.proofs.Common.{length-take, length-drop}
use Rattle.std.specs.Prelude.{cond, Option, Some, None, IsTrue, ◌==◌, nat_lt, nat_le, is_some, if◌then◌else◌}
use Rattle.std.specs.List.{sum_by, filter, list_all, range_with_len}
use Rattle.std.specs.List.Sorted.{IsPermutation}
use Rattle.std.proofs.lemmas.List.{length-map, length-replicate}
use Rattle.std.proofs.lemmas.List.Sums.{sum_by-cons}
use Rattle.std.proofs.lemmas.Bool.{ltb-false, le-leb, eq-eqb, ne_eqb, eqb-true, cases_eq}
use Rattle.std.proofs.lemmas.Bool.Decides.{nat_tests}
use Rattle.card_piles.specs.declared.Card.{Card}
use Rattle.game_rules.specs.declared.RuleParts.{RuleParts}
use Rattle.game_rules.specs.declared.Face.{Face}
use Rattle.game_rules.specs.declared.Face.TheVariants.{AllUp, TopUp}
use Rattle.game_rules.specs.declared.Goal.{Goal}
use Rattle.game_rules.specs.declared.Goal.TheVariants.{Foundations, Hole, Sequences}
use Rattle.game_rules.specs.declared.Layout.{Layout}
use Rattle.game_rules.specs.declared.Layout.TheVariants.{Even, Triangle}
use Rattle.game_rules.specs.declared.HoleStart.TheVariants.{Dealt, Named}
use Rattle.game_rules.specs.Rules.{base_of, deals_to_waste, is_foundation_goal, is_hole_goal}
use Rattle.game_rules.specs.Rules.{is_sequence_goal, is_started}
use Rattle.game_rules.specs.Conflicts.{has_base_above, has_parts_beside_rows, is_base_within}
use Rattle.game_rules.specs.Playable.{IsPlayable, HasLimits}
use Rattle.game_rules.specs.Conflicts.{is_within, starts_above}
use Rattle.game_rules.specs.Board.{Board, Pile}
use Rattle.game_rules.specs.Play.{is_empty}
use Rattle.game_rules.specs.Belonging.{Belongs, lies_well, foundation_count, slot_count, most_redeals, copies_of}
use Rattle.game_rules.specs.Belonging.{copies_in, copies_in_piles, same_card, copies_at_home, copies_on, copies_due}
use Rattle.game_rules.specs.Position.{parts_of, board_of_parts, fault_of, row_count}
use Rattle.game_rules.specs.declared.BoardFault.{BoardFault}
use Rattle.game_rules.specs.declared.BoardFault.TheVariants.{Memory}
use Rattle.game_rules.proofs.BelongingExactly.{board-of_its_parts, parts-have_no_fault}
use Rattle.game_rules.specs.Winning.{row_at}
use Rattle.game_rules.specs.declared.BoardParts.{BoardParts}
use Rattle.game_rules.proofs.Limits.{past, was_false, both, limits_of, numbers_within}
use Rattle.game_rules.proofs.FewCards.{once}
use Rattle.game_rules.proofs.ListFacts.{and_both}
use Rattle.game_rules.proofs.Copies.{copies-cut}
use Rattle.game_rules.proofs.PositionFacts.{length-filled}
use Rattle.seed_deal.specs.declared.fault.SeedFault.{SeedFault}
use Rattle.seed_deal.specs.declared.fault.SeedFault.TheVariants.{TooFewCards, TooManyCards}
use Rattle.seed_deal.specs.Layout.{after_foundations, after_hole, after_cells, after_reserve, after_stock, beside_hole}
use Rattle.seed_deal.specs.Layout.{dealt_cells, dealt_heights, dealt_hole, dealt_piles, dealt_reserve, dealt_stock}
use Rattle.seed_deal.specs.Layout.{piles_laid, turned, laid_out, laid_in_rows, board_of_deck, slot_for, without_first}
use Rattle.seed_deal.specs.Shuffle.{deck_in_order, shuffled_deck}
use Rattle.seed_deal.specs.Seeds.{cards_in_decks, cards_needed, cards_of_triangle, seed_board, seed_fault}
use Rattle.seed_deal.specs.Starts.{HasStart}
use Rattle.seed_deal.proofs.Decks.{IsDeck, IsDeck-shuffled, in_range, in_range-yes}
use Rattle.seed_deal.proofs.Laying.{length-piles_laid, sum-piles_laid}
use Rattle.seed_deal.proofs.Steps.{staying-none, staying-all, length-staying, home-none, home-started, HasNamed}
use Rattle.seed_deal.proofs.Steps.{copies-hole, length-beside_hole, copies-entries, copies-filled, all-entries}
use Rattle.seed_deal.proofs.Steps.{slots-aces, slots-others}

-- What playable rules say of a layout.

pub few_filled : (rules : RuleParts) → IsPlayable rules → rules.cells_filled ≤ rules.cells
few_filled rules h = ltb-false rules.cells rules.cells_filled
    (was_false _ 6 _ (past _ 5 _ (past _ 4 _ (past _ 3 _ (past _ 2 _ h.no_conflict)))))

base_below : (rules : RuleParts) → IsPlayable rules → has_base_above rules ≡ false
base_below rules h = was_false _ 8 _
    (past _ 7 _ (past _ 6 _ (past _ 5 _ (past _ 4 _ (past _ 3 _ (past _ 2 _ h.no_conflict))))))

start_below : (rules : RuleParts) → IsPlayable rules → starts_above rules.max_rank rules.goal ≡ false
start_below rules h = was_false _ 9 _
    (past _ 8 _ (past _ 7 _ (past _ 6 _ (past _ 5 _ (past _ 4 _ (past _ 3 _ (past _ 2 _ h.no_conflict)))))))

base_within : (rules : RuleParts) → IsPlayable rules → IsTrue (is_base_within rules.goal)
base_within rules h =
    (both _ _ (both _ _ (both _ _ (both _ _ (both _ _ (both _ _ (both _ _ (numbers_within rules h)).0).0).0).0).0).0).1

within_low : (low high n : ℕ) → IsTrue (is_within low high n) → low ≤ n
within_low low high n h = grind (arith, nat_tests)

started_base : (goal : Goal) (max_rank : ℕ) → is_started goal ≡ true → IsTrue (is_base_within goal)
    → (is_foundation_goal goal && nat_lt max_rank (base_of goal)) ≡ false
    → (1 ≤ base_of goal) × (base_of goal ≤ max_rank)
started_base (Foundations base started take_back complete_runs) max_rank on within above =
    (within_low 1 13 base within, ltb-false max_rank base above)
started_base (Hole wrap start) max_rank on within above = absurd (let no : false ≡ true = on in cc)
started_base Sequences max_rank on within above = absurd (let no : false ≡ true = on in cc)

started_foundations : (goal : Goal) → is_started goal ≡ true → is_foundation_goal goal ≡ true
started_foundations (Foundations base started take_back complete_runs) on = refl
started_foundations (Hole wrap start) on = absurd (let no : false ≡ true = on in cc)
started_foundations Sequences on = absurd (let no : false ≡ true = on in cc)

started_no_hole : (goal : Goal) → is_started goal ≡ true → is_hole_goal goal ≡ false
started_no_hole (Foundations base started take_back complete_runs) on = refl
started_no_hole (Hole wrap start) on = absurd (let no : false ≡ true = on in cc)
started_no_hole Sequences on = refl

-- The cards that the first step leaves and those on the foundations are the deck.

first_step : (rules : RuleParts) (deck : List Card) (card : Card) (started : Bool) → is_started rules.goal ≡ started
    → IsPlayable rules → HasLimits rules → IsDeck rules deck
    → copies_at_home rules card (replicate (foundation_count rules) (if started then 1 else 0))
    + copies_of card (if started then filter (λ c. not (c.rank == base_of rules.goal)) deck else deck)
    ≡ copies_of card deck
first_step rules deck card false is playable limits deals = omega (arith, home-none rules card (foundation_count rules))
first_step rules deck card true is playable limits deals =
    let base = started_base rules.goal rules.max_rank is (base_within rules playable) (base_below rules playable) in
    let four : foundation_count rules ≡ 4 * rules.decks = ap (λ (t : Bool). if t then 4 * rules.decks else 0)
    (started_foundations rules.goal is) in
    let heights = ap (λ (n : ℕ). copies_at_home rules card (replicate n 1)) four in
    let home = home-started rules card limits.some_deck limits.decks base.0 base.1 in
    elim (cases_eq card.rank (base_of rules.goal)) [
      | inl same ↦
          let none = staying-none card (base_of rules.goal) deck same in
          let there = deals.copies card in
          let here = ap (λ (t : Bool). rules.decks * once t) (eq-eqb card.rank (base_of rules.goal) same) in
          let ranked = ap (λ (t : Bool). rules.decks * once t)
          (in_range-yes card.rank rules.max_rank (omega (arith, same, base.0)) (omega (arith, same, base.1))) in
          omega (arith, heights, home, none, there, here, ranked)
      | inr differ ↦
          let all = staying-all card (base_of rules.goal) deck differ in
          let here = ap (λ (t : Bool). rules.decks * once t) (ne_eqb card.rank (base_of rules.goal) differ) in
          omega (arith, heights, home, all, here)
    ]

-- The named card of a hole is in the deck.

named_there : (rules : RuleParts) (deck : List Card) (goal : Goal) → 1 ≤ rules.decks → IsDeck rules deck → HasStart goal
    → starts_above rules.max_rank goal ≡ false
    → HasNamed goal deck
named_there rules deck (Foundations base started take_back complete_runs) some deals start above = tt
named_there rules deck (Hole wrap Dealt) some deals start above = tt
named_there rules deck (Hole wrap (Named card)) some deals start above =
    let ranked = ap (λ (t : Bool). rules.decks * once t)
    (in_range-yes card.rank rules.max_rank start.0 (ltb-false rules.max_rank card.rank above)) in
    omega (arith, deals.copies card, ranked, some)
named_there rules deck Sequences some deals start above = tt

none_named : (goal : Goal) (cards : List Card) → is_hole_goal goal ≡ false → HasNamed goal cards
none_named (Foundations base started take_back complete_runs) cards plain = tt
none_named (Hole wrap start) cards plain = absurd (let wrong : true ≡ false = plain in cc)
none_named Sequences cards plain = tt

named_left : (rules : RuleParts) (deck : List Card) (started : Bool) → is_started rules.goal ≡ started
    → HasNamed rules.goal deck
    → HasNamed rules.goal (if started then filter (λ c. not (c.rank == base_of rules.goal)) deck else deck)
named_left rules deck true is there = none_named rules.goal _ (started_no_hole rules.goal is)
named_left rules deck false is there = there

-- How many cards each step leaves.

first_length : (rules : RuleParts) (deck : List Card) (started : Bool) → is_started rules.goal ≡ started
    → IsPlayable rules → IsDeck rules deck
    → length (if started then filter (λ c. not (c.rank == base_of rules.goal)) deck else deck)
    + (if started then 4 * rules.decks else 0) ≡ length deck
first_length rules deck false is playable deals = omega arith
first_length rules deck true is playable deals =
    let base = started_base rules.goal rules.max_rank is (base_within rules playable) (base_below rules playable) in
    let ranked = ap (λ (t : Bool). rules.decks * (4 * once t))
    (in_range-yes (base_of rules.goal) rules.max_rank base.0 base.1) in
    omega (arith, length-staying (base_of rules.goal) deck, deals.ranks (base_of rules.goal), ranked)

-- what no fault of the seed says: the cards are enough, and with no pile they are just enough
record Fits (rules : RuleParts) : Type 0 where
  enough : cards_needed rules ≤ cards_in_decks rules
  exact : rules.piles ≡ 0 → cards_in_decks rules ≤ cards_needed rules

not_this : (b : Bool) (fault : SeedFault) (rest : Option SeedFault) → (if b then Some fault else rest) ≡ None
    → (b ≡ false) × (rest ≡ None)
not_this true fault rest h = cc
not_this false fault rest h = (refl, h)

no_rows : (b : Bool) (rest : Option SeedFault) → b ≡ false → (if b then None else rest) ≡ None → rest ≡ None
no_rows true rest is h = cc
no_rows false rest is h = h

not_more : (piles : ℕ) (b : Bool) → ((piles == 0) && b) ≡ false → piles ≡ 0 → b ≡ false
not_more piles b h none = ap (λ (t : Bool). t && b) (sym (eq-eqb piles 0 none)) ∙ h

fits-from : (rules : RuleParts) → is_sequence_goal rules.goal ≡ false → seed_fault rules ≡ None → Fits rules
fits-from rules plain h =
    let few = not_this (nat_lt (cards_in_decks rules) (cards_needed rules)) TooFewCards _
    (no_rows (is_sequence_goal rules.goal) _ plain h) in
    let many = not_this ((rules.piles == 0) && nat_lt (cards_needed rules) (cards_in_decks rules))
    TooManyCards None few.1 in
    record {
      enough = ltb-false (cards_in_decks rules) (cards_needed rules) few.0;
      exact = λ none. ltb-false (cards_needed rules) (cards_in_decks rules) (not_more rules.piles _ many.0 none);
    }

-- the lengths along the steps
record HasLengths (rules : RuleParts) (deck : List Card) : Type 0 where
  beside : length (after_hole rules deck) + (if is_hole_goal rules.goal then 1 else 0)
      + (if is_started rules.goal then 4 * rules.decks else 0) ≡ length deck
  total : length deck ≡ cards_in_decks rules

product-turned : (a b : ℕ) → a * (4 * b) ≡ 4 * b * a
product-turned a b = omega arith

lengths-of : (rules : RuleParts) (deck : List Card) → IsPlayable rules → IsDeck rules deck → HasNamed rules.goal deck
    → Fits rules → HasLengths rules deck
lengths-of rules deck playable deals there fits =
    let first = first_length rules deck (is_started rules.goal) refl playable deals in
    let total : length deck ≡ cards_in_decks rules = deals.long ∙ product-turned rules.decks rules.max_rank in
    let left = named_left rules deck (is_started rules.goal) refl there in
    let second = length-beside_hole rules.goal (after_foundations rules deck) left
    (omega (arith, first, total, fits.enough)) in
    record { beside = omega (arith, first, second); total = total }

-- No card is lost.

pile-copies : (card : Card) (face : Face) (tableau : List (List Card))
    → copies_in_piles card (map (turned face) tableau) ≡ sum_by (λ cards. copies_of card cards) tableau
pile-copies card face [] = refl
pile-copies card AllUp (cards ∷ tableau) =
    let pile : Pile = record { cards = cards; face_down = 0 } in
    omega (
      arith,
      sum_by-cons (λ (p : Pile). copies_of card p.cards) pile (map (turned AllUp) tableau),
      sum_by-cons (λ (cs : List Card). copies_of card cs) cards tableau,
      pile-copies card AllUp tableau,
    )
pile-copies card TopUp (cards ∷ tableau) =
    let pile : Pile = record { cards = cards; face_down = length cards - 1 } in
    omega (
      arith,
      sum_by-cons (λ (p : Pile). copies_of card p.cards) pile (map (turned TopUp) tableau),
      sum_by-cons (λ (cs : List Card). copies_of card cs) cards tableau,
      pile-copies card TopUp tableau,
    )

stock-left : (rules : RuleParts) (deck : List Card) → HasLengths rules deck → Fits rules → rules.piles ≡ 0
    → cards_of_triangle rules.layout rules.piles ≡ 0
    → length (after_stock rules deck) ≡ 0
stock-left rules deck lengths fits none flat =
    let one = length-drop rules.cells_filled (after_hole rules deck) in
    let two = length-drop rules.reserve (after_cells rules deck) in
    let three = length-drop rules.stock (after_reserve rules deck) in
    omega (arith, one, two, three, lengths.beside, lengths.total, fits.exact none, flat)

laid-copies : (rules : RuleParts) (deck : List Card) (card : Card) → IsPlayable rules → HasLimits rules
    → IsDeck rules deck → HasNamed rules.goal deck
    → (rules.piles ≡ 0 → length (after_stock rules deck) ≡ 0)
    → copies_on rules (laid_out rules deck) card ≡ copies_of card deck
laid-copies rules deck card playable limits deals there left =
    let first = first_step rules deck card (is_started rules.goal) refl playable limits deals in
    let second = copies-hole rules.goal card (after_foundations rules deck)
    (named_left rules deck (is_started rules.goal) refl there) in
    let third = copies-cut card (after_hole rules deck) rules.cells_filled in
    let fourth = copies-cut card (after_cells rules deck) rules.reserve in
    let fifth = copies-cut card (after_reserve rules deck) rules.stock in
    let sixth = sum-piles_laid (λ (c : Card). once (same_card card c)) rules.layout rules.piles
    (after_stock rules deck) left in
    let piles = pile-copies card rules.face (piles_laid rules.layout rules.piles (after_stock rules deck)) in
    let in_cells = copies-filled card rules.cells
    (map (λ c. Some c) (take rules.cells_filled (after_hole rules deck))) in
    let cells = copies-entries card (take rules.cells_filled (after_hole rules deck)) in
    let reserve = copies-entries card (take rules.reserve (after_cells rules deck)) in
    omega (arith, first, second, third, fourth, fifth, sixth, piles, in_cells, cells, reserve)

-- The places are as the rules want them.

all-turned : (face : Face) (tableau : List (List Card)) → IsTrue (list_all (lies_well face) (map (turned face) tableau))
all-turned face [] = refl
all-turned AllUp (cards ∷ tableau) = all-turned AllUp tableau
all-turned TopUp (cards ∷ tableau) =
    and_both (nat_le (length cards - 1) (length cards - 1)) _
    (le-leb (length cards - 1) (length cards - 1) (omega arith)) (all-turned TopUp tableau)

or_last : (a : Bool) → IsTrue (a || true)
or_last true = refl
or_last false = refl

hole-fits : (goal : Goal) (cards : List Card) → IsTrue (is_hole_goal goal || is_empty (dealt_hole goal cards))
hole-fits (Foundations base started take_back complete_runs) cards = refl
hole-fits (Hole wrap start) cards = refl
hole-fits Sequences cards = refl

heights-low : (n h m : ℕ) → h ≤ m → IsTrue (list_all (λ height. nat_le height m) (replicate n h))
heights-low zero h m low = refl
heights-low (suc n) h m low = and_both (nat_le h m) _ (le-leb h m low) (heights-low n h m low)

one_or_none : (t : Bool) → (if t then 1 else 0) ≤ 1
one_or_none true = omega arith
one_or_none false = omega arith

entries-long : (n : ℕ) (cards : List Card) → length (map (λ c. Some c) (take n cards)) ≡ min n (length cards)
entries-long n cards = length-map (take n cards) (λ (c : Card). Some c) ∙ length-take n cards

reserve-fits : (stacked : Bool) (n : ℕ) (cards : List Card) → n ≤ length cards
    → IsTrue (if stacked then list_all (λ e. is_some e) (map (λ c. Some c) (take n cards))
    else length (map (λ c. Some c) (take n cards)) == n)
reserve-fits true n cards enough = all-entries (take n cards)
reserve-fits false n cards enough = eq-eqb (length (map (λ c. Some c) (take n cards))) n
    (omega (arith, entries-long n cards, enough))

no_slots : (rules : RuleParts) → is_sequence_goal rules.goal ≡ false → 0 ≡ slot_count rules
no_slots rules plain = sym (ap (λ (t : Bool). if t then 4 * rules.decks * rules.max_rank else 0) plain)

and_last : (a : Bool) → (a && true) ≡ a
and_last true = refl
and_last false = refl

and_never : (a : Bool) → (a && false) ≡ false
and_never true = refl
and_never false = refl

times_once : (n : ℕ) (t : Bool) → n * once t ≡ (if t then n else 0)
times_once n true = let one : n * 1 ≡ n = omega arith in one
times_once n false = let none : n * 0 ≡ 0 = omega arith in none

flat_none : (layout : Layout) → cards_of_triangle layout 0 ≡ 0
flat_none Even = refl
flat_none Triangle = refl

flat : (layout : Layout) (piles : ℕ) → piles ≡ 0 → cards_of_triangle layout piles ≡ 0
flat layout piles none = ap (cards_of_triangle layout) none ∙ flat_none layout

-- each card is due as often as it stands in the deck
due-plain : (rules : RuleParts) (card : Card) → is_sequence_goal rules.goal ≡ false
    → rules.decks * once (in_range card.rank rules.max_rank) ≡ copies_due rules card
due-plain rules card plain =
    let test : (in_range card.rank rules.max_rank && not (is_sequence_goal rules.goal && (card.rank == 1)))
    ≡ in_range card.rank rules.max_rank =
    ap (λ (t : Bool). in_range card.rank rules.max_rank && not (t && (card.rank == 1))) plain
    ∙ and_last (in_range card.rank rules.max_rank) in
    times_once rules.decks (in_range card.rank rules.max_rank)
    ∙ sym (ap (λ (t : Bool). if t then rules.decks else 0) test)

laid_out-belongs : (rules : RuleParts) (deck : List Card) → IsPlayable rules → HasLimits rules → IsDeck rules deck
    → HasNamed rules.goal deck
    → is_sequence_goal rules.goal ≡ false → Fits rules → Belongs rules (laid_out rules deck)
laid_out-belongs rules deck playable limits deals there plain fits =
    let lengths = lengths-of rules deck playable deals there fits in
    let filled_few = few_filled rules playable in
    let cells : List (Option Card) = map (λ c. Some c) (take rules.cells_filled (after_hole rules deck)) in
    let cells_long = entries-long rules.cells_filled (after_hole rules deck) in
    let dropped = length-drop rules.cells_filled (after_hole rules deck) in
    let enough : rules.reserve ≤ length (after_cells rules deck) = omega
    (arith, dropped, lengths.beside, lengths.total, fits.enough) in
    record {
      piles = length-map (piles_laid rules.layout rules.piles (after_stock rules deck)) (turned rules.face)
          ∙ length-piles_laid rules.layout rules.piles (after_stock rules deck);
      faces = all-turned rules.face (piles_laid rules.layout rules.piles (after_stock rules deck));
      cells = length-filled rules.cells None cells (omega (arith, cells_long, filled_few));
      reserve_size = omega (arith, entries-long rules.reserve (after_cells rules deck));
      reserve_filled = reserve-fits rules.stacked rules.reserve (after_cells rules deck) enough;
      stock = omega (arith, length-take rules.stock (after_reserve rules deck));
      waste = or_last (deals_to_waste rules.target);
      redeals_left = omega arith;
      foundations = length-replicate (foundation_count rules) (if is_started rules.goal then 1 else 0);
      heights = heights-low (foundation_count rules) (if is_started rules.goal then 1 else 0) rules.max_rank
          (omega (arith, one_or_none (is_started rules.goal), limits.some_rank));
      hole = hole-fits rules.goal (after_foundations rules deck);
      slots = no_slots rules plain;
      cards = λ card. laid-copies rules deck card playable limits deals there
          (λ none. stock-left rules deck lengths fits none (flat rules.layout rules.piles none))
          ∙ deals.copies card ∙ due-plain rules card plain;
    }

-- A game of sequences.

record HasRowsAlone (rules : RuleParts) : Type 0 where
  piles : rules.piles ≡ 0
  cells : rules.cells ≡ 0
  reserve : rules.reserve ≡ 0
  stock : rules.stock ≡ 0

not_beside : (a b : Bool) → a ≡ true → (a && not b) ≡ false → b ≡ true
not_beside true true on h = refl
not_beside true false on h = cc
not_beside false b on h = cc

rows_alone : (rules : RuleParts) → IsPlayable rules → is_sequence_goal rules.goal ≡ true → HasRowsAlone rules
rows_alone rules playable on =
    let none = not_beside (is_sequence_goal rules.goal) _ on
    (was_false (has_parts_beside_rows rules) 2 _ playable.no_conflict) in
    let to_stock = both _ _ none in
    let to_reserve = both _ _ to_stock.0 in
    let to_cells = both _ _ to_reserve.0 in
    record {
      piles = eqb-true rules.piles 0 to_cells.0;
      cells = eqb-true rules.cells 0 to_cells.1;
      reserve = eqb-true rules.reserve 0 to_reserve.1;
      stock = eqb-true rules.stock 0 to_stock.1;
    }

no_foundations : (goal : Goal) (n : ℕ) → is_sequence_goal goal ≡ true → 0 ≡ (if is_foundation_goal goal then n else 0)
no_foundations (Foundations base started take_back complete_runs) n on = absurd (let no : false ≡ true = on in cc)
no_foundations (Hole wrap start) n on = refl
no_foundations Sequences n on = refl

empty_reserve : (stacked : Bool) (n : ℕ) → n ≡ 0 → IsTrue (if stacked then true else 0 == n)
empty_reserve true n none = refl
empty_reserve false n none = eq-eqb 0 n (sym none)

due-rows : (rules : RuleParts) (deck : List Card) (card : Card) → IsDeck rules deck → is_sequence_goal rules.goal ≡ true
    → copies_in card (map slot_for deck) ≡ copies_due rules card
due-rows rules deck card deals on =
    let due : (t : Bool) → (card.rank == 1) ≡ t
    → copies_due rules card ≡ (if in_range card.rank rules.max_rank && not t then rules.decks else 0) =
    λ (t : Bool) is. ap (λ (b : Bool). if in_range card.rank rules.max_rank && not (b && (card.rank == 1))
    then rules.decks else 0) on
    ∙ ap (λ (b : Bool). if in_range card.rank rules.max_rank && not b then rules.decks else 0) is in
    elim (cases_eq card.rank 1) [
      | inl ace ↦
          slots-aces card deck ace ∙ sym (due true (eq-eqb card.rank 1 ace)
          ∙ ap (λ (b : Bool). if b then rules.decks else 0) (and_never (in_range card.rank rules.max_rank)))
      | inr other ↦
          slots-others card deck other ∙ deals.copies card ∙ times_once rules.decks (in_range card.rank rules.max_rank)
          ∙ sym (due false (ne_eqb card.rank 1 other) ∙ ap (λ (b : Bool). if b then rules.decks else 0)
          (and_last (in_range card.rank rules.max_rank)))
    ]

row-count : (decks ranks : ℕ) → decks * (4 * ranks) ≡ 4 * decks * ranks
row-count decks ranks = omega arith

rows-only : (n : ℕ) → 0 + 0 + 0 + 0 + 0 + 0 + 0 + n ≡ n
rows-only n = omega arith

laid_in_rows-belongs : (rules : RuleParts) (deck : List Card) → IsPlayable rules → IsDeck rules deck
    → is_sequence_goal rules.goal ≡ true → Belongs rules (laid_in_rows rules deck)
laid_in_rows-belongs rules deck playable deals on =
    let alone = rows_alone rules playable on in
    record {
      piles = sym alone.piles;
      faces = refl;
      cells = sym alone.cells;
      reserve_size = omega arith;
      reserve_filled = empty_reserve rules.stacked rules.reserve alone.reserve;
      stock = omega arith;
      waste = or_last (deals_to_waste rules.target);
      redeals_left = omega arith;
      foundations = no_foundations rules.goal (4 * rules.decks) on;
      heights = refl;
      hole = or_last (is_hole_goal rules.goal);
      slots = length-map deck slot_for ∙ deals.long ∙ row-count rules.decks rules.max_rank
          ∙ sym (ap (λ (t : Bool). if t then 4 * rules.decks * rules.max_rank else 0) on);
      cards = λ card. rows-only (copies_in card (map slot_for deck)) ∙ due-rows rules deck card deals on;
    }

-- either way
choose : (rules : RuleParts) (t : Bool) (a b : Board) → (t ≡ true → Belongs rules a) → (t ≡ false → Belongs rules b)
    → Belongs rules (if t then a else b)
choose rules true a b of_rows of_piles = of_rows refl
choose rules false a b of_rows of_piles = of_piles refl

pub board_of_deck-belongs : (rules : RuleParts) (deck : List Card) → IsPlayable rules → IsDeck rules deck
    → HasStart rules.goal → seed_fault rules ≡ None
    → Belongs rules (board_of_deck rules deck)
board_of_deck-belongs rules deck playable deals start fault =
    let limits = limits_of rules playable in
    let there = named_there rules deck rules.goal limits.some_deck deals start (start_below rules playable) in
    choose rules (is_sequence_goal rules.goal) (laid_in_rows rules deck) (laid_out rules deck)
    (λ on. laid_in_rows-belongs rules deck playable deals on)
    (λ plain. laid_out-belongs rules deck playable limits deals there plain (fits-from rules plain fault))

pub dealt-belongs : (rules : RuleParts) (deck : List Card) → IsPlayable rules → IsPermutation (deck_in_order rules) deck
    → HasStart rules.goal → seed_fault rules ≡ None
    → Belongs rules (board_of_deck rules deck)
dealt-belongs rules deck playable exchanged start fault = board_of_deck-belongs rules deck playable
    (IsDeck-shuffled rules deck exchanged) start fault

-- No step leaves more cards than there were.

few-staying : (deck : List Card) (b : ℕ) (started : Bool)
    → length (if started then filter (λ c. not (c.rank == b)) deck else deck) ≤ length deck
few-staying deck b true = omega (arith, length-staying b deck)
few-staying deck b false = omega arith

few-without : (card : Card) (cards : List Card) → length (without_first card cards) ≤ length cards
few-without card [] = omega arith
few-without card (c ∷ cards) = few-chosen c cards (without_first card cards) (same_card card c) (few-without card cards)
  where
    few-chosen : (c : Card) (cards rest : List Card) (t : Bool) → length rest ≤ length cards
        → length (cond t cards (c ∷ rest)) ≤ length (c ∷ cards)
    few-chosen c cards rest true few = omega arith
    few-chosen c cards rest false few = omega (arith, few)

pub few-beside : (goal : Goal) (cards : List Card) → length (beside_hole goal cards) ≤ length cards
few-beside (Foundations base started take_back complete_runs) cards = omega arith
few-beside (Hole wrap Dealt) cards = omega (arith, length-drop 1 cards)
few-beside (Hole wrap (Named card)) cards = few-without card cards
few-beside Sequences cards = omega arith

pub few-first : (rules : RuleParts) (deck : List Card) → length (after_foundations rules deck) ≤ length deck
few-first rules deck = few-staying deck (base_of rules.goal) (is_started rules.goal)

pub few-left : (rules : RuleParts) (deck : List Card) → length (after_stock rules deck) ≤ length deck
few-left rules deck =
    omega (
      arith,
      few-staying deck (base_of rules.goal) (is_started rules.goal),
      few-beside rules.goal (after_foundations rules deck),
      length-drop rules.cells_filled (after_hole rules deck),
      length-drop rules.reserve (after_cells rules deck),
      length-drop rules.stock (after_reserve rules deck),
    )

-- The parts of the board, one by one.

same_parts : (a b : BoardParts) → a.tableau ≡ b.tableau → a.face_down ≡ b.face_down → a.cells ≡ b.cells
    → a.reserve ≡ b.reserve → a.stock ≡ b.stock
    → a.waste ≡ b.waste → a.redeals_left ≡ b.redeals_left → a.foundations ≡ b.foundations → a.hole ≡ b.hole
    → a.rows ≡ b.rows → a ≡ b
same_parts a b tableau face_down cells reserve stock waste redeals heights hole rows =
    ap (λ x. record a { tableau = x }) tableau
    ∙ ap (λ x. record a { tableau = b.tableau; face_down = x }) face_down
    ∙ ap (λ x. record a { tableau = b.tableau; face_down = b.face_down; cells = x }) cells
    ∙ ap (λ x. record a { tableau = b.tableau; face_down = b.face_down; cells = b.cells; reserve = x }) reserve
    ∙ ap (λ x. record a {
      tableau = b.tableau;
      face_down = b.face_down;
      cells = b.cells;
      reserve = b.reserve;
      stock = x;
    }) stock
    ∙ ap (λ x. record b {
      redeals_left = a.redeals_left;
      foundations = a.foundations;
      hole = a.hole;
      rows = a.rows;
      waste = x;
    }) waste
    ∙ ap (λ x. record b { foundations = a.foundations; hole = a.hole; rows = a.rows; redeals_left = x }) redeals
    ∙ ap (λ x. record b { hole = a.hole; rows = a.rows; foundations = x }) heights
    ∙ ap (λ x. record b { rows = a.rows; hole = x }) hole
    ∙ ap (λ x. record b { rows = x }) rows

pile-lists : (face : Face) (tableau : List (List Card)) → map (λ pile. pile.cards) (map (turned face) tableau) ≡ tableau
pile-lists face [] = refl
pile-lists AllUp (cards ∷ tableau) = ap (λ (xs : List (List Card)). cards ∷ xs) (pile-lists AllUp tableau)
pile-lists TopUp (cards ∷ tableau) = ap (λ (xs : List (List Card)). cards ∷ xs) (pile-lists TopUp tableau)

pile-downs : (face : Face) (tableau : List (List Card))
    → map (λ pile. pile.face_down) (map (turned face) tableau) ≡ map (λ cards. (turned face cards).face_down) tableau
pile-downs face [] = refl
pile-downs face (cards ∷ tableau) = ap (λ (xs : List ℕ). (turned face cards).face_down ∷ xs) (pile-downs face tableau)

no_rows-there : (rules : RuleParts) (board : Board) → is_sequence_goal rules.goal ≡ false
    → map (row_at rules board) (range_with_len 0 (row_count rules)) ≡ []
no_rows-there rules board plain =
    ap (λ (t : Bool). map (row_at rules board) (range_with_len 0 (if t then 4 * rules.decks else 0))) plain

pub laid_out-parts : (rules : RuleParts) (deck : List Card) (parts : BoardParts) → is_sequence_goal rules.goal ≡ false
    → parts.tableau ≡ piles_laid rules.layout rules.piles (after_stock rules deck)
    → parts.face_down ≡ map (λ cards. (turned rules.face cards).face_down) parts.tableau
    → parts.cells ≡ dealt_cells rules deck → parts.reserve ≡ dealt_reserve rules deck
    → parts.stock ≡ dealt_stock rules deck → parts.waste ≡ []
    → parts.redeals_left ≡ most_redeals rules.redeals → parts.foundations ≡ dealt_heights rules
    → parts.hole ≡ dealt_hole rules.goal (after_foundations rules deck)
    → parts.rows ≡ [] → parts ≡ parts_of rules (laid_out rules deck)
laid_out-parts rules deck parts plain tableau face_down cells reserve stock waste redeals heights hole rows =
    let piles : List (List Card) = piles_laid rules.layout rules.piles (after_stock rules deck) in
    let lists : parts.tableau ≡ map (λ pile. pile.cards) (dealt_piles rules deck) = tableau
    ∙ sym (pile-lists rules.face piles) in
    let downs : parts.face_down ≡ map (λ pile. pile.face_down) (dealt_piles rules deck) =
    face_down ∙ ap (λ (xs : List (List Card)). map (λ cards. (turned rules.face cards).face_down) xs) tableau
    ∙ sym (pile-downs rules.face piles) in
    let none : parts.rows ≡ map (row_at rules (laid_out rules deck)) (range_with_len 0 (row_count rules)) = rows
    ∙ sym (no_rows-there rules (laid_out rules deck) plain) in
    same_parts parts (parts_of rules (laid_out rules deck)) lists downs cells reserve stock waste
    redeals heights hole none

-- The board that is made of these parts.

pub dealt_board : (rules : RuleParts) (deck : List Card) (seed : ℕ) (parts : BoardParts) (board : Board)
    → Belongs rules (board_of_deck rules deck)
    → parts ≡ parts_of rules (board_of_deck rules deck) → board ≡ board_of_parts rules parts
    → deck ≡ shuffled_deck rules seed → board ≡ seed_board rules seed
unfolding seed_board
dealt_board rules deck seed parts board belongs is made shuffled_is =
    made ∙ ap (board_of_parts rules) is ∙ board-of_its_parts rules (board_of_deck rules deck) belongs
    ∙ ap (board_of_deck rules) shuffled_is

pub memory_alone : (rules : RuleParts) (deck : List Card) (parts : BoardParts) (fault : BoardFault)
    → Belongs rules (board_of_deck rules deck)
    → parts ≡ parts_of rules (board_of_deck rules deck) → (fault ≡ Memory)
    ⊎ (fault_of rules parts ≡ Some fault) → fault ≡ Memory
memory_alone rules deck parts fault belongs is (inl memory) = memory
memory_alone rules deck parts fault belongs is (inr wrong) =
    absurd (let both : None ≡ Some fault = sym (parts-have_no_fault rules (board_of_deck rules deck) belongs)
    ∙ ap (fault_of rules) (sym is) ∙ wrong in cc)
