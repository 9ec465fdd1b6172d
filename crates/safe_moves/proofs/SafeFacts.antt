-- What a safe move is known to be, and what keeps it so.
use Rattle.std.proofs.Common.{inl, inr, ◌≡◌, ℕ, ◌+◌, ◌-◌, ◌*◌, ◌<◌, ◌≤◌, suc, zero, Bool, true, false, ◌&&◌, ◌||◌, List}
use Rattle.std.proofs.Common.{[], ◌∷◌, length, refl, ap, sym, ◌∙◌, subst, get_or, get_or-set_other, get_or-set_same}
use Rattle.std.proofs.Common.{length-set, arith}
use Rattle.std.specs.Prelude.{IsTrue, not, Option, Some, None, is_none, is_some, nat_lt, nat_le, ◌==◌, slice_set}
use Rattle.std.specs.Prelude.{slice_index_or, if◌then◌else◌}
use Rattle.std.specs.Option.{unwrap_or}
use Rattle.std.specs.List.{list_all}
use Rattle.std.proofs.lemmas.List.{set_past}
use Rattle.std.proofs.lemmas.Bool.{cases_eq, cases_lt, eqb-true, leb-true, ltb-true, not-true, and_from}
use Rattle.std.proofs.lemmas.Bool.Decides.{nat_tests}
use Rattle.card_piles.specs.declared.Card.{Card}
use Rattle.card_piles.specs.Builds.{builds_on}
use Rattle.game_rules.specs.declared.RuleParts.{RuleParts}
use Rattle.game_rules.specs.declared.Face.{Face}
use Rattle.game_rules.specs.declared.Face.TheVariants.{AllUp, TopUp}
use Rattle.game_rules.specs.declared.Goal.{Goal}
use Rattle.game_rules.specs.declared.Goal.TheVariants.{Foundations, Hole as HoleGoal, Sequences}
use Rattle.game_rules.specs.declared.Place.{Place}
use Rattle.game_rules.specs.declared.Place.TheVariants.{Tableau, Cell, Reserve, Waste, Foundation, Hole, Slot}
use Rattle.game_rules.specs.declared.Move.TheVariants.{Carry}
use Rattle.game_rules.specs.Rules.{is_foundation_goal, is_hole_goal, is_sequence_goal, takes_back}
use Rattle.game_rules.specs.Rules.{takes_complete_runs, deals_to_tableau}
use Rattle.game_rules.specs.Playable.{HasLimits}
use Rattle.game_rules.specs.Board.{Board, Pile, pile_at, entry_at, height_at, has_place, top_of, foundation_top}
use Rattle.game_rules.specs.Taking.{without, single_at, can_take, taken}
use Rattle.game_rules.specs.Putting.{with_cards, can_put, is_next_on}
use Rattle.game_rules.specs.Play.{same_place, after, is_empty, kind_of, number_of_place}
use Rattle.game_rules.specs.Winning.{Won}
use Rattle.game_rules.specs.Belonging.{Belongs, copies_on, lies_well}
use Rattle.safe_moves.specs.Safe.{is_home, deck_of, rules_allow, is_not_needed, gives_safely}
use Rattle.game_rules.proofs.Limits.{both}
use Rattle.safe_moves.proofs.Elsewhere.{carried, is_source, is_target, Apart, AgreeAt, agree-without, agree-with}
use Rattle.safe_moves.proofs.Elsewhere.{agree-trans, place-without, place-with, can_take-agree, taken-agree}
use Rattle.safe_moves.proofs.AtHome.{Raised, home-raised, heights-without}

-- rules that allow forced moves
pub record Allowed (rules : RuleParts) : Type 0 where
  pub goal : IsTrue (is_foundation_goal rules.goal)
  pub deck : rules.decks ≡ 1
  pub keeps : takes_back rules.goal ≡ false
  pub single : takes_complete_runs rules.goal ≡ false
  pub target : deals_to_tableau rules.target ≡ false
  pub limits : HasLimits rules

pub allowed : (rules : RuleParts) → HasLimits rules → IsTrue (rules_allow rules) → Allowed rules
allowed rules limits h =
    let to_target = both _ _ h in
    let to_single = both _ _ to_target.0 in
    let to_keeps = both _ _ to_single.0 in
    let to_deck = both (is_foundation_goal rules.goal) (rules.decks == 1) to_keeps.0 in
    record {
      goal = to_deck.0;
      deck = eqb-true _ _ to_deck.1;
      keeps = not-true _ to_keeps.1;
      single = not-true _ to_single.1;
      target = not-true _ to_target.1;
      limits = limits;
    }

no_hole : (goal : Goal) → IsTrue (is_foundation_goal goal) → is_hole_goal goal ≡ false
no_hole (Foundations base started take_back complete_runs) h = refl
no_hole (HoleGoal wrap start) h = absurd (grind (arith, h))
no_hole Sequences h = refl

no_rows : (goal : Goal) → IsTrue (is_foundation_goal goal) → is_sequence_goal goal ≡ false
no_rows (Foundations base started take_back complete_runs) h = refl
no_rows (HoleGoal wrap start) h = refl
no_rows Sequences h = absurd (grind (arith, h))

-- the card c can be carried from its place to its foundation f, and no card can still need it
pub record SafeFacts (rules : RuleParts) (board : Board) (from : Place) (f : ℕ) (c : Card) : Type 0 where
  pub gives : IsTrue (gives_safely from)
  pub place : IsTrue (has_place rules board from)
  pub home : IsTrue (has_place rules board (Foundation f))
  pub takes : IsTrue (can_take rules board from 1)
  pub card : taken rules board from 1 ≡ c ∷ []
  pub next : IsTrue (is_next_on rules f (height_at board f) c)
  pub free : IsTrue (is_not_needed rules board c)

pub source-gives : (from : Place) → IsTrue (gives_safely from) → IsTrue (is_source from)
source-gives (Tableau i) h = refl
source-gives (Cell i) h = refl
source-gives (Reserve i) h = refl
source-gives Waste h = refl
source-gives (Foundation f) h = h
source-gives Hole h = h
source-gives (Slot i) h = h

-- places that can be taken from and put on
nothing_back : (b : Bool) (e : Option Card) → b ≡ false → IsTrue (is_some (if b then e else None)) → ⊥
nothing_back true e h k = cc
nothing_back false e h k = cc

no_count : (b : Bool) (n : ℕ) → b ≡ false → (if b then n else 0) ≡ 0
no_count true n h = cc
no_count false n h = refl

no_slot : (rules : RuleParts) (board : Board) (i : ℕ) → Allowed rules → Belongs rules board
    → IsTrue (has_place rules board (Slot i)) → ⊥
no_slot rules board i allows belongs h =
    let none = no_count (is_sequence_goal rules.goal) (4 * rules.decks * rules.max_rank)
    (no_rows rules.goal allows.goal) in
    let within = ltb-true i (length board.slots) h in
    omega (arith, none, within, belongs.slots)

pub source-from_take : (rules : RuleParts) (board : Board) (from : Place) (count : ℕ) → Allowed rules
    → Belongs rules board
    → IsTrue (has_place rules board from) → IsTrue (can_take rules board from count) → IsTrue (is_source from)
source-from_take rules board (Tableau i) count allows belongs here h = refl
source-from_take rules board (Cell i) count allows belongs here h = refl
source-from_take rules board (Reserve i) count allows belongs here h = refl
source-from_take rules board Waste count allows belongs here h = refl
source-from_take rules board (Foundation f) count allows belongs here h =
    absurd (nothing_back (takes_back rules.goal) (foundation_top rules f (height_at board f)) allows.keeps
    (both (count == 1) _ h).1)
source-from_take rules board Hole count allows belongs here h = absurd
    (let k = (both (count == 1) _ h).1 in grind (arith, k))
source-from_take rules board (Slot i) count allows belongs here h = absurd (no_slot rules board i allows belongs here)

pub target-from_put : (rules : RuleParts) (board : Board) (to : Place) (cards : List Card) → Allowed rules
    → Belongs rules board
    → IsTrue (has_place rules board to) → IsTrue (can_put rules board to cards) → IsTrue (is_target to)
target-from_put rules board to [] allows belongs here h = absurd (grind (arith, h))
target-from_put rules board (Tableau i) (card ∷ cards) allows belongs here h = refl
target-from_put rules board (Cell i) (card ∷ cards) allows belongs here h = refl
target-from_put rules board (Reserve i) (card ∷ cards) allows belongs here h = h
target-from_put rules board Waste (card ∷ cards) allows belongs here h = h
target-from_put rules board (Foundation f) (card ∷ cards) allows belongs here h = refl
target-from_put rules board Hole (card ∷ cards) allows belongs here h = sym (no_hole rules.goal allows.goal) ∙ here
target-from_put rules board (Slot i) (card ∷ cards) allows belongs here h = absurd
    (no_slot rules board i allows belongs here)

-- how often a card stands
due_few : (b : Bool) (n : ℕ) → (if b then n else 0) ≤ n
due_few true n = omega arith
due_few false n = omega arith

due_some : (b : Bool) (n : ℕ) → 1 ≤ (if b then n else 0) → IsTrue b
due_some true n h = refl
due_some false n h = absurd (omega arith)

pub one_copy : (rules : RuleParts) (board : Board) (card : Card) → Allowed rules → Belongs rules board
    → copies_on rules board card ≤ 1
one_copy rules board card allows belongs =
    let few = due_few (nat_le 1 card.rank && nat_le card.rank rules.max_rank
    && not (is_sequence_goal rules.goal && (card.rank == 1))) rules.decks in
    omega (arith, few, belongs.cards card, allows.deck)

pub record InDeck (rules : RuleParts) (card : Card) : Type 0 where
  pub low : 1 ≤ card.rank
  pub high : card.rank ≤ rules.max_rank

pub in_deck : (rules : RuleParts) (board : Board) (card : Card) → Belongs rules board → 1 ≤ copies_on rules board card
    → InDeck rules card
in_deck rules board card belongs h =
    let some = due_some (nat_le 1 card.rank && nat_le card.rank rules.max_rank
    && not (is_sequence_goal rules.goal && (card.rank == 1))) rules.decks
    (omega (arith, h, belongs.cards card)) in
    let ranks = both _ _ some in
    let bounds = both (nat_le 1 card.rank) (nat_le card.rank rules.max_rank) ranks.0 in
    record { low = leb-true _ _ bounds.0; high = leb-true _ _ bounds.1 }

-- two places, the other way round
eqb_sym : (a b : ℕ) → (a == b) ≡ (b == a)
eqb_sym a b = grind (arith, nat_tests)

pub same_place-sym : (p q : Place) → same_place p q ≡ same_place q p
same_place-sym p q =
    ap (λ (b : Bool). b && (number_of_place p == number_of_place q)) (eqb_sym (kind_of p) (kind_of q))
    ∙ ap (λ (b : Bool). (kind_of q == kind_of p) && b) (eqb_sym (number_of_place p) (number_of_place q))

reserves_apart : (stacked : Bool) (i j n : ℕ) → IsTrue (if stacked then i == 0 else nat_lt i n)
    → IsTrue (if stacked then j == 0 else nat_lt j n)
    → (i == j) ≡ false → IsTrue (not stacked)
reserves_apart true i j n h k apart = absurd (grind (arith, nat_tests, h, k, apart))
reserves_apart false i j n h k apart = refl

pub apart_places : (rules : RuleParts) (board : Board) (p q : Place) → IsTrue (has_place rules board p)
    → IsTrue (has_place rules board q)
    → same_place p q ≡ false → Apart rules p q
apart_places rules board (Reserve i) (Reserve j) h k apart =
    record { places = apart; reserves = reserves_apart rules.stacked i j (length board.reserve) h k apart }
apart_places rules board p q h k apart = record { places = apart; reserves = refl }

pub apart-sym : (rules : RuleParts) (p q : Place) → Apart rules p q → Apart rules q p
apart-sym rules (Reserve i) (Reserve j) apart =
    record { places = same_place-sym (Reserve j) (Reserve i) ∙ apart.places; reserves = apart.reserves }
apart-sym rules (Tableau i) (Reserve j) apart =
    record { places = same_place-sym (Reserve j) (Tableau i) ∙ apart.places; reserves = refl }
apart-sym rules (Cell i) (Reserve j) apart =
    record { places = same_place-sym (Reserve j) (Cell i) ∙ apart.places; reserves = refl }
apart-sym rules Waste (Reserve j) apart =
    record { places = same_place-sym (Reserve j) Waste ∙ apart.places; reserves = refl }
apart-sym rules (Foundation i) (Reserve j) apart =
    record { places = same_place-sym (Reserve j) (Foundation i) ∙ apart.places; reserves = refl }
apart-sym rules Hole (Reserve j) apart =
    record { places = same_place-sym (Reserve j) Hole ∙ apart.places; reserves = refl }
apart-sym rules (Slot i) (Reserve j) apart =
    record { places = same_place-sym (Reserve j) (Slot i) ∙ apart.places; reserves = refl }
apart-sym rules p (Tableau j) apart = record { places = same_place-sym (Tableau j) p ∙ apart.places; reserves = refl }
apart-sym rules p (Cell j) apart = record { places = same_place-sym (Cell j) p ∙ apart.places; reserves = refl }
apart-sym rules p Waste apart = record { places = same_place-sym Waste p ∙ apart.places; reserves = refl }
apart-sym rules p (Foundation j) apart =
    record { places = same_place-sym (Foundation j) p ∙ apart.places; reserves = refl }
apart-sym rules p Hole apart = record { places = same_place-sym Hole p ∙ apart.places; reserves = refl }
apart-sym rules p (Slot j) apart = record { places = same_place-sym (Slot j) p ∙ apart.places; reserves = refl }

-- a place and a foundation
pub apart_home : (rules : RuleParts) (p : Place) (f : ℕ) → IsTrue (is_source p) → Apart rules p (Foundation f)
apart_home rules (Tableau i) f h = record { places = refl; reserves = refl }
apart_home rules (Cell i) f h = record { places = refl; reserves = refl }
apart_home rules (Reserve i) f h = record { places = refl; reserves = refl }
apart_home rules Waste f h = record { places = refl; reserves = refl }
apart_home rules (Foundation g) f h = absurd (grind (arith, h))
apart_home rules Hole f h = record { places = refl; reserves = refl }
apart_home rules (Slot i) f h = record { places = refl; reserves = refl }

-- a target is no reserve
pub apart_target : (rules : RuleParts) (p q : Place) → IsTrue (is_target q) → same_place p q ≡ false → Apart rules p q
apart_target rules (Tableau i) q h apart = record { places = apart; reserves = refl }
apart_target rules (Cell i) q h apart = record { places = apart; reserves = refl }
apart_target rules Waste q h apart = record { places = apart; reserves = refl }
apart_target rules (Foundation i) q h apart = record { places = apart; reserves = refl }
apart_target rules Hole q h apart = record { places = apart; reserves = refl }
apart_target rules (Slot i) q h apart = record { places = apart; reserves = refl }
apart_target rules (Reserve i) (Reserve j) h apart = absurd (grind (arith, h))
apart_target rules (Reserve i) (Tableau j) h apart = record { places = apart; reserves = refl }
apart_target rules (Reserve i) (Cell j) h apart = record { places = apart; reserves = refl }
apart_target rules (Reserve i) Waste h apart = record { places = apart; reserves = refl }
apart_target rules (Reserve i) (Foundation j) h apart = record { places = apart; reserves = refl }
apart_target rules (Reserve i) Hole h apart = record { places = apart; reserves = refl }
apart_target rules (Reserve i) (Slot j) h apart = record { places = apart; reserves = refl }

-- where the rules allow forced moves, a carry moves its cards and nothing else
pub after_carry : (rules : RuleParts) (board : Board) (from to : Place) (count : ℕ) → Allowed rules
    → after rules board (Carry from to count) ≡ carried rules board from to count
after_carry rules board from to count allows = refl

-- what a carry leaves at other places
pub agree-after : (rules : RuleParts) (board : Board) (from to : Place) (count : ℕ) (q : Place)
    → IsTrue (is_source from) → Apart rules from q
    → same_place to q ≡ false → AgreeAt rules board (carried rules board from to count) q
agree-after rules board from to count q s apart other =
    agree-trans rules board (without rules board from count) (carried rules board from to count) q
    (agree-without rules board from q count s apart)
    (agree-with rules (without rules board from count) to q (taken rules board from count) other)

pub place-after : (rules : RuleParts) (board : Board) (from to : Place) (count : ℕ) (q : Place)
    → IsTrue (is_source from) → IsTrue (is_target to)
    → has_place rules (carried rules board from to count) q ≡ has_place rules board q
place-after rules board from to count q s t =
    place-with rules (without rules board from count) to q (taken rules board from count) t
    ∙ place-without rules board from q count s

-- foundations only grow
raised_write : (xs : List ℕ) (g f k : ℕ)
    → slice_index_or xs f 0 ≤ slice_index_or (slice_set xs g (slice_index_or xs g 0 + k)) f 0
raised_write xs g f k =
    elim (cases_eq f g) [
      | inl same ↦ elim (cases_lt g (length xs)) [
        | inl within ↦ (let new = get_or-set_same xs g (get_or xs g 0 + k) 0 within in
            subst (λ (j : ℕ). get_or xs j 0 ≤ get_or (slice_set xs g (get_or xs g 0 + k)) j 0) (sym same)
            (omega (arith, new)))
        | inr past ↦ (let new = set_past xs g (get_or xs g 0 + k) past in
            subst (λ (ys : List ℕ). get_or xs f 0 ≤ get_or ys f 0) (sym new) (omega arith))
      ]
      | inr other ↦ omega (arith, get_or-set_other xs g f (get_or xs g 0 + k) 0 other)
    ]

pub raised-with : (board : Board) (to : Place) (cards : List Card) → IsTrue (is_target to)
    → Raised board (with_cards board to cards)
raised-with board (Tableau i) cards t = record { many = refl; heights = λ f. omega arith }
raised-with board (Cell i) cards t = record { many = refl; heights = λ f. omega arith }
raised-with board (Foundation g) cards t =
    record { many = sym (length-set board.heights g _); heights = λ f. raised_write board.heights g f (length cards) }
raised-with board (Reserve i) cards t = absurd (grind (arith, t))
raised-with board Waste cards t = absurd (grind (arith, t))
raised-with board Hole cards t = absurd (grind (arith, t))
raised-with board (Slot i) cards t = absurd (grind (arith, t))

pub raised-heights : (a b : Board) → a.heights ≡ b.heights → Raised a b
raised-heights a b h = record {
  many = ap length h;
  heights = λ f. (let e = ap (λ (xs : List ℕ). slice_index_or xs f 0) h in omega (arith, e));
}

pub raised-trans : (a b c : Board) → Raised a b → Raised b c → Raised a c
raised-trans a b c h k = record {
  many = h.many ∙ k.many;
  heights = λ f.
      (let l = h.heights f in let m = k.heights f in omega (arith, l, m));
}

pub raised-after : (rules : RuleParts) (board : Board) (from to : Place) (count : ℕ) → IsTrue (is_source from)
    → IsTrue (is_target to)
    → Raised board (carried rules board from to count)
raised-after rules board from to count s t =
    raised-trans board (without rules board from count) _
    (raised-heights _ _ (sym (heights-without rules board from count s)))
    (raised-with (without rules board from count) to (taken rules board from count) t)

-- a card that was not needed is not needed later
all_weaker : {A : Type 0} (p q : A → Bool) (xs : List A) → ((x : A) → p x ≡ true → q x ≡ true) → list_all p xs ≡ true
    → list_all q xs ≡ true
all_weaker p q [] imp h = refl
all_weaker p q (x ∷ xs) imp h =
    (let parts = both (p x) (list_all p xs) h in and_from _ _ (imp x parts.0) (all_weaker p q xs imp parts.1))

or_weaker : (a b c : Bool) → (b ≡ true → c ≡ true) → (a || b) ≡ true → (a || c) ≡ true
or_weaker true b c imp h = refl
or_weaker false b c imp h = imp h

pub free-later : (rules : RuleParts) (a b : Board) (c : Card) → Raised a b → IsTrue (is_not_needed rules a c)
    → IsTrue (is_not_needed rules b c)
free-later rules a b c up h =
    all_weaker (λ upper. not (builds_on rules.build rules.wrap rules.max_rank upper c) || is_home rules a upper)
    (λ upper. not (builds_on rules.build rules.wrap rules.max_rank upper c) || is_home rules b upper)
    (deck_of rules.max_rank)
    (λ upper. or_weaker (not (builds_on rules.build rules.wrap rules.max_rank upper c)) (is_home rules a upper)
    (is_home rules b upper) (home-raised rules a b upper up)) h

-- a safe move stays one on a board that agrees at its places
pub kept_safe : (rules : RuleParts) (a b : Board) (p : Place) (f : ℕ) (c : Card) → SafeFacts rules a p f c
    → AgreeAt rules a b p
    → height_at a f ≡ height_at b f → has_place rules b p ≡ has_place rules a p
    → has_place rules b (Foundation f) ≡ has_place rules a (Foundation f) → Raised a b → SafeFacts rules b p f c
kept_safe rules a b p f c safe agree heights place home up =
    let s = source-gives p safe.gives in
    record {
      gives = safe.gives;
      place = place ∙ safe.place;
      home = home ∙ safe.home;
      takes = sym (can_take-agree rules a b p 1 s agree) ∙ safe.takes;
      card = sym (taken-agree rules a b p 1 s agree) ∙ safe.card;
      next = subst (λ (h : ℕ). IsTrue (is_next_on rules f h c)) heights safe.next;
      free = free-later rules a b c up safe.free;
    }

-- a board with a card to take is not won
pub no_card : (entry : Option Card) → IsTrue (is_some entry) → is_none entry ≡ true → ⊥
no_card None h k = cc
no_card (Some c) h k = cc

pub all_at : {A : Type 0} (p : A → Bool) (xs : List A) (i : ℕ) (d : A) → list_all p xs ≡ true → i < length xs
    → p (slice_index_or xs i d) ≡ true
all_at p [] i d h here = absurd (omega arith)
all_at p (x ∷ xs) zero d h here = (both (p x) (list_all p xs) h).0
all_at p (x ∷ xs) (suc i) d h here = all_at p xs i d (both (p x) (list_all p xs) h).1 (omega arith)

top_is_none : (entries : List (Option Card)) → list_all (λ e. is_none e) entries ≡ true
    → is_none (unwrap_or (top_of entries) None) ≡ true
top_is_none [] h = refl
top_is_none (e ∷ []) h = (both (is_none e) true h).0
top_is_none (e ∷ d ∷ entries) h =
    let n : length (e ∷ d ∷ entries) - 1 ≡ suc (length (d ∷ entries) - 1) = omega arith in
    rw n (top_is_none (d ∷ entries) (both (is_none e) (list_all (λ e. is_none e) (d ∷ entries)) h).1)

reserve_is_none : (stacked : Bool) (entries : List (Option Card)) (i : ℕ) → list_all (λ e. is_none e) entries ≡ true
    → IsTrue (if stacked then i == 0 else nat_lt i (length entries))
    → is_none (if stacked then unwrap_or (top_of entries) None else entry_at entries i) ≡ true
reserve_is_none true entries i h here = top_is_none entries h
reserve_is_none false entries i h here = all_at (λ e. is_none e) entries i None h (ltb-true _ _ here)

pile_is_none : (cards : List Card) (down : ℕ) → is_empty cards ≡ true → down + 1 ≤ length cards → ⊥
pile_is_none [] down h k = omega arith
pile_is_none (c ∷ cards) down h k = cc

-- a won board, part by part
pub record IsBare (board : Board) : Type 0 where
  pub piles : list_all (λ pile. is_empty pile.cards) board.piles ≡ true
  pub cells : list_all (λ e. is_none e) board.cells ≡ true
  pub reserve : list_all (λ e. is_none e) board.reserve ≡ true

bare_from : (rows x : Bool) (board : Board) → rows ≡ false
    → IsTrue (if rows then x else
    (list_all (λ pile. is_empty pile.cards) board.piles && list_all (λ e. is_none e) board.cells
    && list_all (λ e. is_none e) board.reserve
    && is_empty board.stock && is_empty board.waste))
    → IsBare board
bare_from true x board off h = cc
bare_from false x board off h =
    let to_waste = both _ _ h in
    let to_stock = both _ _ to_waste.0 in
    let to_reserve = both _ _ to_stock.0 in
    let to_cells = both _ _ to_reserve.0 in
    record { piles = to_cells.0; cells = to_cells.1; reserve = to_reserve.1 }

pub won_is_bare : (rules : RuleParts) (board : Board) → Allowed rules → Won rules board → IsBare board
won_is_bare rules board allows h = bare_from (is_sequence_goal rules.goal) _ board (no_rows rules.goal allows.goal) h

pub not_won : (rules : RuleParts) (board : Board) (from : Place) → IsTrue (gives_safely from)
    → IsTrue (has_place rules board from)
    → IsTrue (can_take rules board from 1) → IsBare board → ⊥
not_won rules board (Tableau i) s here takes bare =
    let empty = all_at (λ (pile : Pile). is_empty pile.cards) board.piles i _ bare.piles (ltb-true _ _ here) in
    let groups = both _ _ takes in
    let upto_groups = both _ _ groups.0 in
    let enough = both (nat_lt 0 1)
    (nat_le ((pile_at board i).face_down + 1) (length (pile_at board i).cards)) upto_groups.0 in
    pile_is_none (pile_at board i).cards (pile_at board i).face_down empty (leb-true _ _ enough.1)
not_won rules board (Cell i) s here takes bare =
    no_card (entry_at board.cells i) takes (all_at (λ e. is_none e) board.cells i None bare.cells (ltb-true _ _ here))
not_won rules board (Reserve i) s here takes bare =
    no_card (single_at rules board (Reserve i)) takes (reserve_is_none rules.stacked board.reserve i bare.reserve here)
not_won rules board Waste s here takes bare = grind (arith, s)
not_won rules board (Foundation f) s here takes bare = grind (arith, s)
not_won rules board Hole s here takes bare = grind (arith, s)
not_won rules board (Slot i) s here takes bare = grind (arith, s)

-- the top of a pile is face up
lies_up : (face : Face) (pile : Pile) → lies_well face pile ≡ true → pile.face_down ≤ length pile.cards - 1
lies_up AllUp pile h = (let e = eqb-true pile.face_down 0 h in omega (arith, e))
lies_up TopUp pile h = leb-true _ _ h

pub face_up : (rules : RuleParts) (board : Board) (i : ℕ) → Belongs rules board
    → IsTrue (has_place rules board (Tableau i))
    → (pile_at board i).face_down ≤ length (pile_at board i).cards - 1
face_up rules board i belongs here =
    lies_up rules.face (pile_at board i)
    (all_at (lies_well rules.face) board.piles i _ belongs.faces (ltb-true _ _ here))
