-- The exchange law: a safe move may be made first, and the rest of the line is one move shorter.
use Rattle.std.proofs.Common.{inl, inr, ◌≡◌, ℕ, ◌+◌, ◌-◌, ◌*◌, ◌<◌, ◌≤◌, suc, zero, Bool, true, false, ◌&&◌, ◌||◌, List}
use Rattle.std.proofs.Common.{[], ◌∷◌, length, length-drop, refl, ap, sym, ◌∙◌, subst, arith}
use Rattle.std.specs.Prelude.{IsTrue, not, Option, Some, None, is_none, is_some, nat_lt, ◌==◌, ◌⊎◌}
use Rattle.std.specs.Prelude.{slice_index_or, if◌then◌else◌}
use Rattle.std.specs.Option.{option_to_list}
use Rattle.std.specs.List.{list_all}
use Rattle.std.proofs.lemmas.Bool.{cases_Bool, eqb-true, ltb-true, or_left, and_from}
use Rattle.card_piles.specs.declared.Card.{Card}
use Rattle.card_piles.specs.declared.Suit.{Suit}
use Rattle.card_piles.specs.declared.Suit.TheVariants.{Clubs, Diamonds, Hearts, Spades}
use Rattle.card_piles.specs.Cards.{place_of}
use Rattle.card_piles.specs.Builds.{builds_on}
use Rattle.game_rules.specs.declared.RuleParts.{RuleParts}
use Rattle.game_rules.specs.declared.Target.{Target}
use Rattle.game_rules.specs.declared.Target.TheVariants.{ToWaste, ToTableau, ToHole}
use Rattle.game_rules.specs.declared.Place.{Place}
use Rattle.game_rules.specs.declared.Place.TheVariants.{Tableau, Cell, Reserve, Waste, Foundation, Hole, Slot}
use Rattle.game_rules.specs.declared.Move.{Move}
use Rattle.game_rules.specs.declared.Move.TheVariants.{Carry, Deal, Redeal}
use Rattle.game_rules.specs.Rules.{is_foundation_goal, takes_complete_runs, deals_to_tableau}
use Rattle.game_rules.specs.Rules.{foundation_suit, foundation_rank}
use Rattle.game_rules.specs.Playable.{IsPlayable, HasLimits}
use Rattle.game_rules.specs.Board.{Board, pile_at, entry_at, height_at, has_place, top_of, top_part}
use Rattle.game_rules.specs.Taking.{without, single_at, can_take, taken}
use Rattle.game_rules.specs.Putting.{can_put, is_next_on, is_complete_run, goes_on_pile}
use Rattle.game_rules.specs.Play.{same_place, after, after_deal_to, after_redeal, is_empty, Legal, is_legal_move}
use Rattle.game_rules.specs.Play.{is_legal_deal, is_legal_redeal}
use Rattle.game_rules.specs.Winning.{Won, Line, Wins}
use Rattle.game_rules.specs.Belonging.{Belongs, copies_of}
use Rattle.safe_moves.specs.Safe.{is_home, rules_allow, is_not_needed, gives_safely, is_safe}
use Rattle.game_rules.proofs.Limits.{both, limits_of}
use Rattle.game_rules.proofs.LegalFacts.{CarryFacts, carry_facts}
use Rattle.game_rules.proofs.KeepsBelonging.{belongs-after}
use Rattle.game_rules.proofs.Copies.{copies-without}
use Rattle.game_rules.proofs.ListFacts.{drop_last}
use Rattle.safe_moves.proofs.Elsewhere.{carried, is_source, Apart, AgreeAt, same_places, agree-without, place-without}
use Rattle.safe_moves.proofs.Elsewhere.{can_take-agree, taken-agree}
use Rattle.safe_moves.proofs.AtHome.{all_of_deck, taken-counted, taken_and_home, first-counted}
use Rattle.safe_moves.proofs.SafeFacts.{after_carry, Allowed, allowed, SafeFacts, source-gives, source-from_take}
use Rattle.safe_moves.proofs.SafeFacts.{target-from_put, one_copy, in_deck, apart_places, kept_safe, raised-heights}
use Rattle.safe_moves.proofs.SafeFacts.{won_is_bare, not_won, no_card}
use Rattle.safe_moves.proofs.SafeCases.{sent_home, Struck, Kept, other_places, alone_to_pile, alone_to_cell}
use Rattle.safe_moves.proofs.SafeCases.{group_to_pile, gives_facts}

-- one of three: the move was the safe one; it is struck out; another move stands for it
abbrev pub Outcome : RuleParts → Board → Place → ℕ → Card → Board → Type 0
Outcome rules board p f c next = (next ≡ sent_home rules board p f)
    ⊎ (Struck rules board p f c next ⊎ Kept rules board p f c next)

-- a foundation takes one card, of its suit and next rank
pub record NextFacts (rules : RuleParts) (board : Board) (f : ℕ) (card : Card) : Type 0 where
  pub suit : place_of card.suit ≡ foundation_suit f
  pub rank : card.rank ≡ foundation_rank rules (height_at board f)

next_facts : (rules : RuleParts) (board : Board) (f : ℕ) (card : Card)
    → IsTrue (is_next_on rules f (height_at board f) card) → NextFacts rules board f card
next_facts rules board f card h =
    let ranks = both (nat_lt (height_at board f) rules.max_rank && (place_of card.suit == foundation_suit f))
    (card.rank == foundation_rank rules (height_at board f)) h in
    let suits = both (nat_lt (height_at board f) rules.max_rank) (place_of card.suit == foundation_suit f) ranks.0 in
    record { suit = eqb-true _ _ suits.1; rank = eqb-true _ _ ranks.1 }

one_home : (runs a b : Bool) → runs ≡ false → IsTrue (if runs then a else b) → IsTrue b
one_home true a b off h = cc
one_home false a b off h = h

put_home : (rules : RuleParts) (board : Board) (f : ℕ) (card : Card) (cards : List Card) → Allowed rules
    → IsTrue (can_put rules board (Foundation f) (card ∷ cards)) → (length cards ≡ 0) × NextFacts rules board f card
put_home rules board f card cards allows h =
    let parts = both (length cards == 0) (is_next_on rules f (height_at board f) card)
    (one_home (takes_complete_runs rules.goal) (is_complete_run rules f (height_at board f) (card ∷ cards)) _
    allows.single h) in
    (eqb-true _ _ parts.0, next_facts rules board f card parts.1)

-- the suits have a foundation each
pub four : (b : Bool) (n : ℕ) → IsTrue b → n ≡ 1 → (if b then 4 * n else 0) ≡ 4
four true n h e = omega arith
four false n h e = cc

same_home : (rules : RuleParts) (board : Board) (f g : ℕ) (card : Card) → Allowed rules → Belongs rules board
    → IsTrue (has_place rules board (Foundation f))
    → IsTrue (has_place rules board (Foundation g)) → place_of card.suit ≡ foundation_suit f
    → place_of card.suit ≡ foundation_suit g → g ≡ f
same_home rules board f g card allows belongs here there h k =
    let count = four (is_foundation_goal rules.goal) rules.decks allows.goal allows.deck in
    let lf = ltb-true f (length board.heights) here in
    let lg = ltb-true g (length board.heights) there in
    omega (arith, count, lf, lg, belongs.foundations, h, k)

-- a card that builds on c cannot be taken from anywhere
not_or : (a b : Bool) → a ≡ true → (not a || b) ≡ true → b ≡ true
not_or true b h k = k
not_or false b h k = cc

covers_not : (rules : RuleParts) (board : Board) (p : Place) (f : ℕ) (c upper : Card) (uppers : List Card)
    (from : Place) (count : ℕ)
    → Allowed rules → Belongs rules board → SafeFacts rules board p f c → IsTrue (is_source from)
    → IsTrue (has_place rules board from)
    → IsTrue (can_take rules board from count) → taken rules board from count ≡ upper ∷ uppers
    → builds_on rules.build rules.wrap rules.max_rank upper c ≡ true → ⊥
covers_not rules board p f c upper uppers from count allows belongs safe s here takes e builds =
    let stands = taken-counted rules board from count upper uppers here takes e in
    let deck = in_deck rules board upper belongs stands in
    let limit = allows.limits.max_rank in
    let free = all_of_deck (λ upper. not (builds_on rules.build rules.wrap rules.max_rank upper c)
    || is_home rules board upper) rules.max_rank upper safe.free deck.low deck.high in
    let home = not_or (builds_on rules.build rules.wrap rules.max_rank upper c)
    (is_home rules board upper) builds free in
    let low = deck.low in
    let high : upper.rank ≤ 13 = (let l = deck.high in omega (arith, l, limit)) in
    let twice = taken_and_home rules board from count upper uppers allows.limits s here takes e low high home in
    omega (arith, twice, one_copy rules board upper allows belongs)

top_from_part : (top : Option Card) (c : Card) → option_to_list top ≡ c ∷ [] → top ≡ Some c
top_from_part None c h = cc
top_from_part (Some d) c h = cc

-- nothing can be put on the place of c
covered : (rules : RuleParts) (board : Board) (p : Place) (f : ℕ) (c : Card) (from : Place) (count : ℕ)
    (cards : List Card)
    → Allowed rules → Belongs rules board → SafeFacts rules board p f c → IsTrue (is_source from)
    → IsTrue (has_place rules board from)
    → IsTrue (can_take rules board from count) → taken rules board from count ≡ cards
    → IsTrue (can_put rules board p cards) → ⊥
covered rules board p f c from count [] allows belongs safe s here takes e h = grind (arith, h)
covered rules board (Tableau i) f c from count (u ∷ us) allows belongs safe s here takes e h =
    let top : top_of (pile_at board i).cards ≡ Some c = top_from_part _ c
    (sym (drop_last (pile_at board i).cards) ∙ safe.card) in
    covers_not rules board (Tableau i) f c u us from count allows belongs safe s here takes e
    (sym (ap (λ (top : Option Card). goes_on_pile rules top u) top) ∙ h)
covered rules board (Cell i) f c from count (u ∷ us) allows belongs safe s here takes e h =
    no_card (entry_at board.cells i) safe.takes (both (length us == 0) (is_none (entry_at board.cells i)) h).1
covered rules board (Reserve i) f c from count (u ∷ us) allows belongs safe s here takes e h = grind (arith, h)
covered rules board Waste f c from count (u ∷ us) allows belongs safe s here takes e h = grind (arith, h)
covered rules board (Foundation g) f c from count (u ∷ us) allows belongs safe s here takes e h =
    (let k = safe.gives in grind (arith, k))
covered rules board Hole f c from count (u ∷ us) allows belongs safe s here takes e h =
    (let k = safe.gives in grind (arith, k))
covered rules board (Slot i) f c from count (u ∷ us) allows belongs safe s here takes e h =
    (let k = safe.gives in grind (arith, k))

-- c stands once, so no other place gives it
suit_by_place : (a b : Suit) → place_of a ≡ place_of b → a ≡ b
suit_by_place Clubs Clubs h = refl
suit_by_place Diamonds Diamonds h = refl
suit_by_place Hearts Hearts h = refl
suit_by_place Spades Spades h = refl
suit_by_place a b h = absurd (omega arith)

pub same_cards : (a b : Card) → place_of a.suit ≡ place_of b.suit → a.rank ≡ b.rank → a ≡ b
same_cards a b suits ranks =
    ap (λ (s : Suit). record { suit = s; rank = a.rank }) (suit_by_place a.suit b.suit suits)
    ∙ ap (λ (r : ℕ). record { suit = b.suit; rank = r }) ranks

not_twice : (rules : RuleParts) (board : Board) (p : Place) (f : ℕ) (c : Card) (from : Place) (count : ℕ)
    (cards : List Card)
    → Allowed rules → Belongs rules board → SafeFacts rules board p f c → IsTrue (is_source from)
    → IsTrue (has_place rules board from)
    → IsTrue (can_take rules board from count) → Apart rules p from → taken rules board from count ≡ c ∷ cards → ⊥
not_twice rules board p f c from count cards allows belongs safe s here takes apart e =
    let sp = source-gives p safe.gives in
    let less : Board = without rules board p 1 in
    let all = copies-without rules board p 1 c safe.place safe.takes in
    let one = ap (copies_of c) safe.card in
    let agree = agree-without rules board p from 1 sp apart in
    let there = taken-counted rules less from count c cards (place-without rules board p from 1 sp ∙ here)
    (sym (can_take-agree rules board less from count s agree) ∙ takes)
    (sym (taken-agree rules board less from count s agree) ∙ e) in
    omega (arith, all, one, first-counted c [], there, one_copy rules board c allows belongs)

taken_elsewhere : (rules : RuleParts) (board : Board) (p : Place) (f : ℕ) (c : Card) (from : Place) (count : ℕ)
    (cards : List Card)
    → Allowed rules → Belongs rules board → SafeFacts rules board p f c → IsTrue (is_source from)
    → IsTrue (has_place rules board from)
    → IsTrue (can_take rules board from count) → Apart rules p from → taken rules board from count ≡ cards
    → IsTrue (can_put rules board (Foundation f) cards) → ⊥
taken_elsewhere rules board p f c from count [] allows belongs safe s here takes apart e h = grind (arith, h)
taken_elsewhere rules board p f c from count (d ∷ ds) allows belongs safe s here takes apart e h =
    let of_d = (put_home rules board f d ds allows h).1 in
    let of_c = next_facts rules board f c safe.next in
    let same : d ≡ c = same_cards d c (of_d.suit ∙ sym of_c.suit) (of_d.rank ∙ sym of_c.rank) in
    not_twice rules board p f c from count ds allows belongs safe s here takes apart
    (e ∙ ap (λ (x : Card). x ∷ ds) same)

-- a carry from another place
from_elsewhere : (rules : RuleParts) (board : Board) (p : Place) (f : ℕ) (c : Card) (from to : Place) (count : ℕ)
    → Allowed rules → Belongs rules board
    → SafeFacts rules board p f c → CarryFacts rules board from to count → same_place p from ≡ false
    → Kept rules board p f c (carried rules board from to count)
from_elsewhere rules board p f c from to count allows belongs safe facts other =
    let s = source-from_take rules board from count allows belongs facts.from_place facts.takes in
    let t = target-from_put rules board to (taken rules board from count) allows belongs facts.to_place facts.puts in
    let apart = apart_places rules board p from safe.place facts.from_place other in
    elim (cases_Bool (same_place p to)) [
      | inl on_c ↦ absurd (covered rules board p f c from count (taken rules board from count) allows belongs safe s
          facts.from_place facts.takes refl
          (subst (λ (q : Place). IsTrue (can_put rules board q (taken rules board from count)))
          (sym (same_places p to on_c)) facts.puts))
      | inr off_c ↦ elim (cases_Bool (same_place (Foundation f) to)) [
        | inl on_f ↦ absurd (taken_elsewhere rules board p f c from count
            (taken rules board from count) allows belongs safe s facts.from_place facts.takes apart refl
            (subst (λ (q : Place). IsTrue (can_put rules board q (taken rules board from count)))
            (sym (same_places (Foundation f) to on_f)) facts.puts))
        | inr off_f ↦ other_places rules board p f c from to count allows safe facts s t apart off_c off_f
      ]
    ]

-- c alone moves
alone : (rules : RuleParts) (board : Board) (p : Place) (f : ℕ) (c : Card) (to : Place) → Allowed rules
    → Belongs rules board
    → SafeFacts rules board p f c → CarryFacts rules board p to 1
    → Outcome rules board p f c (carried rules board p to 1)
alone rules board p f c (Tableau q) allows belongs safe facts =
    inr (inl (alone_to_pile rules board p f q c belongs safe facts.to_place facts.apart))
alone rules board p f c (Cell q) allows belongs safe facts =
    let puts : IsTrue (can_put rules board (Cell q) (c ∷ [])) =
    subst (λ (cards : List Card). IsTrue (can_put rules board (Cell q) cards)) safe.card facts.puts in
    inr (inl (alone_to_cell rules board p f q c safe facts.to_place puts facts.apart))
alone rules board p f c (Foundation g) allows belongs safe facts =
    let puts : IsTrue (can_put rules board (Foundation g) (c ∷ [])) =
    subst (λ (cards : List Card). IsTrue (can_put rules board (Foundation g) cards)) safe.card facts.puts in
    let there = (put_home rules board g c [] allows puts).1 in
    let here = next_facts rules board f c safe.next in
    let same : g ≡ f = same_home rules board f g c allows belongs safe.home facts.to_place here.suit there.suit in
    inl (ap (λ (h : ℕ). carried rules board p (Foundation h) 1) same)
alone rules board p f c (Reserve i) allows belongs safe facts = absurd (let t = target-from_put rules board (Reserve i)
    (taken rules board p 1) allows belongs facts.to_place facts.puts in grind (arith, t))
alone rules board p f c Waste allows belongs safe facts = absurd (let t = target-from_put rules board Waste
    (taken rules board p 1) allows belongs facts.to_place facts.puts in grind (arith, t))
alone rules board p f c Hole allows belongs safe facts = absurd (let t = target-from_put rules board Hole
    (taken rules board p 1) allows belongs facts.to_place facts.puts in grind (arith, t))
alone rules board p f c (Slot i) allows belongs safe facts = absurd (let t = target-from_put rules board (Slot i)
    (taken rules board p 1) allows belongs facts.to_place facts.puts in grind (arith, t))

-- c moves at the end of a group
one_card : (rest : Bool) (n : ℕ) → IsTrue ((n == 0) && rest) → n ≡ 0
one_card rest n h = eqb-true _ _ (both (n == 0) rest h).0

group_to : (rules : RuleParts) (board : Board) (i : ℕ) (f k : ℕ) (c : Card) (to : Place) (cards : List Card)
    → Allowed rules → Belongs rules board
    → SafeFacts rules board (Tableau i) f c → 0 < k → CarryFacts rules board (Tableau i) to (k + 1)
    → taken rules board (Tableau i) (k + 1) ≡ cards → length cards ≡ k + 1
    → Kept rules board (Tableau i) f c (carried rules board (Tableau i) to (k + 1))
group_to rules board i f k c to [] allows belongs safe some facts e size = absurd (omega arith)
group_to rules board i f k c (Tableau q) (d ∷ ds) allows belongs safe some facts e size =
    group_to_pile rules board i q f k c allows belongs safe some facts
group_to rules board i f k c (Cell q) (d ∷ ds) allows belongs safe some facts e size =
    let puts = subst (λ (cards : List Card). IsTrue (can_put rules board (Cell q) cards)) e facts.puts in
    let one = one_card (is_none (entry_at board.cells q)) (length ds) puts in
    absurd (omega (arith, one, size, some))
group_to rules board i f k c (Foundation g) (d ∷ ds) allows belongs safe some facts e size =
    let puts = subst (λ (cards : List Card). IsTrue (can_put rules board (Foundation g) cards)) e facts.puts in
    let one = (put_home rules board g d ds allows puts).0 in
    absurd (omega (arith, one, size, some))
group_to rules board i f k c (Reserve q) (d ∷ ds) allows belongs safe some facts e size = absurd
    (let t = target-from_put rules board (Reserve q) (taken rules board (Tableau i) (k + 1)) allows belongs
    facts.to_place facts.puts in grind (arith, t))
group_to rules board i f k c Waste (d ∷ ds) allows belongs safe some facts e size = absurd
    (let t = target-from_put rules board Waste (taken rules board (Tableau i) (k + 1)) allows belongs facts.to_place
    facts.puts in grind (arith, t))
group_to rules board i f k c Hole (d ∷ ds) allows belongs safe some facts e size = absurd (let t = target-from_put rules
    board Hole (taken rules board (Tableau i) (k + 1)) allows belongs facts.to_place facts.puts in grind (arith, t))
group_to rules board i f k c (Slot q) (d ∷ ds) allows belongs safe some facts e size = absurd
    (let t = target-from_put rules board (Slot q) (taken rules board (Tableau i) (k + 1)) allows belongs facts.to_place
    facts.puts in grind (arith, t))

top-length : (cards : List Card) (n : ℕ) → n ≤ length cards → length (top_part n cards) ≡ n
top-length cards n h = omega (arith, length-drop (length cards - n) cards)

-- a carry from the place of c
from_place_of_c : (rules : RuleParts) (board : Board) (p : Place) (f : ℕ) (c : Card) (to : Place) (count : ℕ)
    → Allowed rules → Belongs rules board
    → SafeFacts rules board p f c → CarryFacts rules board p to count
    → Outcome rules board p f c (carried rules board p to count)
from_place_of_c rules board (Tableau i) f c to zero allows belongs safe facts =
    absurd (let some = (gives_facts rules (pile_at board i) 0 facts.takes).some in omega (arith, some))
from_place_of_c rules board (Tableau i) f c to (suc zero) allows belongs safe facts = alone rules board
    (Tableau i) f c to allows belongs safe facts
from_place_of_c rules board (Tableau i) f c to (suc (suc k)) allows belongs safe facts =
    let n : suc (suc k) ≡ (k + 1) + 1 = omega arith in
    let moved : CarryFacts rules board (Tableau i) to
    ((k + 1) + 1) = subst (λ (n : ℕ). CarryFacts rules board (Tableau i) to n) n facts in
    let enough = (gives_facts rules (pile_at board i) ((k + 1) + 1) moved.takes).enough in
    let size : length (taken rules board (Tableau i) ((k + 1) + 1)) ≡ (k + 1) + 1 = top-length (pile_at board i).cards
    ((k + 1) + 1) (omega (arith, enough)) in
    let kept = group_to rules board i f (k + 1) c to (taken rules board (Tableau i) ((k + 1) + 1)) allows belongs safe
    (omega arith) moved refl size in
    subst (λ (n : ℕ). Outcome rules board (Tableau i) f c (carried rules board (Tableau i) to n))
    (sym n) (inr (inr kept))
from_place_of_c rules board (Cell i) f c to count allows belongs safe facts =
    let one : count ≡ 1 = eqb-true _ _ (both (count == 1) (is_some (single_at rules board (Cell i))) facts.takes).0 in
    subst (λ (n : ℕ). Outcome rules board (Cell i) f c (carried rules board (Cell i) to n)) (sym one)
    (alone rules board (Cell i) f c to allows belongs safe
    (subst (λ (n : ℕ). CarryFacts rules board (Cell i) to n) one facts))
from_place_of_c rules board (Reserve i) f c to count allows belongs safe facts =
    let one : count ≡ 1 = eqb-true _ _
    (both (count == 1) (is_some (single_at rules board (Reserve i))) facts.takes).0 in
    subst (λ (n : ℕ). Outcome rules board (Reserve i) f c (carried rules board (Reserve i) to n)) (sym one)
    (alone rules board (Reserve i) f c to allows belongs safe
    (subst (λ (n : ℕ). CarryFacts rules board (Reserve i) to n) one facts))
from_place_of_c rules board Waste f c to count allows belongs safe facts = absurd
    (let k = safe.gives in grind (arith, k))
from_place_of_c rules board (Foundation g) f c to count allows belongs safe facts = absurd
    (let k = safe.gives in grind (arith, k))
from_place_of_c rules board Hole f c to count allows belongs safe facts = absurd
    (let k = safe.gives in grind (arith, k))
from_place_of_c rules board (Slot i) f c to count allows belongs safe facts = absurd
    (let k = safe.gives in grind (arith, k))

-- a stock move leaves the places of c and its foundation as they are
pub record LeavesPlaces (rules : RuleParts) (a b : Board) (p : Place) (f : ℕ) : Type 0 where
  pub agree : AgreeAt rules a b p
  pub heights : a.heights ≡ b.heights
  pub place : has_place rules b p ≡ has_place rules a p

stock_move_safe : (rules : RuleParts) (a b : Board) (p : Place) (f : ℕ) (c : Card) → LeavesPlaces rules a b p f
    → SafeFacts rules a p f c → SafeFacts rules b p f c
stock_move_safe rules a b p f c same safe =
    kept_safe rules a b p f c safe same.agree
    (ap (λ (heights : List ℕ). slice_index_or heights f 0) same.heights) same.place
    (ap (λ (heights : List ℕ). nat_lt f (length heights)) (sym same.heights)) (raised-heights a b same.heights)

deal_leaves : (rules : RuleParts) (target : Target) (board : Board) (p : Place) (f : ℕ)
    → deals_to_tableau target ≡ false → IsTrue (gives_safely p)
    → LeavesPlaces rules board (after_deal_to target rules board) p f
deal_leaves rules ToWaste board (Tableau i) f off s = record { agree = refl; heights = refl; place = refl }
deal_leaves rules ToWaste board (Cell i) f off s = record { agree = refl; heights = refl; place = refl }
deal_leaves rules ToWaste board (Reserve i) f off s = record { agree = refl; heights = refl; place = refl }
deal_leaves rules ToHole board (Tableau i) f off s = record { agree = refl; heights = refl; place = refl }
deal_leaves rules ToHole board (Cell i) f off s = record { agree = refl; heights = refl; place = refl }
deal_leaves rules ToHole board (Reserve i) f off s = record { agree = refl; heights = refl; place = refl }
deal_leaves rules ToTableau board p f off s = cc
deal_leaves rules target board p f off s = absurd (grind (arith, s))

deal_commutes : (rules : RuleParts) (target : Target) (board : Board) (p : Place) (f : ℕ)
    → deals_to_tableau target ≡ false → IsTrue (gives_safely p)
    → sent_home rules (after_deal_to target rules board) p f ≡ after_deal_to target rules (sent_home rules board p f)
deal_commutes rules ToWaste board (Tableau i) f off s = refl
deal_commutes rules ToWaste board (Cell i) f off s = refl
deal_commutes rules ToWaste board (Reserve i) f off s = refl
deal_commutes rules ToHole board (Tableau i) f off s = refl
deal_commutes rules ToHole board (Cell i) f off s = refl
deal_commutes rules ToHole board (Reserve i) f off s = refl
deal_commutes rules ToTableau board p f off s = cc
deal_commutes rules target board p f off s = absurd (grind (arith, s))

deal_legal : (rules : RuleParts) (board : Board) (p : Place) (f : ℕ) → Allowed rules → IsTrue (gives_safely p)
    → IsTrue (is_legal_deal rules board)
    → IsTrue (is_legal_deal rules (sent_home rules board p f))
deal_legal rules board (Tableau i) f allows s h = and_from _ _ (both (not (is_empty board.stock)) _ h).0
    (or_left (not (deals_to_tableau rules.target)) _ (ap not allows.target))
deal_legal rules board (Cell i) f allows s h = and_from _ _ (both (not (is_empty board.stock)) _ h).0
    (or_left (not (deals_to_tableau rules.target)) _ (ap not allows.target))
deal_legal rules board (Reserve i) f allows s h = and_from _ _ (both (not (is_empty board.stock)) _ h).0
    (or_left (not (deals_to_tableau rules.target)) _ (ap not allows.target))
deal_legal rules board p f allows s h = absurd (grind (arith, s))

redeal_leaves : (rules : RuleParts) (board : Board) (p : Place) (f : ℕ) → IsTrue (gives_safely p)
    → LeavesPlaces rules board (after_redeal rules board) p f
redeal_leaves rules board (Tableau i) f s = record { agree = refl; heights = refl; place = refl }
redeal_leaves rules board (Cell i) f s = record { agree = refl; heights = refl; place = refl }
redeal_leaves rules board (Reserve i) f s = record { agree = refl; heights = refl; place = refl }
redeal_leaves rules board p f s = absurd (grind (arith, s))

redeal_commutes : (rules : RuleParts) (board : Board) (p : Place) (f : ℕ) → IsTrue (gives_safely p)
    → sent_home rules (after_redeal rules board) p f ≡ after_redeal rules (sent_home rules board p f)
redeal_commutes rules board (Tableau i) f s = refl
redeal_commutes rules board (Cell i) f s = refl
redeal_commutes rules board (Reserve i) f s = refl
redeal_commutes rules board p f s = absurd (grind (arith, s))

redeal_legal : (rules : RuleParts) (board : Board) (p : Place) (f : ℕ) → IsTrue (gives_safely p)
    → is_legal_redeal rules board ≡ is_legal_redeal rules (sent_home rules board p f)
redeal_legal rules board (Tableau i) f s = refl
redeal_legal rules board (Cell i) f s = refl
redeal_legal rules board (Reserve i) f s = refl
redeal_legal rules board p f s = absurd (grind (arith, s))

-- what becomes of a legal move on a board with a safe one
pub exchange_move : (rules : RuleParts) (board : Board) (p : Place) (f : ℕ) (c : Card) (move : Move) → Allowed rules
    → Belongs rules board
    → SafeFacts rules board p f c → Legal rules board move → Outcome rules board p f c (after rules board move)
exchange_move rules board p f c (Carry from to count) allows belongs safe legal =
    let facts = carry_facts rules board from to count legal in
    subst (λ (next : Board). Outcome rules board p f c next) (sym (after_carry rules board from to count allows))
    (elim (cases_Bool (same_place p from)) [
      | inl here ↦ (let same : p ≡ from = same_places p from here in
          subst (λ (q : Place). Outcome rules board p f c (carried rules board q to count)) same
          (from_place_of_c rules board p f c to count allows belongs safe
          (subst (λ (q : Place). CarryFacts rules board q to count) (sym same) facts)))
      | inr elsewhere ↦ inr (inr (from_elsewhere rules board p f c from to count allows belongs safe facts elsewhere))
    ])
exchange_move rules board p f c Deal allows belongs safe legal = inr (inr (record {
  place = p;
  instead = Deal;
  safe = stock_move_safe rules board (after rules board Deal) p f c
      (deal_leaves rules rules.target board p f allows.target safe.gives) safe;
  legal = deal_legal rules board p f allows safe.gives legal;
  same = deal_commutes rules rules.target board p f allows.target safe.gives;
}))
exchange_move rules board p f c Redeal allows belongs safe legal = inr (inr (record {
  place = p;
  instead = Redeal;
  safe = stock_move_safe rules board (after rules board Redeal) p f c (redeal_leaves rules board p f safe.gives) safe;
  legal = sym (redeal_legal rules board p f safe.gives) ∙ legal;
  same = redeal_commutes rules board p f safe.gives;
}))

-- a line to the same board that is shorter by a move
pub record Shorter (rules : RuleParts) (board : Board) (moves : List Move) (end : Board) : Type 0 where
  pub line_moves : List Move
  pub less : length line_moves + 1 ≤ length moves
  pub line : Line rules board line_moves end

pub exchange_line : (rules : RuleParts) (board : Board) (p : Place) (f : ℕ) (c : Card) (moves : List Move)
    (end : Board) → Allowed rules
    → IsPlayable rules → Belongs rules board → SafeFacts rules board p f c → Line rules board moves end → Won rules end
    → Shorter rules (sent_home rules board p f) moves end
exchange_line rules board p f c [] end allows playable belongs safe line won =
    absurd (not_won rules board p safe.gives safe.place safe.takes
    (won_is_bare rules board allows (subst (λ (b : Board). Won rules b) line won)))
exchange_line rules board p f c (move ∷ moves) end allows playable belongs safe line won =
    let next : Board = after rules board move in
    let belongs_next : Belongs rules next = belongs-after rules board move playable belongs line.0 in
    elim (exchange_move rules board p f c move allows belongs safe line.0) [
      | inl home ↦ record {
        line_moves = moves;
        less = omega arith;
        line = subst (λ (b : Board). Line rules b moves end) home line.1;
      }
      | inr (inl struck) ↦ (
          let rest = exchange_line rules next struck.place f c moves end allows playable belongs_next
          struck.safe line.1 won in
          record {
            line_moves = rest.line_moves;
            less = (let l = rest.less in omega (arith, l));
            line = subst (λ (b : Board). Line rules b rest.line_moves end) struck.same rest.line;
          })
      | inr (inr kept) ↦ (
          let rest = exchange_line rules next kept.place f c moves end allows playable belongs_next
          kept.safe line.1 won in
          record {
            line_moves = kept.instead ∷ rest.line_moves;
            less = (let l = rest.less in omega (arith, l));
            line = (kept.legal, subst (λ (b : Board). Line rules b rest.line_moves end) kept.same rest.line);
          })
    ]

-- one card is one card
pub record OneCard (cards : List Card) : Type 0 where
  pub c : Card
  pub is : cards ≡ c ∷ []

one_of_length : (cards : List Card) → length cards ≡ 1 → OneCard cards
one_of_length [] h = absurd (omega arith)
one_of_length (c ∷ []) h = record { c = c; is = refl }
one_of_length (c ∷ d ∷ cards) h = absurd (omega arith)

one_of_entry : (entry : Option Card) → IsTrue (is_some entry) → OneCard (option_to_list entry)
one_of_entry None h = cc
one_of_entry (Some c) h = record { c = c; is = refl }

pub one_taken : (rules : RuleParts) (board : Board) (p : Place) → IsTrue (gives_safely p)
    → IsTrue (can_take rules board p 1) → OneCard (taken rules board p 1)
one_taken rules board (Tableau i) s h =
    let enough = (gives_facts rules (pile_at board i) 1 h).enough in
    one_of_length _ (top-length (pile_at board i).cards 1 (omega (arith, enough)))
one_taken rules board (Cell i) s h = one_of_entry (entry_at board.cells i) h
one_taken rules board (Reserve i) s h = one_of_entry (single_at rules board (Reserve i)) h
one_taken rules board p s h = absurd (grind (arith, s))

-- a safe move sends the card of a place to its foundation
pub record IsSendingHome (rules : RuleParts) (board : Board) (p : Place) (f count : ℕ) : Type 0 where
  pub one : count ≡ 1
  pub allows : IsTrue (rules_allow rules)
  pub c : Card
  pub safe : HasLimits rules → SafeFacts rules board p f c

pub sending_home : (rules : RuleParts) (board : Board) (p : Place) (f count : ℕ)
    → IsTrue (is_safe rules board (Carry p (Foundation f) count))
    → IsSendingHome rules board p f count
sending_home rules board p f count h =
    let to_free = both _ _ h in
    let to_foundation = both _ _ to_free.0 in
    let to_gives = both _ _ to_foundation.0 in
    let to_count = both (rules_allow rules && is_legal_move rules board (Carry p (Foundation f) count))
    (count == 1) to_gives.0 in
    let to_legal = both (rules_allow rules) (is_legal_move rules board (Carry p (Foundation f) count)) to_count.0 in
    let one : count ≡ 1 = eqb-true _ _ to_count.1 in
    let facts : CarryFacts rules board p (Foundation f) 1 = subst (λ (n : ℕ). CarryFacts rules board p (Foundation f) n)
    one (carry_facts rules board p (Foundation f) count to_legal.1) in
    let card = one_taken rules board p to_gives.1 facts.takes in
    let free : IsTrue (list_all (is_not_needed rules board) (card.c ∷ []))
    = subst (λ (cards : List Card). IsTrue (list_all (is_not_needed rules board) cards)) card.is
    (subst (λ (n : ℕ). IsTrue (list_all (is_not_needed rules board) (taken rules board p n))) one to_free.1) in
    record {
      one = one;
      allows = to_legal.0;
      c = card.c;
      safe = λ limits. record {
        gives = to_gives.1;
        place = facts.from_place;
        home = facts.to_place;
        takes = facts.takes;
        card = card.is;
        next = one_home (takes_complete_runs rules.goal) (is_complete_run rules f (height_at board f) (card.c ∷ []))
            (is_next_on rules f (height_at board f) card.c)
            (allowed rules limits to_legal.0).single
            (subst (λ (cards : List Card). IsTrue (can_put rules board (Foundation f) cards)) card.is facts.puts);
        free = (both (is_not_needed rules board card.c) true free).0;
      };
    }

-- a carry to another place is not safe
pub no_foundation : (a c : Bool) → IsTrue (a && false && c) → ⊥
no_foundation true c h = cc
no_foundation false c h = cc

-- the law: where a board wins within n + 1 moves, it wins within n after a safe move
pub exchange : (rules : RuleParts) (board : Board) (move : Move) (n : ℕ) → IsPlayable rules → Belongs rules board
    → IsTrue (is_safe rules board move) → Wins rules (n + 1) board → Wins rules n (after rules board move)
exchange rules board (Carry p (Foundation f) count) n playable belongs safe wins =
    let limits = limits_of rules playable in
    let sends = sending_home rules board p f count safe in
    let shorter = exchange_line rules board p f sends.c wins.moves wins.end
    (allowed rules limits sends.allows) playable belongs (sends.safe limits) wins.line wins.won in
    let home : Wins rules n (sent_home rules board p f) = record {
      moves = shorter.line_moves;
      end = wins.end;
      short = (let l = shorter.less in let m = wins.short in omega (arith, l, m));
      line = shorter.line;
      won = wins.won;
    } in
    subst (λ (k : ℕ). Wins rules n (after rules board (Carry p (Foundation f) k))) (sym sends.one)
    (subst (λ (b : Board). Wins rules n b)
    (sym (after_carry rules board p (Foundation f) 1 (allowed rules limits sends.allows))) home)
exchange rules board Deal n playable belongs safe wins = absurd (grind (arith, safe))
exchange rules board Redeal n playable belongs safe wins = absurd (grind (arith, safe))
exchange rules board (Carry p (Tableau i) count) n playable belongs safe wins = absurd (no_foundation _ _ safe)
exchange rules board (Carry p (Cell i) count) n playable belongs safe wins = absurd (no_foundation _ _ safe)
exchange rules board (Carry p (Reserve i) count) n playable belongs safe wins = absurd (no_foundation _ _ safe)
exchange rules board (Carry p Waste count) n playable belongs safe wins = absurd (no_foundation _ _ safe)
exchange rules board (Carry p Hole count) n playable belongs safe wins = absurd (no_foundation _ _ safe)
exchange rules board (Carry p (Slot i) count) n playable belongs safe wins = absurd (no_foundation _ _ safe)

-- a board with a safe move is not won
pub safe-not_won : (rules : RuleParts) (board : Board) (move : Move) → IsPlayable rules
    → IsTrue (is_safe rules board move) → Won rules board → ⊥
safe-not_won rules board (Carry p (Foundation f) count) playable safe won =
    let limits = limits_of rules playable in
    let sends = sending_home rules board p f count safe in
    let facts = sends.safe limits in
    not_won rules board p facts.gives facts.place facts.takes
    (won_is_bare rules board (allowed rules limits sends.allows) won)
safe-not_won rules board Deal playable safe won = grind (arith, safe)
safe-not_won rules board Redeal playable safe won = grind (arith, safe)
safe-not_won rules board (Carry p (Tableau i) count) playable safe won = no_foundation _ _ safe
safe-not_won rules board (Carry p (Cell i) count) playable safe won = no_foundation _ _ safe
safe-not_won rules board (Carry p (Reserve i) count) playable safe won = no_foundation _ _ safe
safe-not_won rules board (Carry p Waste count) playable safe won = no_foundation _ _ safe
safe-not_won rules board (Carry p Hole count) playable safe won = no_foundation _ _ safe
safe-not_won rules board (Carry p (Slot i) count) playable safe won = no_foundation _ _ safe
