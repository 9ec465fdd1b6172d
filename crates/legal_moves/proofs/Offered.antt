-- What the places of a board offer, and the moves that are listed of it.
use Rattle.std.proofs.Common.{◌≡◌, ℕ, ◌+◌, ◌-◌, ◌<◌, ◌≤◌, zero, suc, Bool, true, false, ◌&&◌, List, [], ◌∷◌, ◌++◌, map}
use Rattle.std.proofs.Common.{length, take, refl, ap, sym, ◌∙◌, arith, length-append, length-drop, drop, get_or}
use Rattle.std.proofs.Common.{append-nil, true≢false}
use Rattle.std.specs.Prelude.{Option, Some, None, is_some, not, ◌||◌, ◌==◌, cond, min, nat_lt, nat_le}
use Rattle.std.specs.Prelude.{slice_get, if◌then◌else◌}
use Rattle.std.specs.Option.{option_to_list}
use Rattle.std.specs.List.{All, filter, flat_map, range_with_len}
use Rattle.std.specs.Int.{bit_at}
use Rattle.std.proofs.lemmas.List.{take-take, take_more, map-append}
use Rattle.std.proofs.lemmas.List.Elements.{All-head, All-tail, filter-append}
use Rattle.std.proofs.lemmas.List.FromFn.{filter_of_map_range_with_len_more}
use Rattle.std.proofs.Math.Seq.{take-append_seam}
use Rattle.std.proofs.lemmas.Bool.Decides.{nat_tests}
use Rattle.std.proofs.lemmas.Bool.{lt-ltb, ltb-true, leb-true, eqb-true, false_from_ne_true}
use Rattle.std.proofs.Math.Bool.{and-true, and-false}
use Rattle.card_piles.specs.declared.Card.{Card}
use Rattle.card_piles.specs.Ranks.{IsRank}
use Rattle.card_sets.specs.declared.CardSet.{CardSet}
use Rattle.card_sets.specs.declared.CardBit.{CardBit}
use Rattle.card_sets.specs.Sets.{bit_of, has, has_bit}
use Rattle.card_sets.proofs.Bits.{bit_of-lt}
use Rattle.game_rules.specs.declared.RuleParts.{RuleParts}
use Rattle.game_rules.specs.declared.Move.{Move}
use Rattle.game_rules.specs.declared.Move.TheVariants.{Carry}
use Rattle.game_rules.specs.declared.Place.{Place}
use Rattle.game_rules.specs.declared.Place.TheVariants.{Tableau, Cell, Reserve, Waste, Foundation, Hole, Slot}
use Rattle.game_rules.specs.Rules.{moves_groups}
use Rattle.game_rules.specs.Board.{Board, Pile, has_place, pile_at, top_of}
use Rattle.game_rules.specs.Taking.{can_take, taken, single_at, most_taken}
use Rattle.game_rules.specs.Putting.{can_put, goes_on_pile}
use Rattle.game_rules.specs.Play.{is_legal_move, same_place}
use Rattle.game_rules.proofs.Limits.{both}
use Rattle.game_rules.specs.ByPlace.{legal_between}
use Rattle.legal_moves.specs.declared.offers.Offer.{Offer}
use Rattle.legal_moves.specs.Fits.{takes_groups, Fits}
use Rattle.legal_moves.specs.Runs.{most_given}
use Rattle.legal_moves.specs.Offers.{IsGiven, carry_of, legal_of, first_taken, StartsWith}
use Rattle.legal_moves.proofs.Runs.{Reached, Stops, gives-reached}

-- a list that begins with all of a longer list
pub StartsWith-append : {A : Type 0} (old more mid xs : List A) → mid ≡ old ++ more → StartsWith xs mid
    → StartsWith xs old
StartsWith-append old more mid xs e starts =
    let less : length old ≤ length mid = rw (e, length-append old more) (omega arith) in
    sym (take-take (length old) (length mid) xs less)
    ∙ ap (take (length old)) (starts ∙ e)
    ∙ take-append_seam old more

-- one offer more
pub legal_of-push : (rules : RuleParts) (board : Board) (offers : List Offer) (offer : Offer) (to : Place)
    → legal_of rules board (offers ++ offer ∷ []) to
    ≡ legal_of rules board offers to ++ filter (is_legal_move rules board) (carry_of to offer ∷ [])
legal_of-push rules board offers offer to =
    ap (filter (is_legal_move rules board)) (map-append (carry_of to) offers (offer ∷ []))
    ∙ filter-append (is_legal_move rules board) (map (carry_of to) offers) (carry_of to offer ∷ [])

-- the legal carries of at most n cards between two places
abbrev pub legal_up_to : RuleParts → Board → Place → Place → ℕ → List Move
legal_up_to rules board to from n =
    filter (is_legal_move rules board) (map (λ count. Carry from to count) (range_with_len 1 n))

pub legal_up_to-more : (rules : RuleParts) (board : Board) (to from : Place) (n : ℕ)
    → legal_up_to rules board to from (n + 1) ≡ legal_up_to rules board to from n ++ filter (is_legal_move rules board)
    (Carry from to (n + 1) ∷ [])
legal_up_to-more rules board to from n =
    filter_of_map_range_with_len_more (is_legal_move rules board) (λ count. Carry from to count) 1 n
    (n + 1) (omega arith)

pub not_given : (has other different can puts : Bool) → can ≡ false → (has && other && different && can && puts) ≡ false
not_given has other different can puts e = rw (e, and-false (has && other && different)) refl

-- cards that are not given are not moved
pub nothing_moved : (rules : RuleParts) (board : Board) (to from : Place) (n : ℕ) → can_take rules board from n ≡ false
    → filter (is_legal_move rules board) (Carry from to n ∷ []) ≡ []
nothing_moved rules board to from n none =
    rw
    (not_given (has_place rules board from) (has_place rules board to) (not (same_place from to))
    (can_take rules board from n)
    (can_put rules board to (taken rules board from n)) none)
    refl

up_to-stops : (rules : RuleParts) (board : Board) (to : Place) (i n d : ℕ) → Stops rules (pile_at board i) n
    → legal_up_to rules board to (Tableau i) (n + d) ≡ legal_up_to rules board to (Tableau i) n
up_to-stops rules board to i n zero stops = ap (legal_up_to rules board to (Tableau i)) (omega arith)
up_to-stops rules board to i n (suc d) stops =
    let place : n + suc d ≡ n + d + 1 = omega arith in
    ap (legal_up_to rules board to (Tableau i)) place
    ∙ legal_up_to-more rules board to (Tableau i) (n + d)
    ∙ ap (λ moves. legal_up_to rules board to (Tableau i) (n + d) ++ moves)
    (nothing_moved rules board to (Tableau i) (n + d + 1) (stops (n + d + 1) (omega arith)))
    ∙ append-nil (legal_up_to rules board to (Tableau i) (n + d))
    ∙ up_to-stops rules board to i n d stops

most-groups : (groups : Bool) (size down n : ℕ) → n ≤ cond groups (size - down) (min (size - down) 1)
    → n ≤ cond groups size 1
most-groups true size down n few = omega (arith, few)
most-groups false size down n few = omega (arith, few)

-- all that a pile gives
pub between-pile : (rules : RuleParts) (board : Board) (to : Place) (i n : ℕ) → Stops rules (pile_at board i) n
    → n ≤ most_given rules (pile_at board i)
    → legal_between rules board to (Tableau i) ≡ legal_up_to rules board to (Tableau i) n
between-pile rules board to i n stops few =
    let pile : Pile = pile_at board i in
    let less : n ≤ most_taken rules board (Tableau i) = most-groups (moves_groups rules.groups)
    (length pile.cards) pile.face_down n few in
    let place : most_taken rules board (Tableau i) ≡ n + (most_taken rules board (Tableau i) - n) =
    omega (arith, less) in
    ap (legal_up_to rules board to (Tableau i)) place
    ∙ up_to-stops rules board to i n (most_taken rules board (Tableau i) - n) stops

pub given-pile : (rules : RuleParts) (board : Board) (i : ℕ) (left : List Card) (card : Card) (n : ℕ) (bit : CardBit)
    → i < length board.piles → Reached rules (pile_at board i).cards left card n
    → n ≤ most_given rules (pile_at board i) → IsRank card.rank
    → bit.place ≡ bit_of card.suit card.rank
    → IsGiven rules board (record { from = Tableau i; count = n; bit = bit })
given-pile rules board i left card n bit here reached few ranked is = record {
  card = card;
  bit = is;
  here = lt-ltb i (length board.piles) here;
  can = gives-reached rules (pile_at board i) left card n reached few;
  rest = reached.rest;
  cards = reached.first;
  count = reached.size;
  ranked = ranked;
}

-- places other than piles give one card
can_take-single : (rules : RuleParts) (board : Board) (from : Place) → takes_groups from ≡ false
    → can_take rules board from 1 ≡ is_some (single_at rules board from)
can_take-single rules board (Tableau i) e = absurd (true≢false e)
can_take-single rules board from e = refl

taken-single : (rules : RuleParts) (board : Board) (from : Place) → takes_groups from ≡ false
    → taken rules board from 1 ≡ option_to_list (single_at rules board from)
taken-single rules board (Tableau i) e = absurd (true≢false e)
taken-single rules board from e = refl

pub between-single : (rules : RuleParts) (board : Board) (to from : Place) → takes_groups from ≡ false
    → legal_between rules board to from ≡ filter (is_legal_move rules board) (Carry from to 1 ∷ [])
between-single rules board to (Tableau i) e = absurd (true≢false e)
between-single rules board to (Cell i) e = refl
between-single rules board to (Reserve i) e = refl
between-single rules board to Waste e = refl
between-single rules board to (Foundation f) e = refl
between-single rules board to Hole e = refl
between-single rules board to (Slot i) e = refl

pub between-none : (rules : RuleParts) (board : Board) (to from : Place) → takes_groups from ≡ false
    → single_at rules board from ≡ None
    → legal_between rules board to from ≡ []
between-none rules board to from e none =
    between-single rules board to from e
    ∙ nothing_moved rules board to from 1 (can_take-single rules board from e ∙ ap (λ card. is_some card) none)

pub given-single : (rules : RuleParts) (board : Board) (from : Place) (card : Card) (bit : CardBit)
    → has_place rules board from ≡ true
    → takes_groups from ≡ false → single_at rules board from ≡ Some card → IsRank card.rank
    → bit.place ≡ bit_of card.suit card.rank
    → IsGiven rules board (record { from = from; count = 1; bit = bit })
given-single rules board from card bit here e some ranked is = record {
  card = card;
  bit = is;
  here = here;
  can = can_take-single rules board from e ∙ ap (λ c. is_some c) some;
  rest = [];
  cards = taken-single rules board from e ∙ ap option_to_list some;
  count = refl;
  ranked = ranked;
}

-- what is offered may go to a place where it can be put there, and does not lie there
pub legal-given : (rules : RuleParts) (board : Board) (offer : Offer) (to : Place) → IsGiven rules board offer
    → has_place rules board to ≡ true
    → is_legal_move rules board (carry_of to offer)
    ≡ (not (same_place offer.from to) && can_put rules board to (taken rules board offer.from offer.count))
legal-given rules board offer to given here =
    rw (given.here, here, given.can, and-true (not (same_place offer.from to))) refl

one_card : (rest n : ℕ) → rest + 1 ≡ n → (rest == 0) ≡ (n == 1)
one_card rest n e = grind (arith, nat_tests)

-- what a set says of it
pub fits-given : (rules : RuleParts) (board : Board) (offer : Offer) (to : Place) (set : CardSet)
    → IsGiven rules board offer → Fits rules board to set
    → can_put rules board to (taken rules board offer.from offer.count)
    ≡ ((takes_groups to || (offer.count == 1)) && has_bit set offer.bit)
fits-given rules board offer to set given fits =
    ap (can_put rules board to) given.cards
    ∙ fits given.card given.rest given.ranked
    ∙ ap (λ place. (takes_groups to || (length given.rest == 0)) && (bit_at set.bits place == 1)) (sym given.bit)
    ∙ ap (λ b. (takes_groups to || b) && has_bit set offer.bit) (one_card (length given.rest) offer.count given.count)

-- the first of cards that are given, by `first_taken`
if_some : {A : Type 0} (b : Bool) (o : Option A) (x : A) → (if b then o else None) ≡ Some x → (b ≡ true) × (o ≡ Some x)
if_some true o x e = (refl, e)
if_some false o x e = absurd cc

if_none : {A : Type 0} (b : Bool) (o : Option A) → (if b then o else None) ≡ None → b ≡ true → o ≡ None
if_none true o e h = e
if_none false o e h = absurd (true≢false (sym h))

head_of : {A : Type 0} (xs : List A) (x : A) → slice_get xs 0 ≡ Some x → xs ≡ x ∷ drop 1 xs
head_of [] x e = absurd cc
head_of (y ∷ ys) x e = cc

no_head : {A : Type 0} (xs : List A) → slice_get xs 0 ≡ None → length xs ≡ 0
no_head [] e = refl
no_head (y ∷ ys) e = absurd cc

some_listed : {A : Type 0} (o : Option A) → is_some o ≡ true → length (option_to_list o) ≡ 1
some_listed None e = absurd (true≢false (sym e))
some_listed (Some x) e = refl

single-size : (single : Option Card) (count : ℕ) → ((count == 1) && is_some single) ≡ true
    → (length (option_to_list single) ≡ count) × (1 ≤ count)
single-size single count e =
    let parts = both (count == 1) (is_some single) e in
    let one = eqb-true count 1 parts.0 in
    let long = some_listed single parts.1 in
    (omega (arith, one, long), omega (arith, one))

taken-size : (rules : RuleParts) (board : Board) (from : Place) (count : ℕ) → can_take rules board from count ≡ true
    → (length (taken rules board from count) ≡ count) × (1 ≤ count)
taken-size rules board (Tableau i) count e =
    let cards : List Card = (pile_at board i).cards in
    let groups = both _ _ e in
    let upto_groups = both _ _ groups.0 in
    let enough = both (nat_lt 0 count) (nat_le ((pile_at board i).face_down + count) (length cards)) upto_groups.0 in
    let some : 1 ≤ count = ltb-true 0 count enough.0 in
    let within : (pile_at board i).face_down + count ≤ length cards = leb-true _ _ enough.1 in
    (omega (arith, length-drop (length cards - count) cards, within), some)
taken-size rules board (Cell i) count e = single-size (single_at rules board (Cell i)) count e
taken-size rules board (Reserve i) count e = single-size (single_at rules board (Reserve i)) count e
taken-size rules board Waste count e = single-size (single_at rules board Waste) count e
taken-size rules board (Foundation f) count e = single-size (single_at rules board (Foundation f)) count e
taken-size rules board Hole count e = single-size (single_at rules board Hole) count e
taken-size rules board (Slot i) count e = single-size (single_at rules board (Slot i)) count e

pub given-taken : (rules : RuleParts) (board : Board) (from : Place) (count : ℕ) (card : Card) (bit : CardBit)
    → has_place rules board from ≡ true
    → first_taken rules board from count ≡ Some card → IsRank card.rank → bit.place ≡ bit_of card.suit card.rank
    → IsGiven rules board (record { from = from; count = count; bit = bit })
given-taken rules board from count card bit here e ranked is =
    let parts = if_some (can_take rules board from count) (slice_get (taken rules board from count) 0) card e in
    let cards = head_of (taken rules board from count) card parts.1 in
    let size = taken-size rules board from count parts.0 in
    let long : length (taken rules board from count) ≡ length (card ∷ drop 1 (taken rules board from count)) =
    ap (λ (xs : List Card). length xs) cards in
    record {
      here = here;
      can = parts.0;
      card = card;
      bit = is;
      rest = drop 1 (taken rules board from count);
      cards = cards;
      count = omega (arith, size.0, long);
      ranked = ranked;
    }

pub not-taken : (rules : RuleParts) (board : Board) (from : Place) (count : ℕ)
    → first_taken rules board from count ≡ None
    → can_take rules board from count ≡ false
not-taken rules board from count e =
    false_from_ne_true _ (λ yes.
    let none = no_head (taken rules board from count)
    (if_none (can_take rules board from count) (slice_get (taken rules board from count) 0) e yes) in
    let size = taken-size rules board from count yes in
    absurd (omega (arith, none, size.0, size.1)))

pub and-swap : (a b : Bool) → (a && b) ≡ (b && a)
and-swap true true = refl
and-swap true false = refl
and-swap false true = refl
and-swap false false = refl

-- what is offered may go to a place where the place's set has its first card
pub legal-fitted : (rules : RuleParts) (board : Board) (offer : Offer) (to : Place) (set : CardSet)
    → IsGiven rules board offer
    → has_place rules board to ≡ true → Fits rules board to set
    → is_legal_move rules board (carry_of to offer)
    ≡ (((takes_groups to || (offer.count == 1)) && has_bit set offer.bit) && not (same_place offer.from to))
legal-fitted rules board offer to set given here fits =
    legal-given rules board offer to given here
    ∙ ap (λ b. not (same_place offer.from to) && b) (fits-given rules board offer to set given fits)
    ∙ and-swap (not (same_place offer.from to)) ((takes_groups to || (offer.count == 1)) && has_bit set offer.bit)

legal_of-more : (rules : RuleParts) (board : Board) (offers : List Offer) (i : ℕ) (d : Offer) (to : Place)
    → i < length offers
    → legal_of rules board (take (i + 1) offers) to
    ≡ legal_of rules board (take i offers) to ++ filter (is_legal_move rules board)
    (carry_of to (get_or offers i d) ∷ [])
legal_of-more rules board offers i d to low =
    ap (λ xs. legal_of rules board xs to) (take_more offers i d low) ∙ legal_of-push rules board (take i offers)
    (get_or offers i d) to

pub legal_of-more_legal : (rules : RuleParts) (board : Board) (offers : List Offer) (i : ℕ) (d : Offer) (to : Place)
    → i < length offers
    → is_legal_move rules board (carry_of to (get_or offers i d)) ≡ true
    → legal_of rules board (take (i + 1) offers) to ≡ legal_of rules board (take i offers) to
    ++ carry_of to (get_or offers i d) ∷ []
legal_of-more_legal rules board offers i d to low legal =
    legal_of-more rules board offers i d to low
    ∙ ap (λ b. legal_of rules board (take i offers) to ++ cond b (carry_of to (get_or offers i d) ∷ []) []) legal

pub legal_of-more_not : (rules : RuleParts) (board : Board) (offers : List Offer) (i : ℕ) (d : Offer) (to : Place)
    → i < length offers
    → is_legal_move rules board (carry_of to (get_or offers i d)) ≡ false
    → legal_of rules board (take (i + 1) offers) to ≡ legal_of rules board (take i offers) to
legal_of-more_not rules board offers i d to low none =
    legal_of-more rules board offers i d to low
    ∙ ap (λ b. legal_of rules board (take i offers) to ++ cond b (carry_of to (get_or offers i d) ∷ []) []) none
    ∙ append-nil (legal_of rules board (take i offers) to)

-- a place whose set has none of the first cards takes nothing that is offered
pub legal_of-none : (rules : RuleParts) (board : Board) (offers : List Offer) (to : Place) (set free : CardSet)
    → All (IsGiven rules board) offers → All (λ offer. has_bit free offer.bit ≡ true) offers
    → has_place rules board to ≡ true → Fits rules board to set
    → ((bit : CardBit) → has_bit free bit ≡ true → has_bit set bit ≡ false)
    → legal_of rules board offers to ≡ []
legal_of-none rules board [] to set free given in_free here fits apart = refl
legal_of-none rules board (offer ∷ offers) to set free given in_free here fits apart =
    let out : has_bit set offer.bit ≡ false = apart offer.bit
    (All-head (λ (o : Offer). has_bit free o.bit ≡ true) offer offers in_free) in
    let none : is_legal_move rules board (carry_of to offer) ≡ false =
    legal-fitted rules board offer to set (All-head (IsGiven rules board) offer offers given) here fits
    ∙ rw (out, and-false (takes_groups to || (offer.count == 1))) refl in
    rw none (legal_of-none rules board offers to set free (All-tail (IsGiven rules board) offer offers given)
    (All-tail (λ (o : Offer). has_bit free o.bit ≡ true) offer offers in_free) here fits apart)

-- if no pile takes a card, nothing may go on one
put-closed : (rules : RuleParts) (board : Board) (i : ℕ) (cards : List Card)
    → ((top : Option Card) (card : Card) → goes_on_pile rules top card ≡ false)
    → can_put rules board (Tableau i) cards ≡ false
put-closed rules board i [] closed = refl
put-closed rules board i (card ∷ cards) closed = closed (top_of (pile_at board i).cards) card

pub legal_of-closed : (rules : RuleParts) (board : Board) (offers : List Offer)
    → ((top : Option Card) (card : Card) → goes_on_pile rules top card ≡ false) → (i : ℕ)
    → legal_of rules board offers (Tableau i) ≡ []
legal_of-closed rules board [] closed i = refl
legal_of-closed rules board (offer ∷ offers) closed i =
    let to : Place = Tableau i in
    rw (
      put-closed rules board i (taken rules board offer.from offer.count) closed,
      and-false (has_place rules board offer.from && has_place rules board to && not (same_place offer.from to)
          && can_take rules board offer.from offer.count),
    )
    (legal_of-closed rules board offers closed i)

pub flat_map-none : {A : Type 0} (f : A → List Move) (kind : ℕ → A) (ns : List ℕ) → ((n : ℕ) → f (kind n) ≡ [])
    → flat_map f (map kind ns) ≡ []
flat_map-none f kind [] none = refl
flat_map-none f kind (n ∷ ns) none = rw (none n) (flat_map-none f kind ns none)

pub low-bit : (rules : RuleParts) (board : Board) (offer : Offer) → IsGiven rules board offer → offer.bit.place < 64
low-bit rules board offer given = rw given.bit (bit_of-lt given.card.suit given.card.rank (omega (arith, given.ranked)))
