-- What a deck in order holds.
use Rattle.std.proofs.Common.{◌≡◌, ℕ, ◌+◌, ◌*◌, ◌<◌, ◌≤◌, zero, suc, Bool, true, false, ◌&&◌, List, [], ◌∷◌, ◌++◌, map}
use Rattle.std.proofs.Common.{length, refl, ap, sym, ◌∙◌, arith, inl, inr, mul-le-mul_left}
use Rattle.std.specs.Prelude.{◌==◌, nat_le, cond}
use Rattle.std.specs.List.{sum_by, count_by, flat_map, range_with_len}
use Rattle.std.proofs.lemmas.List.Sums.{sum_by-append, sum_by-cons, sum_by_push}
use Rattle.std.proofs.lemmas.List.FromFn.{length-map-range_with_len}
use Rattle.std.proofs.lemmas.List.Sorted.{sum_by-IsPermutation}
use Rattle.std.specs.List.Sorted.{IsPermutation}
use Rattle.std.proofs.lemmas.Bool.{eq-eqb, ne_eqb, le-leb, lt-leb, cases_lt, cases_order, and_from, and_left, and_right}
use Rattle.std.proofs.lemmas.Bool.Decides.{nat_tests}
use Rattle.card_piles.specs.declared.Card.{Card}
use Rattle.card_piles.specs.declared.Suit.{Suit}
use Rattle.card_piles.specs.declared.Suit.TheVariants.{Clubs, Diamonds, Hearts, Spades}
use Rattle.card_piles.specs.Builds.{same_suit}
use Rattle.game_rules.specs.declared.RuleParts.{RuleParts}
use Rattle.game_rules.specs.Playable.{HasLimits}
use Rattle.game_rules.specs.Belonging.{same_card, copies_of}
use Rattle.game_rules.proofs.FewCards.{once, sum_by-same}
use Rattle.game_rules.proofs.PositionLoops.{range-more}
use Rattle.seed_deal.specs.Shuffle.{suit_in_order, one_deck, deck_in_order}

-- sums over decks, and over the suits of a deck
pub sum-decks : (f : Card → ℕ) (m a n : ℕ)
    → sum_by f (flat_map (λ copy. one_deck m) (range_with_len a n)) ≡ n * sum_by f (one_deck m)
sum-decks f m a zero = let none : 0 * sum_by f (one_deck m) ≡ 0 = omega arith in sym none
sum-decks f m a (suc n) =
    let cut = sum_by-append f (one_deck m) (flat_map (λ copy. one_deck m) (range_with_len (a + 1) n)) in
    let rest = sum-decks f m (a + 1) n in
    let product : suc n * sum_by f (one_deck m) ≡ sum_by f (one_deck m) + n * sum_by f (one_deck m) = omega arith in
    omega (arith, cut, rest, product)

pub sum-suits : (f : Card → ℕ) (m : ℕ) → sum_by f (one_deck m)
    ≡ sum_by f (suit_in_order m Clubs) + sum_by f (suit_in_order m Diamonds) + sum_by f
    (suit_in_order m Hearts) + sum_by f (suit_in_order m Spades)
sum-suits f m =
    let last : List Card = suit_in_order m Spades ++ [] in
    let three : List Card = suit_in_order m Hearts ++ last in
    let two : List Card = suit_in_order m Diamonds ++ three in
    omega (
      arith,
      sum_by-append f (suit_in_order m Clubs) two,
      sum_by-append f (suit_in_order m Diamonds) three,
      sum_by-append f (suit_in_order m Hearts) last,
      sum_by-append f (suit_in_order m Spades) [],
    )

-- a sum over a suit is a sum over its places
sum-mapped : {A B : Type 0} (g : B → ℕ) (h : A → B) (xs : List A) → sum_by g (map h xs) ≡ sum_by (λ x. g (h x)) xs
sum-mapped g h [] = refl
sum-mapped g h (x ∷ xs) = omega
    (arith, sum_by-cons g (h x) (map h xs), sum_by-cons (λ y. g (h y)) x xs, sum-mapped g h xs)

sum-constant : {A : Type 0} (n : ℕ) (xs : List A) → sum_by (λ x. n) xs ≡ n * length xs
sum-constant n [] = let none : n * 0 ≡ 0 = omega arith in sym none
sum-constant n (x ∷ xs) =
    let product : n * length (x ∷ xs) ≡ n + n * length xs = omega arith in
    omega (arith, sum_by-cons (λ y. n) x xs, sum-constant n xs, product)

-- whether a rank is one of those from 1 to m
abbrev pub in_range : ℕ → ℕ → Bool
in_range r m = nat_le 1 r && nat_le r m

pub in_range-yes : (r m : ℕ) → 1 ≤ r → r ≤ m → in_range r m ≡ true
in_range-yes r m low high = and_from (nat_le 1 r) (nat_le r m) (le-leb 1 r low) (le-leb r m high)

in_range-low : (r m : ℕ) → r < 1 → in_range r m ≡ false
in_range-low r m low = and_left (nat_le 1 r) (nat_le r m) (lt-leb 1 r low)

in_range-high : (r m : ℕ) → m < r → in_range r m ≡ false
in_range-high r m high = and_right (nat_le 1 r) (nat_le r m) (lt-leb r m high)

-- a rank stands once among the ranks from 1 to m, or not at all
ranks-once : (r m : ℕ) → sum_by (λ p. once (r == p + 1)) (range_with_len 0 m) ≡ once (in_range r m)
ranks-once r zero =
    elim (cases_lt r 1) [
      | inl low ↦ sym (ap once (in_range-low r 0 low))
      | inr some ↦ sym (ap once (in_range-high r 0 (omega (arith, some))))
    ]
ranks-once r (suc m) =
    let f : ℕ → ℕ = λ (p : ℕ). once (r == p + 1) in
    let one : suc m ≡ m + 1 = omega arith in
    let more : sum_by f (range_with_len 0 (m + 1)) ≡ sum_by f (range_with_len 0 m) + once (r == m + 1) = ap (sum_by f)
    (range-more m) ∙ sum_by_push f (range_with_len 0 m) m in
    let below = ranks-once r m in
    let whole : sum_by f (range_with_len 0 (suc m)) ≡ sum_by f (range_with_len 0 (m + 1)) =
    ap (λ (k : ℕ). sum_by f (range_with_len 0 k)) one in
    let last : once (in_range r (suc m)) ≡ once (in_range r (m + 1)) = ap (λ (k : ℕ). once (in_range r k)) one in
    elim (cases_order r (m + 1)) [
      | inl same ↦
          let here = ap once (eq-eqb r (m + 1) same) in
          let before = ap once (in_range-high r m (omega (arith, same))) in
          let after = ap once (in_range-yes r (m + 1) (omega (arith, same)) (omega (arith, same))) in
          omega (arith, more, below, whole, last, here, before, after)
      | inr other ↦
          elim other [
            | inl less ↦
                let here = ap once (ne_eqb r (m + 1) (λ e. absurd (omega (arith, e, less)))) in
                elim (cases_lt r 1) [
                  | inl low ↦
                      let before = ap once (in_range-low r m low) in
                      let after = ap once (in_range-low r (m + 1) low) in
                      omega (arith, more, below, whole, last, here, before, after)
                  | inr some ↦
                      let before = ap once (in_range-yes r m some (omega (arith, less))) in
                      let after = ap once (in_range-yes r (m + 1) some (omega (arith, less))) in
                      omega (arith, more, below, whole, last, here, before, after)
                ]
            | inr more_than ↦
                let here = ap once (ne_eqb r (m + 1) (λ e. absurd (omega (arith, e, more_than)))) in
                let before = ap once (in_range-high r m (omega (arith, more_than))) in
                let after = ap once (in_range-high r (m + 1) more_than) in
                omega (arith, more, below, whole, last, here, before, after)
          ]
    ]

-- how often a card stands in a suit and in a deck
in_this_suit : (b : Bool) (r m : ℕ) → sum_by (λ p. once (b && (r == p + 1))) (range_with_len 0 m) ≡ cond b
    (once (in_range r m)) 0
in_this_suit true r m = ranks-once r m
in_this_suit false r m =
    let none : 0 * length (range_with_len 0 m) ≡ 0 = omega arith in
    sum-constant 0 (range_with_len 0 m) ∙ none

suit-copies : (card : Card) (suit : Suit) (m : ℕ)
    → copies_of card (suit_in_order m suit) ≡ cond (same_suit card.suit suit) (once (in_range card.rank m)) 0
suit-copies card suit m =
    let of_place : ℕ → Card = λ (p : ℕ). record { suit = suit; rank = p + 1 } in
    sum-mapped (λ (c : Card). once (same_card card c)) of_place (range_with_len 0 m)
    ∙ in_this_suit (same_suit card.suit suit) card.rank m

one_of_four : (s : Suit) (n : ℕ) → cond (same_suit s Clubs) n 0 + cond (same_suit s Diamonds) n 0 + cond
    (same_suit s Hearts) n 0 + cond (same_suit s Spades) n 0 ≡ n
one_of_four Clubs n = omega arith
one_of_four Diamonds n = omega arith
one_of_four Hearts n = omega arith
one_of_four Spades n = omega arith

deck-copies : (card : Card) (m : ℕ) → copies_of card (one_deck m) ≡ once (in_range card.rank m)
deck-copies card m =
    omega (
      arith,
      sum-suits (λ (c : Card). once (same_card card c)) m,
      suit-copies card Clubs m,
      suit-copies card Diamonds
          m,
      suit-copies card Hearts m,
      suit-copies card Spades m,
      one_of_four card.suit (once (in_range card.rank m)),
    )

-- how many cards of a rank stand in a suit and in a deck
eqb-turned : (a b : ℕ) → (a == b) ≡ (b == a)
eqb-turned a b = grind (arith, nat_tests)

suit-rank : (b : ℕ) (suit : Suit) (m : ℕ) → count_by (λ c. c.rank == b) (suit_in_order m suit) ≡ once (in_range b m)
suit-rank b suit m =
    let of_place : ℕ → Card = λ (p : ℕ). record { suit = suit; rank = p + 1 } in
    sum-mapped (λ (c : Card). once (c.rank == b)) of_place (range_with_len 0 m)
    ∙ sum_by-same (λ (p : ℕ). once (p + 1 == b)) (λ (p : ℕ). once (b == p + 1)) (range_with_len 0 m)
    (λ p. ap once (eqb-turned (p + 1) b))
    ∙ ranks-once b m

deck-rank : (b m : ℕ) → count_by (λ c. c.rank == b) (one_deck m) ≡ 4 * once (in_range b m)
deck-rank b m =
    omega (
      arith,
      sum-suits (λ (c : Card). once (c.rank == b)) m,
      suit-rank b Clubs m,
      suit-rank b Diamonds m,
      suit-rank b Hearts m,
      suit-rank b Spades m,
    )

-- how long a deck is
pub ones : {A : Type 0} (xs : List A) → sum_by (λ x. 1) xs ≡ length xs
ones xs = let product : 1 * length xs ≡ length xs = omega arith in sum-constant 1 xs ∙ product

length-suit : (suit : Suit) (m : ℕ) → length (suit_in_order m suit) ≡ m
length-suit suit m = length-map-range_with_len
    (λ (p : ℕ). let card : Card = record { suit = suit; rank = p + 1 } in card) 0 m

suit-ones : (suit : Suit) (m : ℕ) → sum_by (λ x. 1) (suit_in_order m suit) ≡ m
suit-ones suit m = ones (suit_in_order m suit) ∙ length-suit suit m

deck-ones : (m : ℕ) → sum_by (λ x. 1) (one_deck m) ≡ 4 * m
deck-ones m =
    omega (
      arith,
      sum-suits (λ (c : Card). 1) m,
      suit-ones Clubs m,
      suit-ones Diamonds m,
      suit-ones Hearts m,
      suit-ones Spades m,
    )

-- the cards of all decks of the game, in any order
pub record IsDeck (rules : RuleParts) (deck : List Card) : Type 0 where
  pub copies : (card : Card) → copies_of card deck ≡ rules.decks * once (in_range card.rank rules.max_rank)
  pub ranks : (b : ℕ) → count_by (λ c. c.rank == b) deck ≡ rules.decks * (4 * once (in_range b rules.max_rank))
  pub long : length deck ≡ rules.decks * (4 * rules.max_rank)

pub IsDeck-shuffled : (rules : RuleParts) (deck : List Card) → IsPermutation (deck_in_order rules) deck
    → IsDeck rules deck
IsDeck-shuffled rules deck exchanged =
    let m : ℕ = rules.max_rank in
    let all : (f : Card → ℕ) → sum_by f deck ≡ rules.decks * sum_by f (one_deck m) =
    λ (f : Card → ℕ). sum_by-IsPermutation f (deck_in_order rules) deck exchanged ∙ sum-decks f m 0 rules.decks in
    record {
      copies = λ card. all (λ (c : Card). once (same_card card c)) ∙ ap (λ (n : ℕ). rules.decks * n)
          (deck-copies card m);
      ranks = λ b. all (λ (c : Card). once (c.rank == b)) ∙ ap (λ (n : ℕ). rules.decks * n) (deck-rank b m);
      long = sym (ones deck) ∙ all (λ (c : Card). 1) ∙ ap (λ (n : ℕ). rules.decks * n) (deck-ones m);
    }

pub length-in_order : (rules : RuleParts) → length (deck_in_order rules) ≡ rules.decks * (4 * rules.max_rank)
length-in_order rules = sym (ones (deck_in_order rules)) ∙ sum-decks (λ (c : Card). 1) rules.max_rank 0 rules.decks
    ∙ ap (λ (n : ℕ). rules.decks * n) (deck-ones rules.max_rank)

pub few-in_order : (rules : RuleParts) → HasLimits rules → length (deck_in_order rules) ≤ 104
few-in_order rules limits =
    let ranks : 4 * rules.max_rank ≤ 52 = omega (arith, limits.max_rank) in
    let product = mul-le-mul_left rules.decks ranks in
    omega (arith, length-in_order rules, product, limits.decks)
