use Rattle.std.proofs.Common.{IsPermutation, ◌≡◌, ℕ, ◌-◌, List, [], ◌++◌, take, drop, ap, ◌∙◌, length, arith}
use Rattle.std.proofs.Common.{take_all, append-nil}
use Rattle.std.proofs.lemmas.List.{drop_all}
use Rattle.std.proofs.lemmas.List.Sorted.{length_permutation}
use Rattle.rand_core.specs.Steps.{stream_of, steps_u32}
use Rattle.rand_pcg.specs.Lcg.{Lcg}
use Rattle.rand_pcg.specs.Pcg.{pcg32}
use Rattle.card_piles.specs.declared.Card.{Card}
use Rattle.seed_deal.specs.Shuffle.{shuffled, shuffled_deck, words_of}
use Rattle.seed_deal.proofs.Decks.{few-in_order}
use Rattle.seed_deal.proofs.deal.shuffled_deck.Goals as goal

pub shuffle-requires : goal.shuffle-requires
shuffle-requires c =
    let few = few-in_order c.args.rules.now c.max_rank.ensures.limits in
    let deck = ap length c.in_ok-deck.ensures in
    let slice = ap length c.as_mut_slice.ensures.value in
    omega (arith, few, deck, slice)

-- what comes back from the borrow is the whole deck
borrowed : (len : ℕ) (deck slice new : List Card) → len ≡ length deck → slice ≡ deck → IsPermutation slice new
    → take len (new ++ drop (length new) deck) ≡ new
borrowed len deck slice new all same moved =
    let long : length new ≡ length slice = length_permutation slice new moved in
    let lent : length slice ≡ length deck = ap length same in
    let nothing : drop (length new) deck ≡ [] = drop_all (length new) deck (omega (arith, long, lent)) in
    ap (λ (xs : List Card). take len (new ++ xs)) nothing ∙ ap (λ (xs : List Card). take len xs) (append-nil new)
    ∙ take_all len new (omega (arith, long, lent, all))

pub returns-clause-deck : goal.returns-clause-deck
unfolding shuffled_deck
returns-clause-deck c =
    let back = borrowed _ _ _ _ c.in_ok-deck.deck.ok.0 c.as_mut_slice.ensures.value c.shuffle.ensures.cards in
    let words = ap (λ (w : Lcg). shuffled (stream_of (steps_u32 pcg32) w)
    (length c.as_mut_slice.result.now - 1) c.as_mut_slice.result.now) c.new-words.ensures in
    let deck = c.as_mut_slice.ensures.value ∙ c.in_ok-deck.ensures in
    back ∙ c.shuffle.ensures.order ∙ words
    ∙ ap (λ (xs : List Card). shuffled (words_of c.args.seed) (length xs - 1) xs) deck

pub returns-clause-few : goal.returns-clause-few
returns-clause-few c =
    let back = borrowed _ _ _ _ c.in_ok-deck.deck.ok.0 c.as_mut_slice.ensures.value c.shuffle.ensures.cards in
    let whole = ap length back in
    let long = length_permutation c.as_mut_slice.result.now c.shuffle.new.cards c.shuffle.ensures.cards in
    let deck = ap length (c.as_mut_slice.ensures.value ∙ c.in_ok-deck.ensures) in
    let few = few-in_order c.args.rules.now c.max_rank.ensures.limits in
    omega (arith, whole, long, deck, few)
