use Rattle.std.proofs.Common.{ℕ, ◌-◌, List, ap, ap₂, sym, ◌∙◌, arith}
use Rattle.std.specs.List.{swap}
use Rattle.std.proofs.lemmas.List.Sorted.{IsPermutation-trans}
use Rattle.rand_core.specs.Stream.{Stream}
use Rattle.card_piles.specs.declared.Card.{Card}
use Rattle.seed_deal.specs.Shuffle.{shuffled, chosen_place}
use Rattle.seed_deal.proofs.Shuffling.{shuffled-step}
use Rattle.seed_deal.proofs.shuffle.shuffle.Goals as goal

pub loop-last-preserved : goal.loop-last-preserved
loop-last-preserved g c =
    let last : ℕ = c.loop-last.last - 1 in
    let cards : List Card = c.loop-last.cards in
    let step = shuffled-step (g.R.Rng.stream c.loop-last.words) last cards (omega arith) in
    let word = ap (λ (p : ℕ × Stream). p.0) c.next_u32-word.ensures in
    let left = ap (λ (p : ℕ × Stream). p.1) c.next_u32-word.ensures in
    let place = c.chosen_place.ensures.place ∙ ap (λ (w : ℕ). chosen_place w last) word in
    let exchanged = c.swap.ensures.after ∙ ap (λ (p : ℕ). swap cards last p) place in
    record {
      order = ap₂ (λ (s : Stream) (xs : List Card). shuffled s (last - 1) xs) left exchanged ∙ sym step
          ∙ c.loop-last.invariant.order;
      cards = IsPermutation-trans _ _ _ c.loop-last.invariant.cards c.swap.ensures.permutation;
      within = omega (arith, c.swap.ensures.len);
    }
