-- One exchange of a shuffle after the other.
use Rattle.std.proofs.Common.{◌≡◌, ℕ, ◌-◌, ◌<◌, zero, suc, List, ap, arith}
use Rattle.std.specs.List.{swap}
use Rattle.rand_core.specs.Stream.{Stream, next_u32}
use Rattle.seed_deal.specs.Shuffle.{shuffled, chosen_place}

pub shuffled-step : {A : Type 0} (words : Stream) (last : ℕ) (cards : List A) → 0 < last
    → shuffled words last cards ≡ shuffled (next_u32 words).1 (last - 1)
    (swap cards last (chosen_place (next_u32 words).0 last))
shuffled-step words zero cards some = absurd (omega (arith, some))
shuffled-step words (suc i) cards some =
    let down : i ≡ suc i - 1 = omega arith in
    ap (λ (k : ℕ). shuffled (next_u32 words).1 k (swap cards (suc i) (chosen_place (next_u32 words).0 (suc i)))) down
