use Rattle.std.proofs.Common.{◌≡◌}
use Rattle.card_links.specs.Chains.{slot_at}
use Rattle.card_links.proofs.Links.slot.Given as goal

abbrev pub invariant-loop-k : goal.invariant-loop-k
invariant-loop-k l = l.slot
    ≡ slot_at (record {
      under = l.self-inside.under;
      tops = l.self-inside.tops;
      sizes = l.self-inside.sizes;
      used =
          l.self-inside.used;
      low = l.self-inside.low;
    }) l.place l._k
