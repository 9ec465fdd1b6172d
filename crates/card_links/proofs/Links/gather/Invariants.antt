use Rattle.std.proofs.Common.{◌≡◌, ◌-◌}
use Rattle.card_links.specs.Chains.{gathered}
use Rattle.card_links.proofs.Out.{Ready}
use Rattle.card_links.proofs.Links.gather.Given as goal

abbrev pub invariant-loop-i : goal.invariant-loop-i
invariant-loop-i l =
    (gathered l.self l.to (l.count - l.i) ≡ gathered l.fn.self l.to l.count) × Ready l.self (l.count - l.i)
