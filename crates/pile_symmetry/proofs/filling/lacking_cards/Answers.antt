use Rattle.std.proofs.Common.{ℕ, replicate}
use Rattle.game_rules.specs.Position.{card_numbered}
use Rattle.game_rules.proofs.PositionLoops.{flat_map-range_more}
use Rattle.pile_symmetry.specs.Reading.{lacking}
use Rattle.pile_symmetry.proofs.filling.lacking_cards.Goals as goal

pub loop-number-preserved : goal.loop-number-preserved
loop-number-preserved c =
    let more = flat_map-range_more (λ (n : ℕ). replicate (lacking c.args.rules.now c.args.parts.now (card_numbered n))
    (card_numbered n)) c.loop-number.number in
    cc (more, c.loop-number.invariant, c.in_ok-push_copies.ensures, c.lacking.ensures, c.card_numbered-card.ensures)
