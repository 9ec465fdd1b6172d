use Rattle.std.proofs.Common.{ap, sym, ◌∙◌, List, subst}
use Rattle.card_piles.specs.declared.Card.{Card}
use Rattle.game_rules.specs.declared.RuleParts.{RuleParts}
use Rattle.game_rules.specs.Position.{parts_of}
use Rattle.seed_deal.specs.Layout.{board_of_deck}
use Rattle.seed_deal.specs.Starts.{HasStart}
use Rattle.seed_deal.proofs.Dealt.{dealt-belongs, dealt_board, memory_alone}
use Rattle.seed_deal.proofs.deal.deal_from_seed.Goals as goal

pub returns-in-Ok-clause-board : goal.returns-in-Ok-clause-board
returns-in-Ok-clause-board c =
    let start = subst (λ (r : RuleParts). HasStart r.goal) c.parts.ensures.value c.read_start.ensures in
    let belongs = dealt-belongs c.args.rules.now c.in_ok-deck.deck.items c.parts.ensures.playable
    c.in_ok-deck.ensures.cards start (sym c.seed_fault.ensures ∙ c.in_default.is) in
    let is = c.in_ok-parts.ensures ∙ ap (λ (d : List Card).
    parts_of c.args.rules.now (board_of_deck c.args.rules.now d)) c.as_slice.ensures.value in
    dealt_board c.args.rules.now c.in_ok-deck.deck.items c.args.seed c.in_ok-parts.parts c.in-Ok.board belongs is
    c.in-Ok.ensures.board c.in_ok-deck.ensures.deck

pub unreachable-requires : goal.unreachable-requires
unreachable-requires c =
    let start = subst (λ (r : RuleParts). HasStart r.goal) c.parts.ensures.value c.read_start.ensures in
    let belongs = dealt-belongs c.args.rules.now c.in_ok-deck.deck.items c.parts.ensures.playable
    c.in_ok-deck.ensures.cards start (sym c.seed_fault.ensures ∙ c.in_default.is) in
    let is = c.in_ok-parts.ensures ∙ ap (λ (d : List Card).
    parts_of c.args.rules.now (board_of_deck c.args.rules.now d)) c.as_slice.ensures.value in
    let memory = memory_alone c.args.rules.now c.in_ok-deck.deck.items c.in_ok-parts.parts c.in-Err.fault belongs is
    c.in-Err.ensures.fault in
    c.in_default-fault.not-Memory memory
