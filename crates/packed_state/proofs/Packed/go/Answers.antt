use Rattle.std.proofs.Common.{◌∙◌, ap}
use Rattle.game_rules.specs.declared.Move.TheVariants.{Carry}
use Rattle.packed_state.proofs.Public.{same_card_in, carried_move}
use Rattle.packed_state.proofs.Packed.go.Goals as goal

pub returns-in-Carry-clause-cards : goal.returns-in-Carry-clause-cards
returns-in-Carry-clause-cards c =
    λ home slot. same_card_in c.args.self.now c.go_carry.new.self
    (c.go_carry.ensures.cards (λ f e. home f c.in-Carry.to c.in-Carry.count
    (c.in-Carry.is ∙ ap (λ x. Carry x c.in-Carry.to c.in-Carry.count) e)))
    c.go_carry.ensures.used slot

pub returns-in-Carry-clause-carried : goal.returns-in-Carry-clause-carried
returns-in-Carry-clause-carried c =
    λ from to count e alike. carried_move c.args.self.now c.go_carry.new.self c.args.rules.now.stacked c.args.m _ _ from
    to _ count
    c.in-Carry.is e c.go_carry.ensures.carried alike

pub returns-in-Deal-clause-cards : goal.returns-in-Deal-clause-cards
returns-in-Deal-clause-cards c =
    λ home slot. same_card_in c.args.self.now c.go_deal.new.self c.go_deal.ensures.cards c.go_deal.ensures.used slot

pub returns-in-Deal-clause-carried : goal.returns-in-Deal-clause-carried
returns-in-Deal-clause-carried c = λ from to count e alike. let is = c.in-Deal.is in cc

pub returns-in-Redeal-clause-cards : goal.returns-in-Redeal-clause-cards
returns-in-Redeal-clause-cards c =
    λ home slot. same_card_in c.args.self.now c.go_redeal.new.self c.go_redeal.ensures.cards c.go_redeal.ensures.used
    slot

pub returns-in-Redeal-clause-carried : goal.returns-in-Redeal-clause-carried
returns-in-Redeal-clause-carried c = λ from to count e alike. let is = c.in-Redeal.is in cc
