use Rattle.std.proofs.Common.{ap, sym, subst, ◌∙◌, min}
use Rattle.card_links.specs.Chains.{size_at}
use Rattle.game_rules.proofs.KeepsBelonging.{belongs-after_deal}
use Rattle.game_rules.specs.Belonging.{Belongs}
use Rattle.game_rules.specs.Play.{after_deal_to}
use Rattle.card_links.proofs.Cutting.{each_used}
use Rattle.packed_state.specs.Packed.{board_of, HoldsFoundations}
use Rattle.packed_state.proofs.Staying.{dealt_used, waste_holds, hole_holds, tableau_holds}
use Rattle.packed_state.proofs.Dealing.{waste_board, waste_back, hole_board, hole_back}
use Rattle.packed_state.proofs.Tabling.{tableau_board, tableau_back}
use Rattle.packed_state.proofs.Packed.go_deal.Goals as goal

pub returns-in-ToWaste-clause-moved : goal.returns-in-ToWaste-clause-moved
returns-in-ToWaste-clause-moved c =
    rw c.deal_to_waste.ensures.moved
    (waste_board c.args.self.now c.keep.ensures c.draw.result c.args.rules.now (sym c.draw.ensures)
    ∙ ap (λ t. after_deal_to t c.args.rules.now (board_of c.args.self.now)) (sym c.in-ToWaste.is ∙ c.target.ensures))

pub returns-in-ToWaste-clause-can_go_back : goal.returns-in-ToWaste-clause-can_go_back
returns-in-ToWaste-clause-can_go_back c =
    rw (c.deal_to_waste.ensures.moved, c.deal_to_waste.ensures.noted)
    (waste_back c.args.self.now c.keep.ensures c.draw.result)

pub returns-in-ToWaste-clause-belongs : goal.returns-in-ToWaste-clause-belongs
returns-in-ToWaste-clause-belongs c =
    subst (Belongs c.args.rules.now) (sym (returns-in-ToWaste-clause-moved c))
    (belongs-after_deal c.args.rules.now _ c.parts.ensures.playable c.requires.belongs)

pub returns-in-ToHole-clause-moved : goal.returns-in-ToHole-clause-moved
returns-in-ToHole-clause-moved c =
    rw c.deal_to_hole.ensures.moved
    (hole_board c.args.self.now c.keep.ensures c.args.rules.now
    ∙ ap (λ t. after_deal_to t c.args.rules.now (board_of c.args.self.now)) (sym c.in-ToHole.is ∙ c.target.ensures))

pub returns-in-ToHole-clause-can_go_back : goal.returns-in-ToHole-clause-can_go_back
returns-in-ToHole-clause-can_go_back c =
    rw (c.deal_to_hole.ensures.moved, c.deal_to_hole.ensures.noted) (hole_back c.args.self.now c.keep.ensures)

pub returns-in-ToHole-clause-belongs : goal.returns-in-ToHole-clause-belongs
returns-in-ToHole-clause-belongs c =
    subst (Belongs c.args.rules.now) (sym (returns-in-ToHole-clause-moved c))
    (belongs-after_deal c.args.rules.now _ c.parts.ensures.playable c.requires.belongs)

pub returns-in-ToTableau-clause-moved : goal.returns-in-ToTableau-clause-moved
returns-in-ToTableau-clause-moved c =
    rw c.deal_to_tableau.ensures.moved
    (tableau_board c.args.self.now c.keep.ensures c.args.rules.now
    ∙ ap (λ t. after_deal_to t c.args.rules.now (board_of c.args.self.now)) (sym c.in-ToTableau.is ∙ c.target.ensures))

pub returns-in-ToTableau-clause-can_go_back : goal.returns-in-ToTableau-clause-can_go_back
returns-in-ToTableau-clause-can_go_back c =
    rw (c.deal_to_tableau.ensures.moved, c.deal_to_tableau.ensures.noted) (tableau_back c.args.self.now c.keep.ensures)

pub returns-in-ToTableau-clause-belongs : goal.returns-in-ToTableau-clause-belongs
returns-in-ToTableau-clause-belongs c =
    subst (Belongs c.args.rules.now) (sym (returns-in-ToTableau-clause-moved c))
    (belongs-after_deal c.args.rules.now _ c.parts.ensures.playable c.requires.belongs)

pub returns-in-ToWaste-clause-used : goal.returns-in-ToWaste-clause-used
returns-in-ToWaste-clause-used c =
    rw c.deal_to_waste.ensures.moved
    (each_used 89 88 c.args.self.now.links (min (size_at c.args.self.now.links 89) c.draw.result))

pub returns-in-ToWaste-clause-holds : goal.returns-in-ToWaste-clause-holds
returns-in-ToWaste-clause-holds c =
    λ holds. subst (HoldsFoundations c.args.rules.now) (sym c.deal_to_waste.ensures.moved)
    (waste_holds c.args.rules.now c.args.self.now c.keep.ensures holds c.draw.result)

pub returns-in-ToHole-clause-used : goal.returns-in-ToHole-clause-used
returns-in-ToHole-clause-used c =
    rw c.deal_to_hole.ensures.moved (each_used 89 106 c.args.self.now.links (min (size_at c.args.self.now.links 89) 1))

pub returns-in-ToHole-clause-holds : goal.returns-in-ToHole-clause-holds
returns-in-ToHole-clause-holds c =
    λ holds. subst (HoldsFoundations c.args.rules.now) (sym c.deal_to_hole.ensures.moved)
    (hole_holds c.args.rules.now c.args.self.now c.keep.ensures holds)

pub returns-in-ToTableau-clause-used : goal.returns-in-ToTableau-clause-used
returns-in-ToTableau-clause-used c =
    rw c.deal_to_tableau.ensures.moved
    (dealt_used c.args.self.now.links 89 (min (size_at c.args.self.now.links 89) c.args.self.now.shape.piles))

pub returns-in-ToTableau-clause-holds : goal.returns-in-ToTableau-clause-holds
returns-in-ToTableau-clause-holds c =
    λ holds. subst (HoldsFoundations c.args.rules.now) (sym c.deal_to_tableau.ensures.moved)
    (tableau_holds c.args.rules.now c.args.self.now c.keep.ensures holds)
