use Rattle.std.proofs.Common.{sym, subst}
use Rattle.game_rules.specs.Belonging.{Belongs}
use Rattle.game_rules.proofs.KeepsBelonging.{belongs-after_redeal}
use Rattle.card_links.specs.Chains.{size_at}
use Rattle.card_links.proofs.Cutting.{each_used}
use Rattle.packed_state.specs.Packed.{board_of, HoldsFoundations}
use Rattle.packed_state.proofs.Staying.{redeal_holds}
use Rattle.packed_state.proofs.Dealing.{redeal_board, redeal_back, before_legal_redeal}
use Rattle.packed_state.proofs.Packed.go_redeal.Goals as goal

pub returns-clause-moved : goal.returns-clause-moved
returns-clause-moved c =
    rw (c.turn_waste.ensures.moved, c.redeals_after-left.ensures, c.redeals_left.ensures.linked)
    (redeal_board c.args.self.now c.keep.ensures c.args.rules.now
    (before_legal_redeal c.args.rules.now (board_of c.args.self.now) c.requires.legal))

pub returns-clause-can_go_back : goal.returns-clause-can_go_back
returns-clause-can_go_back c =
    rw (c.turn_waste.ensures.moved, c.turn_waste.ensures.noted)
    (redeal_back c.args.self.now c.keep.ensures c.redeals_after-left.result
    (before_legal_redeal c.args.rules.now (board_of c.args.self.now) c.requires.legal))

pub returns-clause-belongs : goal.returns-clause-belongs
returns-clause-belongs c =
    subst (Belongs c.args.rules.now) (sym (returns-clause-moved c))
    (belongs-after_redeal c.args.rules.now (board_of c.args.self.now) c.requires.belongs
    (before_legal_redeal c.args.rules.now (board_of c.args.self.now) c.requires.legal))

pub returns-clause-used : goal.returns-clause-used
returns-clause-used c =
    rw c.turn_waste.ensures.moved (each_used 88 89 c.args.self.now.links (size_at c.args.self.now.links 88))

pub returns-clause-holds : goal.returns-clause-holds
returns-clause-holds c =
    λ holds. subst (HoldsFoundations c.args.rules.now) (sym c.turn_waste.ensures.moved)
    (redeal_holds c.args.rules.now c.args.self.now c.keep.ensures holds c.redeals_after-left.result)
