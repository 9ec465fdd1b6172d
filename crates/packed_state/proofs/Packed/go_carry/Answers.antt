use Rattle.std.proofs.Common.{sym, subst}
use Rattle.packed_state.specs.Packed.{HoldsFoundations}
use Rattle.game_rules.proofs.KeepsBelonging.{belongs-after_carry}
use Rattle.packed_state.proofs.Carrying.{can}
use Rattle.packed_state.proofs.Gone.{board_gone}
use Rattle.packed_state.proofs.Keeping.{same_cards, carry_holds}
use Rattle.packed_state.proofs.Public.{before_gone, one_changed, carried_by}
use Rattle.packed_state.proofs.Packed.go_carry.Goals as goal

pub carry-requires : goal.carry-requires
carry-requires c =
    can c.args.rules.now c.args.self.now c.keep.ensures c.args.from c.args.to c.args.count c.requires.legal

pub returns-clause-moved : goal.returns-clause-moved
returns-clause-moved c =
    rw c.carry.ensures.moved
    (board_gone c.args.rules.now c.args.self.now c.keep.ensures c.args.from c.args.to c.args.count c.requires.legal)

pub returns-clause-can_go_back : goal.returns-clause-can_go_back
returns-clause-can_go_back c =
    rw (c.carry.ensures.moved, c.carry.ensures.noted)
    (before_gone c.args.rules.now c.args.self.now c.keep.ensures c.args.from c.args.to c.args.count c.requires.legal)

pub returns-clause-belongs : goal.returns-clause-belongs
returns-clause-belongs c =
    rw (
      c.carry.ensures.moved,
      board_gone c.args.rules.now c.args.self.now c.keep.ensures c.args.from c.args.to
          c.args.count c.requires.legal,
    )
    (belongs-after_carry c.args.rules.now _ c.args.from c.args.to c.args.count c.parts.ensures.playable
    c.requires.belongs c.requires.legal)

pub returns-clause-one_link : goal.returns-clause-one_link
returns-clause-one_link c = rw c.carry.ensures.moved (one_changed _ _ _ _)

pub returns-clause-cards : goal.returns-clause-cards
returns-clause-cards c =
    λ home. rw c.carry.ensures.moved
    (same_cards c.args.rules.now c.parts.ensures.playable c.args.self.now c.keep.ensures c.args.from c.args.to
    c.args.count
    c.requires.legal home)

pub returns-clause-holds : goal.returns-clause-holds
returns-clause-holds c =
    λ holds. subst (HoldsFoundations c.args.rules.now) (sym c.carry.ensures.moved)
    (carry_holds c.args.rules.now c.parts.ensures.playable c.args.self.now c.keep.ensures c.args.from c.args.to
    c.args.count
    c.requires.legal holds)

pub returns-clause-carried : goal.returns-clause-carried
returns-clause-carried c =
    λ alike. rw c.carry.ensures.moved
    (carried_by c.args.rules.now c.args.self.now c.keep.ensures c.args.from c.args.to c.args.count c.requires.legal
    alike)
