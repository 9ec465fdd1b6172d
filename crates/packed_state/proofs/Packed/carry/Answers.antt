use Rattle.std.proofs.Common.{◌≤◌, ◌-◌, sym, subst, arith}
use Rattle.card_links.specs.Chains.{size_at}
use Rattle.packed_state.specs.Undoing.{CanCarry}
use Rattle.packed_state.proofs.Making.{from_fits, to_fits, made_linked}
use Rattle.packed_state.proofs.Packed.carry.Goals as goal

pub slot-slot-requires-clause-place : goal.slot-slot-requires-clause-place
slot-slot-requires-clause-place c =
    let can =
    subst (λ v. CanCarry v c.args.self.now c.args.from c.args.to c.args.count) (sym c.stacked-stacked.ensures)
    c.requires in
    from_fits _ _ _ c.self.view_is c.self.invariant c.args.from c.args.to c.args.count can c.source_of-a.result
    c.source_of-a.ensures

pub size-size-requires : goal.size-size-requires
size-size-requires c =
    let can =
    subst (λ v. CanCarry v c.args.self.now c.args.from c.args.to c.args.count) (sym c.stacked-stacked.ensures)
    c.requires in
    from_fits _ _ _ c.self.view_is c.self.invariant c.args.from c.args.to c.args.count can c.source_of-a.result
    c.source_of-a.ensures

pub shift-requires-clause-to : goal.shift-requires-clause-to
shift-requires-clause-to c =
    to_fits _ _ _ c.self.view_is c.self.invariant c.args.from c.args.to c.args.count c.requires c.index_of-b.result
    c.index_of-b.ensures

pub invariant_of-self : goal.invariant_of-self
invariant_of-self c =
    let can =
    subst (λ v. CanCarry v c.args.self.now c.args.from c.args.to c.args.count) (sym c.stacked-stacked.ensures)
    c.requires in
    let size = c.size-size.ensures in
    let fit : c.turned.result ≤ size_at c.self.inside.links c.source_of-a.result - c.args.count =
    omega (arith, c.turned.ensures, c.size-size.ensures) in
    made_linked _ _ _ c.self.view_is c.self.invariant c.args.from c.args.to c.args.count can _ _ _ _ _ _ _ _ _
    c.source_of-a.ensures c.index_of-b.ensures c.shift.ensures c.write_card.ensures c.write_face.ensures
    c.shape_after-self-inside.ensures fit
