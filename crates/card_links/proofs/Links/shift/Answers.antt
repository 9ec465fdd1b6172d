use Rattle.std.proofs.Common.{arith, ◌∙◌}
use Rattle.card_links.proofs.Making.{few, less, more, last_inside, made_kept}
use Rattle.card_links.proofs.Links.shift.Goals as goal

pub bounds-self-inside-last : goal.bounds-self-inside-last
bounds-self-inside-last c =
    let l = c.self.invariant.under_length in
    let i = last_inside _ _ c.self.view_is c.self.invariant c.args.from c.args.to c.args.count c.requires.from
    c.requires.to c.requires.apart c.requires.some c.requires.enough c.from-last.result (c.from-last.ensures
    ∙ c.slot.ensures.value) in
    omega arith

pub overflow_add-self : goal.overflow_add-self
overflow_add-self c =
    let f = few _ _ c.self.view_is c.self.invariant c.args.from c.args.to c.args.count c.requires.from c.requires.to
    c.requires.apart c.requires.some c.requires.enough in
    omega arith

pub low_after-self-inside-requires-clause-less : goal.low_after-self-inside-requires-clause-less
low_after-self-inside-requires-clause-less c =
    λ p. less _ _ c.self.view_is c.self.invariant c.args.from c.args.to c.args.count c.requires.from c.requires.to
    c.requires.apart c.requires.some c.requires.enough p.0

pub low_after-self-inside-requires-clause-more : goal.low_after-self-inside-requires-clause-more
low_after-self-inside-requires-clause-more c =
    λ p. let m =
    more _ _ c.self.view_is c.self.invariant c.args.from c.args.to c.args.count c.requires.from c.requires.to
    c.requires.apart c.requires.some c.requires.enough p.0 p.1 in omega arith

pub invariant_of-self : goal.invariant_of-self
invariant_of-self c =
    made_kept _ _ c.self.view_is c.self.invariant c.args.from c.args.to c.args.count c.requires.from c.requires.to
    c.requires.apart c.requires.some c.requires.enough c.from-last.result _ (c.from-last.ensures
    ∙ c.slot.ensures.value) c.low_after-self-inside.ensures
