use Rattle.card_links.proofs.Growing.{push_low, push_made}
use Rattle.card_links.proofs.Links.push.Goals as goal

pub low_grown-self-inside-requires : goal.low_grown-self-inside-requires
low_grown-self-inside-requires c =
    push_low _ _ c.self.view_is c.self.invariant c.args.place c.requires.place c.requires.room

pub invariant_of-self : goal.invariant_of-self
invariant_of-self c =
    push_made _ _ c.self.view_is c.self.invariant c.args.place c.requires.place c.requires.room c.from.result _
    c.from.ensures c.low_grown-self-inside.ensures
