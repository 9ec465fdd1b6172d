use Rattle.std.proofs.Common.{subst}
use Rattle.packed_state.specs.Packed.{Added}
use Rattle.packed_state.proofs.Filling.{all_added, rest_is}
use Rattle.packed_state.proofs.Packed.+put_all.Goals as goal

pub returns-in-len1-up : goal.returns-in-len1-up
returns-in-len1-up t c =
    let r = c.requires in
    let rest = subst (Added c.put.new.self c.put_all.new.self c.args.place) (rest_is c.args.cards.now)
    c.put_all.ensures in
    all_added c.args.self.now c.put.new.self c.put_all.new.self c.args.place c.args.cards.now c.card-item.result
    c.keep.ensures r.place r.inside r.many r.room c.in-len1-up.len_at_least c.card-item.is c.put.ensures rest
