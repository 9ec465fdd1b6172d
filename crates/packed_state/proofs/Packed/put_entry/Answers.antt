use Rattle.packed_state.proofs.Filling.{entry_added}
use Rattle.packed_state.proofs.Packed.put_entry.Goals as goal

pub returns-in-Some : goal.returns-in-Some
returns-in-Some c =
    let r = c.requires in
    entry_added c.args.self.now c.put.new.self c.args.place c.args.entry c.in-Some.card c.keep.ensures r.place r.inside
    r.empty r.room c.in-Some.is c.put.ensures
