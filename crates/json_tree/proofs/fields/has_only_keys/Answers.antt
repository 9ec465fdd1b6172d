use Rattle.std.proofs.Common.{◌≡◌, ◌∙◌, sym, refl}
use Rattle.json_tree.proofs.Keys.{are_known}
use Rattle.json_tree.proofs.fields.has_only_keys.Goals as goal

pub returns-in-Some : goal.returns-in-Some
returns-in-Some c = rw (sym c.in-Some.ensures)
    (c.are_known.ensures ∙ are_known c.args.keys.now c.in-Some.members.now.entries)
