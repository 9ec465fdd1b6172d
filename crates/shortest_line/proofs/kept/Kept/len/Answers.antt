use Rattle.std.proofs.Common.{length, ap, sym, ◌∙◌}
use Rattle.shortest_line.proofs.Places.{length-lines_of}
use Rattle.shortest_line.proofs.kept.Kept.len.Goals as goal

pub returns-clause-lines : goal.returns-clause-lines
returns-clause-lines c =
    c.len.ensures ∙ c.self.invariant.count ∙ sym (length-lines_of c.self.inside.reached.items)
    ∙ ap (λ tree. length tree.lines) c.self.view_is
