use Rattle.std.proofs.Common.{length, ap, sym, ◌∙◌}
use Rattle.byte_rows.proofs.Rows.{length-rows}
use Rattle.byte_rows.proofs.ByteRows.len.Goals as goal

pub returns : goal.returns
returns c =
    c.len.ensures ∙ c.self.inside.ends.ok.0 ∙ sym (length-rows 0 c.self.inside.bytes.items c.self.inside.ends.items)
    ∙ ap (λ rows. length rows) c.self.view_is
