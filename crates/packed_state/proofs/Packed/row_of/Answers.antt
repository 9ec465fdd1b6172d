use Rattle.std.proofs.Common.{◌≡◌, ◌+◌, ◌*◌, ap₂, subst}
use Rattle.std.specs.Prelude.{IfOk}
use Rattle.packed_state.proofs.Unpacked.{row_read}
use Rattle.packed_state.proofs.Packed.row_of.Goals as goal

pub returns : goal.returns
returns c =
    subst (λ wanted. IfOk c.entries_of.result (λ row. row ≡ wanted))
    (row_read c.args.rules.now c.args.self.now c.args.r _ c.max_rank-columns.result c.max_rank-columns.ensures.value
    c.requires.slots c.requires.row (ap₂ (λ x y. 107 + x * y) c.from.ensures c.from-2.ensures)) c.entries_of.ensures
