use Rattle.std.proofs.Common.{refl}
use Rattle.packed_state.proofs.Unpacked.{slots_there, parts_made}
use Rattle.packed_state.proofs.Packed.parts_of.Goals as goal

pub rows_of-requires : goal.rows_of-requires
rows_of-requires c = slots_there c.args.rules.now c.args.self.now c.requires

pub returns : goal.returns
returns c =
    parts_made c.args.rules.now _ _ c.self.view_is _ _ _ _ _ _ _ _ _ _ c.in_ok-tableau_of.ensures
    c.in_ok-face_down_of.ensures c.in_ok-entries_of.ensures c.in_ok-entries_of-2.ensures c.in_ok-cards_of.ensures
    c.in_ok-cards_of-2.ensures refl c.in_ok-heights_of.ensures c.in_ok-cards_of-3.ensures c.in_ok-rows_of.ensures
