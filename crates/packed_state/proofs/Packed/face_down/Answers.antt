use Rattle.std.proofs.Common.{refl}
use Rattle.packed_state.proofs.Counts.{low_pile, made_face}
use Rattle.packed_state.proofs.Packed.face_down.Goals as goal

pub bounds-self-inside-from : goal.bounds-self-inside-from
bounds-self-inside-from c =
    low_pile _ _ c.self.view_is c.keep.ensures c.args.pile 0 c.from.result c.from.ensures c.requires

pub returns : goal.returns
returns c = made_face _ _ c.self.view_is c.keep.ensures c.args.pile _ c.from.result c.from.ensures c.requires refl
