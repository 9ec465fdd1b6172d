use Rattle.packed_state.proofs.Counts.{low_height, made_height}
use Rattle.packed_state.proofs.Packed.height.Goals as goal

pub size-requires : goal.size-requires
size-requires c = low_height _ _ c.self.view_is c.keep.ensures c.args.f 0 c.from.result c.from.ensures c.requires

pub returns : goal.returns
returns c =
    made_height _ _ c.self.view_is c.keep.ensures c.args.f _ c.from.result c.from.ensures c.requires c.size.ensures
