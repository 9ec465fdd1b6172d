use Rattle.std.proofs.Common.{arith}
use Rattle.std.proofs.lemmas.List.FromFn.{map-range_with_len_more}
use Rattle.pile_symmetry.specs.Reading.{height_in}
use Rattle.pile_symmetry.proofs.placing.heights_in.Goals as goal

pub loop-f-preserved : goal.loop-f-preserved
loop-f-preserved c =
    let more = map-range_with_len_more (height_in c.args.rules.now c.args.bytes.now) 0 c.loop-f.f
    c.loop-f.f (omega arith) in
    cc (more, c.loop-f.invariant, c.in_ok-push.ensures.ok, c.byte_at.ensures, c.decks.ensures)
