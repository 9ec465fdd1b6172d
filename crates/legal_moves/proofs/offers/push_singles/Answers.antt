use Rattle.std.proofs.Common.{arith, append_assoc, append-nil, refl}
use Rattle.std.proofs.lemmas.Grind.{flat_map-append}
use Rattle.std.proofs.lemmas.List.FromFn.{map-range_with_len_more}
use Rattle.legal_moves.specs.Kinds.{place_in}
use Rattle.legal_moves.proofs.offers.push_singles.Goals as goal

pub loop-i-preserved : goal.loop-i-preserved
loop-i-preserved g c = record {
  legal = λ to.
      rw (
        c.push_single.ensures.legal to,
        c.loop-i.invariant.legal to,
        c.place_in.ensures,
        map-range_with_len_more (place_in c.args.kind) 0 c.loop-i.i c.loop-i.i (omega arith),
      )
      (simp (flat_map-append, append-nil, append_assoc) refl);
  given = c.push_single.ensures.given;
  len = omega (arith, c.push_single.ensures.len, c.loop-i.invariant.len);
}
