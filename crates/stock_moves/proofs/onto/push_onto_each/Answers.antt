use Rattle.std.proofs.Common.{rules, arith, append_assoc, append-nil, refl}
use Rattle.std.proofs.lemmas.Grind.{flat_map-append}
use Rattle.std.proofs.lemmas.List.FromFn.{map-range_with_len_more}
use Rattle.legal_moves.proofs.Offered.{StartsWith-append}
use Rattle.stock_moves.specs.Onto.{place_in}
use Rattle.stock_moves.proofs.onto.push_onto_each.Goals as goal

pub returns-in_err-push_onto-clause-err : goal.returns-in_err-push_onto-clause-err
returns-in_err-push_onto-clause-err c =
    search (
      rules,
      StartsWith-append c.args.out.now.items _ c.loop-i.out.items c.push_onto.new.out.items c.loop-i.invariant
          c.in_err-push_onto.ensures.err,
    )

pub loop-i-preserved : goal.loop-i-preserved
loop-i-preserved c =
    rw (
      c.in_ok-push_onto.ensures.ok,
      c.loop-i.invariant,
      c.place_in.ensures,
      map-range_with_len_more (place_in c.args.kind) 0 c.loop-i.i c.loop-i.i (omega arith),
    )
    (simp (flat_map-append, append-nil, append_assoc) refl)
