use Rattle.std.proofs.Common.{◌≡◌, ℕ, ◌+◌, ◌*◌, drop, ap, ◌∙◌, arith}
use Rattle.std.proofs.lemmas.List.{drop-drop}
use Rattle.std.proofs.lemmas.List.FromFn.{map-range_with_len_more}
use Rattle.pile_symmetry.specs.Reading.{row_in}
use Rattle.pile_symmetry.proofs.placing.rows_in.Goals as goal

pub loop-r-preserved : goal.loop-r-preserved
loop-r-preserved c =
    let bytes = c.args.bytes.now in
    let w : ℕ = c.args.rules.now.max_rank in
    let r : ℕ = c.loop-r.r in
    let more = map-range_with_len_more (row_in c.args.rules.now bytes) 0 r r (omega arith) in
    let step : r * w + w ≡ (r + 1) * w = omega arith in
    let next : drop w (drop (r * w) bytes) ≡ drop ((r + 1) * w) bytes = drop-drop w (r * w) bytes
    ∙ ap (λ (k : ℕ). drop k bytes) step in (
      cc (
        more,
        c.loop-r.invariant.0,
        c.loop-r.invariant.1,
        c.in_ok-push.ensures.ok,
        c.in_ok-entries_in.ensures,
        c.cut.ensures.part,
        c.max_rank.ensures.value,
      ),
      cc (next, c.loop-r.invariant.1, c.cut.ensures.after, c.max_rank.ensures.value),
    )
