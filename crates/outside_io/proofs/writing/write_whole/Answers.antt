use Rattle.std.proofs.Common.{◌<◌, ◌∙◌, arith, length}
use Rattle.std.proofs.lemmas.Bool.Decides.{nat_tests}
use Rattle.outside_io.proofs.Transfers.{OnErr-any, Appends-more, AppendsPart-stopped}
use Rattle.outside_io.proofs.writing.write_whole.Goals as goal

pub returns-in_err-count-clause-part : goal.returns-in_err-count-clause-part
returns-in_err-count-clause-part g c =
    let done = c.loop-rest.invariant.done in
    let left : 0 < length c.loop-rest.rest.now = grind (arith, nat_tests, c.is_empty.ensures, c.loop-rest-test.true) in
    OnErr-any c.from_residual.result _
    (AppendsPart-stopped (g.W.Write.contents c.args.writer.now) (g.W.Write.contents c.loop-rest.writer)
    (g.W.Write.contents c.write_once.new.writer)
    c.args.piece.now done.0 c.loop-rest.rest.now done.1 left done.2 c.in_err-count.ensures.bytes)

pub loop-rest-preserved : goal.loop-rest-preserved
loop-rest-preserved g c =
    let done = c.loop-rest.invariant.done in
    record {
      done = Appends-more (g.W.Write.contents c.args.writer.now) (g.W.Write.contents c.loop-rest.writer)
          (g.W.Write.contents c.write_once.new.writer)
          c.args.piece.now done.0 c.loop-rest.rest.now c.in_ok-count.count done.1 done.2 c.in_ok-count.ensures.bytes;
      kept = c.in_ok-count.ensures.kept ∙ c.loop-rest.invariant.kept;
    }
