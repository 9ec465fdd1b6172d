use Rattle.std.proofs.Common.{ℕ, List, subst}
use Rattle.std.specs.Io.KnownBytes.{Appends}
use Rattle.solver_words.specs.Texts.{texts}
use Rattle.patience.proofs.Due.{is_due}
use Rattle.patience.proofs.Complete.{is_complete}
use Rattle.patience.proofs.top.patience.Goals as goal

pub returns-in-Ok-put_lines-clause-exact : goal.returns-in-Ok-put_lines-clause-exact
returns-in-Ok-put_lines-clause-exact g c =
    is_due (record {
      files = g.S.Shelf.files c.args.shelf.now;
      before = g.S.Shelf.faults c.args.shelf.now;
      after = g.S.Shelf.faults c.make_report.new.shelf;
    })
    (texts c.args.words.now) c.in-Ok.report.status c.in-Ok.report.text.items c.in-Ok.ensures.explained

pub returns-in-Ok-put_lines-clause-complete : goal.returns-in-Ok-put_lines-clause-complete
returns-in-Ok-put_lines-clause-complete g c = λ calm.
    is_complete (record {
      files = g.S.Shelf.files c.args.shelf.now;
      before = g.S.Shelf.faults c.args.shelf.now;
      after = g.S.Shelf.faults c.make_report.new.shelf;
    })
    (texts c.args.words.now) (g.K.Sink.written c.args.sink.now)
    (g.K.Sink.written c.put_lines.new.sink) c.in-Ok.report.status c.in-Ok.report.text.items
    c.in-Ok.ensures.explained
    (subst (λ (t : List ℕ). Appends (g.K.Sink.written c.args.sink.now) (g.K.Sink.written c.put_lines.new.sink) t)
    c.deref.ensures.value
    c.in-Ok-put_lines.ensures.whole)
