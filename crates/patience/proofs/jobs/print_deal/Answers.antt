use Rattle.std.proofs.Common.{refl, subst, sym}
use Rattle.std.proofs.lemmas.Result.{err_from_is_err_and}
use Rattle.solver_words.specs.Texts.{texts}
use Rattle.solver_words.specs.declared.job.Job.TheVariants.{Deal}
use Rattle.patience.specs.Stages.{Stops}
use Rattle.patience.proofs.Fetched.{seed-stopped}
use Rattle.patience.proofs.jobs.print_deal.Goals as goal

pub returns-in_err-board-clause-stopped : goal.returns-in_err-board-clause-stopped
returns-in_err-board-clause-stopped g c =
    let stopped = seed-stopped
    (record {
      files = g.S.Shelf.files c.args.shelf.now;
      before = g.S.Shelf.faults c.args.shelf.now;
      after = g.S.Shelf.faults c.fetch_rules.new.shelf;
    })
    (texts c.args.words.now) (Deal c.args.seed) c.in_ok-rules.rules c.args.seed c.in_err-board.field-0.0
    c.in_ok-rules.ensures.accepted refl c.in_err-board.ensures.refused in
    let answer = err_from_is_err_and c.from_residual-in_err-board.result c.from_residual-in_err-board.ensures.1 in
    rw answer.1 (subst (Stops _) (sym answer.2) stopped)
