use Rattle.std.proofs.Common.{arith, subst, sym, ◌∙◌}
use Rattle.std.proofs.lemmas.Result.{err_from_is_err_and}
use Rattle.solver_words.specs.Texts.{texts}
use Rattle.patience.specs.Stages.{Stops}
use Rattle.patience.proofs.Wider.{stops-wider}
use Rattle.patience.proofs.jobs.replay_line.Goals as goal

pub returns-in_err-start-clause-stopped : goal.returns-in_err-start-clause-stopped
returns-in_err-start-clause-stopped g c =
    let wide = stops-wider (g.S.Shelf.files c.args.shelf.now) (g.S.Shelf.files c.fetch_rules.new.shelf)
    (g.S.Shelf.faults c.args.shelf.now)
    (g.S.Shelf.faults c.fetch_rules.new.shelf) (g.S.Shelf.faults c.fetch_deal.new.shelf)
    (g.S.Shelf.faults c.fetch_deal.new.shelf)
    (texts c.args.words.now) c.in_err-start.field-0.0 c.fetch_rules.ensures.files c.fetch_rules.ensures.never_falls
    (λ name. omega arith)
    c.in_err-start.ensures.stopped in
    let answer = err_from_is_err_and c.from_residual-in_err-start.result c.from_residual-in_err-start.ensures.1 in
    rw answer.1 (subst (Stops _) (sym answer.2) wide)

pub returns-in_err-moves-clause-stopped : goal.returns-in_err-moves-clause-stopped
returns-in_err-moves-clause-stopped g c =
    let wide = stops-wider (g.S.Shelf.files c.args.shelf.now) (g.S.Shelf.files c.fetch_deal.new.shelf)
    (g.S.Shelf.faults c.args.shelf.now)
    (g.S.Shelf.faults c.fetch_deal.new.shelf) (g.S.Shelf.faults c.fetch_line.new.shelf)
    (g.S.Shelf.faults c.fetch_line.new.shelf)
    (texts c.args.words.now) c.in_err-moves.field-0.0 (c.fetch_deal.ensures.files ∙ c.fetch_rules.ensures.files)
    (λ name. let first = c.fetch_rules.ensures.never_falls name in let second = c.fetch_deal.ensures.never_falls name in
    omega (arith, first, second))
    (λ name. omega arith) c.in_err-moves.ensures.stopped in
    let answer = err_from_is_err_and c.from_residual-in_err-moves.result c.from_residual-in_err-moves.ensures.1 in
    rw answer.1 (subst (Stops _) (sym answer.2) wide)
