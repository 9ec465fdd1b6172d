use Rattle.std.proofs.Common.{◌≤◌, sym, subst}
use Rattle.solver_words.specs.Texts.{texts}
use Rattle.solver_words.proofs.JobLimits.{limits-job_of}
use Rattle.solve_job.specs.declared.limits.Limits.{Limits}
use Rattle.patience.specs.Asked.{job_asked}
use Rattle.patience.proofs.jobs.solve_deal.Goals as goal

pub solve-requires-clause-some_cache : goal.solve-requires-clause-some_cache
solve-requires-clause-some_cache g c =
    let limits = limits-job_of (texts c.args.words.now) (job_asked c.args.asked) c.requires in
    subst (λ (l : Limits). 1 ≤ l.cache) (sym c.limits-limits.ensures) limits.0

pub solve-requires-clause-some_nodes : goal.solve-requires-clause-some_nodes
solve-requires-clause-some_nodes g c =
    let limits = limits-job_of (texts c.args.words.now) (job_asked c.args.asked) c.requires in
    subst (λ (l : Limits). 1 ≤ l.nodes) (sym c.limits-limits.ensures) limits.2
