use Rattle.std.proofs.Common.{inr, refl, subst}
use Rattle.solve_job.specs.Narrowing.{IsNarrowed}
use Rattle.solve_job.proofs.solve.Goals as goal

pub returns-in-Won-clause-verdict : goal.returns-in-Won-clause-verdict
returns-in-Won-clause-verdict c =
    let won = subst (IsNarrowed c.args.rules.now c.args.start.now c.args.limits.now) c.in-Won.is c.in_ok-line.ensures in
    inr (record { restricted = won.0; no_node = refl; finds = won.1 })

pub search_plain-requires-clause-passed : goal.search_plain-requires-clause-passed
search_plain-requires-clause-passed c =
    subst (IsNarrowed c.args.rules.now c.args.start.now c.args.limits.now) c.in-Passed.is c.in_ok-line.ensures
