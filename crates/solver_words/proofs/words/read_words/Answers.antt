use Rattle.std.proofs.Common.{sym}
use Rattle.solver_words.specs.Texts.{texts}
use Rattle.solver_words.proofs.Commands.{unknown_command}
use Rattle.solver_words.proofs.JobLimits.{if_ok-solve_of}
use Rattle.solver_words.proofs.words.read_words.Goals as goal

pub returns-in_default-as_str-clause-job : goal.returns-in_default-as_str-clause-job
returns-in_default-as_str-clause-job c =
    let other = c.in_default-as_str in
    sym (unknown_command c.args.words.now c.in-Some.words.now c.in-Some.command.now c.as_str.result.now
    c.in-Some.ensures.cases.0 c.as_str.ensures.value other.not-solve other.not-replay other.not-deal other.not-rules)

pub returns-in-solve-clause-within : goal.returns-in-solve-clause-within
returns-in-solve-clause-within c = if_ok-solve_of (texts c.in-Some.words.now) c.solve.result c.solve.ensures.job
