use Rattle.std.proofs.Common.{◌≡◌, ◌<◌, ◌+◌, ◌^◌, length}
use Rattle.solver_words.specs.Texts.{texts}
use Rattle.solver_words.specs.Options.{options_from, no_options}
use Rattle.solver_words.proofs.options.read_options.Given as goal

abbrev pub invariant-loop-option : goal.invariant-loop-option
invariant-loop-option l = (options_from l.taker l.at l.given (texts l.rest) ≡ options_from l.fn.taker l.fn.first
    no_options (texts l.fn.words)) × (l.at + length l.rest < 2 ^ 32)

abbrev pub decreases-loop-option : goal.decreases-loop-option
decreases-loop-option l = length l.rest
