use Rattle.line_printer.proofs.Cuts.{split_some, split_none}
use Rattle.line_printer.proofs.move_of.split_once.Goals as goal

pub returns-in_err-at-clause-parts : goal.returns-in_err-at-clause-parts
returns-in_err-at-clause-parts c = rw c.from_residual.ensures (split_none _ _ c.in_err-at.ensures.value)

pub returns-clause-parts : goal.returns-clause-parts
returns-clause-parts c = split_some _ _ c.in_ok-at.at c.in_ok-at.ensures.value
