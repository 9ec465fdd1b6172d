use Rattle.std.proofs.Common.{refl}
use Rattle.line_printer.specs.LineFile.{after_line}
use Rattle.line_printer.proofs.Cuts.{count_more, count_none}
use Rattle.line_printer.proofs.read.after_line.Goals as goal

pub returns-in_default : goal.returns-in_default
returns-in_default c = (refl, count_none _ _ c.in_default.ensures.parts)

pub returns : goal.returns
unfolding after_line
returns c = (
  c.in-Some.ensures.after,
  count_more _ c.args.text.now c.in-Some.field-0-0.now c.in-Some.rest.now
      c.in-Some.ensures.parts,
)
