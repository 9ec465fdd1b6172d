use Rattle.std.proofs.Common.{◌∙◌, ap, Vec, ℕ}
use Rattle.std.specs.declared.alloc.Global.{Global}
use Rattle.line_printer.proofs.Heads.{undecided_is}
use Rattle.line_printer.proofs.verdict.undecided_text.Goals as goal

pub returns : goal.returns
returns c =
    ap (λ (v : Vec ℕ Global). v.items) c.into_bytes.ensures.value
    ∙ (c.in_ok-text.ensures.ok ∙ undecided_is c.args.nodes c.args.narrow_nodes)
