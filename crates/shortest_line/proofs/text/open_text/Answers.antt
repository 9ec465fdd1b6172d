use Rattle.std.proofs.Common.{◌∙◌, ap, Vec, ℕ}
use Rattle.std.specs.declared.alloc.Global.{Global}
use Rattle.shortest_line.proofs.Heads.{open_is}
use Rattle.shortest_line.proofs.text.open_text.Goals as goal

pub returns : goal.returns
returns c =
    ap (λ (v : Vec ℕ Global). v.items) c.into_bytes.ensures.value
    ∙ (c.in_ok-text.ensures.ok ∙ open_is c.args.bound c.args.nodes)
