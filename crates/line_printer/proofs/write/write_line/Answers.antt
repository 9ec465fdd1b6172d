use Rattle.std.proofs.Common.{◌∙◌, ◌++◌, ap, Vec, ℕ}
use Rattle.std.specs.declared.alloc.Global.{Global}
use Rattle.line_printer.specs.LineFile.{line_text}
use Rattle.line_printer.proofs.TextsBack.{text_back}
use Rattle.line_printer.proofs.write.write_line.Goals as goal

pub returns-clause-reads_back : goal.returns-clause-reads_back
returns-clause-reads_back c =
    let text = ap (λ (v : Vec ℕ Global). v.items) c.into_bytes.ensures.value ∙ c.in_ok-push_moves.ensures.pushed
    ∙ ap (λ t. t ++ line_text c.args.moves.now) c.new-text.ensures.bytes in
    text_back _ c.args.moves.now text c.in_ok-push_moves.ensures.small
