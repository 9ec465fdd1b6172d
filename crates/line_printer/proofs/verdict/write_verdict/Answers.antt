use Rattle.line_printer.proofs.TextsBack.{verdict_back}
use Rattle.line_printer.proofs.verdict.write_verdict.Goals as goal

pub returns-in-Winnable-clause-reads_back : goal.returns-in-Winnable-clause-reads_back
returns-in-Winnable-clause-reads_back c =
    rw c.in-Winnable.is (verdict_back c.winnable_text.result c.in-Winnable.line c.items.result.now c.in-Winnable.nodes
    c.in-Winnable.narrow_nodes c.items.ensures c.winnable_text.ensures.text c.winnable_text.ensures.fits)
