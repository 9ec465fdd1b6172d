use Rattle.std.proofs.Common.{◌∙◌, ◌++◌, ap, lit<, string_bytes}
use Rattle.std.proofs.lemmas.List.Elements.{All-more}
use Rattle.line_printer.specs.SmallMoves.{IsSmall}
use Rattle.line_printer.proofs.LineTexts.{line_text_pushed}
use Rattle.line_printer.proofs.write.push_moves.Goals as goal

pub loop-m-preserved : goal.loop-m-preserved
loop-m-preserved c =
    let newline = c.in_ok-push.ensures.bytes ∙ ap (λ end. string_bytes c.push_move.new.text ++ end)
    (c.in_ok-push.ensures.ascii (lit< tt)) in
    let moved = c.in_ok-push_move.ensures in (
      line_text_pushed _ _ _ _ _ c.loop-m.m-index _ c.loop-m-test.true c.loop-m.invariant.0 moved.pushed newline,
      All-more IsSmall _ c.loop-m.m-index _ c.loop-m-test.true c.loop-m.invariant.1 moved.small,
    )
