use Rattle.std.proofs.Common.{◌≡◌, ◌++◌, string_bytes, take}
use Rattle.std.specs.List.{All}
use Rattle.line_printer.specs.SmallMoves.{IsSmall}
use Rattle.line_printer.specs.LineFile.{line_text}
use Rattle.line_printer.proofs.write.push_moves.Given as goal

abbrev pub invariant-loop-m : goal.invariant-loop-m
invariant-loop-m l = (string_bytes l.text ≡ string_bytes l.initial.text ++ line_text (take l.m-index l.moves))
    × All IsSmall (take l.m-index l.moves)
