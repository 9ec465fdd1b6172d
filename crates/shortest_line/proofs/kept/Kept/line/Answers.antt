use Rattle.std.proofs.Common.{◌<◌, length, ap, arith}
use Rattle.shortest_line.proofs.Places.{length-lines_of}
use Rattle.shortest_line.proofs.kept.Kept.line.Goals as goal

pub moves_back-requires-clause-there : goal.moves_back-requires-clause-there
moves_back-requires-clause-there c =
    let n = length-lines_of c.self.inside.reached.items in
    let v = ap (λ tree. length tree.lines) c.self.view_is in
    let lt = c.requires in
    omega arith
