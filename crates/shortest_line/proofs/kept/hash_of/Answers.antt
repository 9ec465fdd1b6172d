use Rattle.std.proofs.Common.{rules}
use Rattle.shortest_line.specs.Table.{hash_of}
use Rattle.shortest_line.proofs.kept.hash_of.Goals as goal

pub returns : goal.returns
unfolding hash_of
returns c = search rules
