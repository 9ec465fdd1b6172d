use Rattle.shortest_line.proofs.Trying.{IsTrying}
use Rattle.shortest_line.proofs.searching.Search.expand.Given as goal

abbrev pub invariant-loop-m : goal.invariant-loop-m
invariant-loop-m l = IsTrying l.rules l.start l.fn.self l.self l.place l.m-items l.m-index l.packed l.line.items
