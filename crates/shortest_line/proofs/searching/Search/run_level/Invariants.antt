use Rattle.shortest_line.proofs.Trying.{IsRunning}
use Rattle.shortest_line.proofs.searching.Search.run_level.Given as goal

abbrev pub invariant-loop-place : goal.invariant-loop-place
invariant-loop-place l = IsRunning l.rules l.start l.fn.self l.self l.from l.place
