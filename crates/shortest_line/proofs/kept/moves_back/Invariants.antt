use Rattle.std.proofs.Common.{◌≡◌, ◌++◌, ◌≤◌, length, reverse}
use Rattle.shortest_line.specs.Tree.{line_at, lines_of}
use Rattle.shortest_line.proofs.kept.moves_back.Given as goal

-- the line of the place is that of `at`, and then the moves
abbrev pub invariant-loop-at : goal.invariant-loop-at
invariant-loop-at l = record {
  there : l.at ≤ length l.reached.items;
  line : line_at (lines_of l.reached.items) l.place ≡ line_at (lines_of l.reached.items) l.at ++ reverse l.moves.items;
}

abbrev pub decreases-loop-at : goal.decreases-loop-at
decreases-loop-at l = l.at
