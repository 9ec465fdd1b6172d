use Rattle.std.proofs.Common.{◌≡◌, ◌≢◌, ℕ, ◌-◌, ◌<◌, ◌≤◌, [], length, slice_index, slice_index_or}
use Rattle.shortest_line.proofs.kept.is_there.Given as goal

-- no slot from this one on has the row
abbrev pub invariant-loop-node : goal.invariant-loop-node
invariant-loop-node l = record {
  within : l.node ≤ length l.keys;
  here : 0 < l.node → slice_index l.index.hashes (l.node - 1) ≡ l.hash;
  none : (j : ℕ) → l.node ≤ j → j < length l.keys → slice_index l.index.hashes j ≡ l.hash
      → slice_index_or l.keys j [] ≢ l.row;
}

abbrev pub decreases-loop-node : goal.decreases-loop-node
decreases-loop-node l = l.node
