use Rattle.packed_state.proofs.reading.+before_entry.Given as goal

abbrev pub decreases-before_entry : goal.decreases-before_entry
decreases-before_entry l = l.entry
