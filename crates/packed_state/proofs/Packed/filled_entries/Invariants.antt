use Rattle.std.proofs.Common.{◌≡◌, ◌-◌}
use Rattle.packed_state.specs.CardsLeft.{entry_cards}
use Rattle.packed_state.proofs.Packed.filled_entries.Given as goal

abbrev pub invariant-loop-past : goal.invariant-loop-past
invariant-loop-past l = entry_cards l.self (l.entries - l.past) ≡ entry_cards l.self l.entries
