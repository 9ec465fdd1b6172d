use Rattle.std.proofs.Common.{◌≡◌, ℕ, ◌<◌, ◌≤◌, get_or, length}
use Rattle.game_rules.specs.Board.{pile_at}
use Rattle.packed_state.proofs.packing.faces_due.Given as goal

abbrev pub invariant-loop-i : goal.invariant-loop-i
invariant-loop-i l = record {
  long : length l.faces ≡ 20;
  done : (k : ℕ) → k < l.i → get_or l.faces k 0 ≡ (pile_at l.board k).face_down;
  rest : (k : ℕ) → l.i ≤ k → k < 20 → get_or l.faces k 0 ≡ 0;
}
