use Rattle.std.proofs.Common.{◌≡◌, ℕ, ◌+◌, ◌<◌, List, get_or, set, length, length-set, sym, ap, ◌∙◌, arith}
use Rattle.std.proofs.Common.{inl, inr}
use Rattle.std.proofs.lemmas.Bool.{cases_eq}
use Rattle.std.proofs.lemmas.List.{get_or-set_same, get_or-set_other}
use Rattle.game_rules.specs.Board.{pile_at}
use Rattle.packed_state.proofs.packing.faces_due.Goals as goal

more_faces : (faces : List ℕ) (i j x : ℕ) (f : ℕ → ℕ) → i < length faces → j ≡ i → x ≡ f i
    → ((k : ℕ) → k < i → get_or faces k 0 ≡ f k) → (k : ℕ) → k < i + 1 → get_or (set faces j x) k 0 ≡ f k
more_faces faces i j x f inside ej ex done k lk = elim (cases_eq k i) [
  | inl e ↦
      ap (λ n. get_or (set faces j x) n 0) (let same : k ≡ j = omega arith in same)
      ∙ get_or-set_same faces j x 0 (omega arith) ∙ ex ∙ sym (ap f e)
  | inr ne ↦ get_or-set_other faces j k x 0 (omega arith) ∙ done k (omega arith)
]

pub loop-i-preserved : goal.loop-i-preserved
loop-i-preserved c = record {
  long = length-set c.loop-i.faces c.from.result c.face_down.result ∙ c.loop-i.invariant.long;
  done = more_faces c.loop-i.faces c.loop-i.i c.from.result c.face_down.result
      (λ k. (pile_at c.args.board.now k).face_down)
      (let n = c.loop-i.invariant.long in omega arith) c.from.ensures c.face_down.ensures
      c.loop-i.invariant.done;
  rest = λ k lk l20.
      get_or-set_other c.loop-i.faces c.from.result k c.face_down.result 0 (let f = c.from.ensures in omega arith)
      ∙ c.loop-i.invariant.rest k (omega arith) l20;
}
