use Rattle.std.proofs.Common.{◌≡◌, ℕ, ◌+◌, ◌<◌, ◌≤◌, List, length, ap, sym, subst, ◌∙◌, [], ◌∷◌, ◌++◌, arith}
use Rattle.shortest_line.specs.declared.kept.Reached.{Reached}
use Rattle.shortest_line.specs.Tree.{Tree, lines_of, with_board, with_line}
use Rattle.shortest_line.specs.Table.{IsTable, hash_of}
use Rattle.shortest_line.proofs.Places.{lines_of-push, length-lines_of, table-push}
use Rattle.shortest_line.proofs.kept.Kept.keep.Goals as goal

-- what was written
record Written (c : goal.In-Ok) : Type 0 where
  pub keys : c.push.new.self ≡ c.self.inside.keys ++ c.args.key.now ∷ []
  pub reached : c.push-3.new.self.items ≡ c.self.inside.reached.items ++ record { by = c.args.by; from = c.args.from } ∷ []
  pub hashes : c.push-2.new.self.hashes
      ≡ c.self.inside.index.hashes ++ hash_of c.self.inside.hasher c.args.key.now ∷ []

written : (c : goal.In-Ok) → Written c
written c = record {
  keys = c.in_ok-push.ensures.added ∙ ap (λ b. c.self.inside.keys ++ b ∷ []) c.bytes.ensures;
  reached = c.in-Ok.ensures.items
      ∙ ap (λ xs. xs ++ record { by = c.args.by; from = c.args.from } ∷ []) c.reserve.ensures.items;
  hashes = c.push-2.ensures.hashes ∙ ap (λ hs. hs ++ c.hash_of.result ∷ []) c.make_room.ensures.hashes
      ∙ ap (λ h. c.self.inside.index.hashes ++ h ∷ []) c.hash_of.ensures;
}

pub invariant_of-self-2 : goal.invariant_of-self-2
invariant_of-self-2 c =
    let w = written c in
    let old = c.self.inside in
    let hash = hash_of old.hasher in
    let key = c.args.key.now in
    let r : Reached = record { by = c.args.by; from = c.args.from } in
    let n = length-lines_of old.reached.items in
    let v = ap (λ tree. length tree.lines) c.self.view_is in
    let count = c.self.invariant.count in
    let there = c.requires.there in
    let few = c.requires.few in
    let t = table-push hash old.keys old.reached.items old.index.hashes key r c.self.invariant c.requires.short
    (omega arith) (omega arith) in
    subst (λ keys. IsTable hash keys c.push-3.new.self.items c.push-2.new.self.hashes) (sym w.keys)
    (subst (λ reached. IsTable hash (old.keys ++ key ∷ []) reached c.push-2.new.self.hashes) (sym w.reached)
    (subst (λ hashes. IsTable hash (old.keys ++ key ∷ []) (old.reached.items ++ r ∷ []) hashes) (sym w.hashes) t))

pub returns-clause-kept : goal.returns-clause-kept
returns-clause-kept c =
    let w = written c in
    let old = c.self.inside in
    let key = c.args.key.now in
    let r : Reached = record { by = c.args.by; from = c.args.from } in
    let P : List (List ℕ) → List Reached → Tree = λ keys reached. record { keys = keys; lines = lines_of reached } in
    ap (λ keys. P keys c.push-3.new.self.items) w.keys
    ∙ ap (λ reached. P (old.keys ++ key ∷ []) reached) w.reached
    ∙ ap (λ lines. record { keys = old.keys ++ key ∷ []; lines = lines }) (lines_of-push old.reached.items r)
    ∙ ap (λ tree. with_board tree key c.args.from c.args.by) c.self.view_is
