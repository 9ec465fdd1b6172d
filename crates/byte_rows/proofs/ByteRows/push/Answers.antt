use Rattle.std.proofs.Common.{◌≡◌, ◌<◌, ◌+◌, ◌^◌, [], ◌∷◌, ◌++◌, length, ap, sym, ◌∙◌, arith, ℕ, List, subst}
use Rattle.byte_rows.specs.Laid.{rows_from, AreEnds}
use Rattle.byte_rows.proofs.Rows.{length-rows_together, rows-push, ends-push}
use Rattle.std.specs.List.{concat}
use Rattle.byte_rows.proofs.ByteRows.push.Goals as goal

-- the bytes with the row are fewer than 2^32
fits : (bytes ends row : List ℕ) (rows : List (List ℕ)) → AreEnds 0 bytes ends → rows_from 0 bytes ends ≡ rows
    → length (concat rows) + length row < 2 ^ 32 → length bytes + length row < 2 ^ 32
fits bytes ends row rows are view few =
    let n = length-rows_together 0 bytes ends are in let m = ap (λ xs. length (concat xs)) view in omega arith

pub overflow_cast-len : goal.overflow_cast-len
overflow_cast-len c =
    let f = fits c.self.inside.bytes.items c.self.inside.ends.items c.args.row.now _ c.self.invariant c.self.view_is
    c.requires.few in
    omega (arith, f, c.len.ensures, c.in_ok-extend_from_slice.ensures.len, c.self.inside.bytes.ok.0)

-- the new bytes and ends, as they were written
abbrev Written : goal.In-Ok → Type 0
Written c = (c.extend_from_slice.new.self.items ≡ c.self.inside.bytes.items ++ c.args.row.now)
    × (c.push.new.self.items
    ≡ c.self.inside.ends.items ++ (length c.self.inside.bytes.items + length c.args.row.now) ∷ [])

written : (c : goal.In-Ok) → Written c
written c = (
  c.in_ok-extend_from_slice.ensures.items,
  (let l : c.len.result ≡ length c.self.inside.bytes.items + length c.args.row.now =
      c.len.ensures ∙ c.in_ok-extend_from_slice.ensures.len
      ∙ ap (λ n. n + length c.args.row.now) c.self.inside.bytes.ok.0 in
      c.in-Ok.ensures.items ∙ ap (λ xs. xs ++ c.len.result ∷ []) c.reserve.ensures.items
      ∙ ap (λ n. c.self.inside.ends.items ++ n ∷ []) l),
)

pub invariant_of-self-2 : goal.invariant_of-self-2
invariant_of-self-2 c =
    let w = written c in
    let old = c.self.inside in
    let are = ends-push 0 old.bytes.items old.ends.items c.args.row.now c.self.invariant in
    subst (λ bytes. AreEnds 0 bytes c.push.new.self.items) (sym w.0)
    (subst (λ ends. AreEnds 0 (old.bytes.items ++ c.args.row.now) ends) (sym w.1) are)

pub returns-clause-added : goal.returns-clause-added
returns-clause-added c =
    let w = written c in
    let old = c.self.inside in
    ap (λ bytes. rows_from 0 bytes c.push.new.self.items) w.0
    ∙ ap (λ ends. rows_from 0 (old.bytes.items ++ c.args.row.now) ends) w.1
    ∙ rows-push 0 old.bytes.items old.ends.items c.args.row.now c.self.invariant
    ∙ ap (λ rows. rows ++ c.args.row.now ∷ []) c.self.view_is
