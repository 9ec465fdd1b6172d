use Rattle.std.proofs.lemmas.List.{get_or_default}
use Rattle.std.proofs.Common.{get_or, ◌≡◌, ◌<◌, [], ◌∷◌, length, slice_range, ap, sym, ◌∙◌, arith, ℕ, List}
use Rattle.byte_rows.specs.Laid.{rows_from}
use Rattle.byte_rows.proofs.Rows.{length-rows, bounds_at, row_at}
use Rattle.byte_rows.proofs.ByteRows.is_equal.Goals as goal

there : (bytes ends : List ℕ) (rows : List (List ℕ)) (i : ℕ) → rows_from 0 bytes ends ≡ rows → i < length rows
    → i < length ends
there bytes ends rows i view lt =
    let n = length-rows 0 bytes ends in let m = ap (λ xs. length xs) view in omega arith

pub start_of-start-requires : goal.start_of-start-requires
start_of-start-requires c =
    there c.self.inside.bytes.items c.self.inside.ends.items _ _ c.self.view_is c.requires.there

pub index-requires : goal.index-requires
index-requires c =
    let lt = there c.self.inside.bytes.items c.self.inside.ends.items _ _ c.self.view_is c.requires.there in
    omega (arith, lt, c.self.inside.ends.ok.0)

-- the place after a row, as it was read
end_is : (ends : List ℕ) (i e : ℕ) → e ≡ get_or ends i e → i < length ends → e ≡ get_or ends i 0
end_is ends i e is lt = is ∙ get_or_default ends i e 0 lt

pub is_part-requires-clause-ordered : goal.is_part-requires-clause-ordered
is_part-requires-clause-ordered c =
    let ends = c.self.inside.ends.items in
    let lt = there c.self.inside.bytes.items ends _ _ c.self.view_is c.requires.there in
    let b = bounds_at 0 c.self.inside.bytes.items ends c.args.i c.self.invariant lt in
    let e = end_is ends c.args.i c.index.result.now c.index.ensures lt in
    let s = c.start_of-start.ensures in
    omega (arith, b.0, e, s)

pub is_part-requires-clause-within : goal.is_part-requires-clause-within
is_part-requires-clause-within c =
    let ends = c.self.inside.ends.items in
    let lt = there c.self.inside.bytes.items ends _ _ c.self.view_is c.requires.there in
    let b = bounds_at 0 c.self.inside.bytes.items ends c.args.i c.self.invariant lt in
    let e = end_is ends c.args.i c.index.result.now c.index.ensures lt in
    omega (arith, b.1, e)

-- the row of a number, by the places that were read
row_is : (bytes ends : List ℕ) (rows : List (List ℕ)) (i start e : ℕ) → rows_from 0 bytes ends ≡ rows
    → i < length rows → start ≡ get_or (0 ∷ ends) i 0 → e ≡ get_or ends i e
    → slice_range bytes start e ≡ get_or rows i []
row_is bytes ends rows i start e view lt from is =
    let lt' = there bytes ends rows i view lt in
    let e' = end_is ends i e is lt' in
    ap (λ s. slice_range bytes s e) from
    ∙ ap (λ x. slice_range bytes (get_or (0 ∷ ends) i 0) x) e'
    ∙ sym (row_at 0 bytes ends i lt')
    ∙ ap (λ xs. get_or xs i []) view

pub returns : goal.returns
returns c =
    let is = row_is c.self.inside.bytes.items c.self.inside.ends.items _ c.args.i _ _ c.self.view_is c.requires.there
    c.start_of-start.ensures c.index.ensures in
    (λ t. sym is ∙ c.is_part.ensures.0 t, λ e. c.is_part.ensures.1 (is ∙ e))
