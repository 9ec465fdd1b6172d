-- The lines of kept boards by how each was reached, and the table of their keys.
use Rattle.std.proofs.Common.{◌≡◌, ℕ, zero, suc, ◌+◌, ◌-◌, ◌*◌, ◌<◌, ◌≤◌, List, [], ◌∷◌, ◌++◌, length, get_or, refl, ap, sym}
use Rattle.std.proofs.Common.{subst, ◌∙◌, arith, length-append, map, inl, inr}
use Rattle.std.specs.List.{fold}
use Rattle.std.proofs.lemmas.List.{get_or_append_left, get_or_push, length-map, map-append}
use Rattle.std.proofs.lemmas.Bool.{cases_lt}
use Rattle.std.proofs.lemmas.List.Sums.{fold-append}
use Rattle.std.proofs.lemmas.List.Folds.{concat-append}
use Rattle.std.specs.List.{concat}
use Rattle.game_rules.specs.declared.Move.{Move}
use Rattle.game_rules.specs.declared.Move.TheVariants.{Deal}
use Rattle.shortest_line.specs.declared.kept.Reached.{Reached}
use Rattle.shortest_line.specs.Tree.{line_at, with_line, lines_of}
use Rattle.shortest_line.specs.Table.{IsTable, reached_at}

pub lines_of-push : (reached : List Reached) (r : Reached)
    → lines_of (reached ++ r ∷ []) ≡ with_line (lines_of reached) r.from r.by
unfolding lines_of
lines_of-push reached r = fold-append (λ lines r. with_line lines r.from r.by) ([] ∷ []) reached (r ∷ [])

pub lines_of-none : lines_of [] ≡ [] ∷ []
unfolding lines_of
lines_of-none = refl

abbrev step : List (List Move) → Reached → List (List Move)
step lines r = with_line lines r.from r.by

-- more lines, from some on
abbrev lines_on : List (List Move) → List Reached → List (List Move)
lines_on lines reached = fold step lines reached

length-step : (lines : List (List Move)) (r : Reached) → length (step lines r) ≡ length lines + 1
length-step lines r = length-append lines ((line_at lines r.from ++ r.by ∷ []) ∷ [])

length-lines_on : (lines : List (List Move)) (reached : List Reached)
    → length (lines_on lines reached) ≡ length lines + length reached
length-lines_on lines [] = omega arith
length-lines_on lines (r ∷ reached) =
    let more = length-lines_on (step lines r) reached in let one = length-step lines r in omega arith

-- lines stay
stays_on : (lines : List (List Move)) (reached : List Reached) (k : ℕ) → k < length lines
    → line_at (lines_on lines reached) k ≡ line_at lines k
stays_on lines [] k lt = refl
stays_on lines (r ∷ reached) k lt =
    let one = length-step lines r in
    stays_on (step lines r) reached k (omega arith)
    ∙ get_or_append_left lines ((line_at lines r.from ++ r.by ∷ []) ∷ []) [] k lt

line_on : (lines : List (List Move)) (reached : List Reached) (i n : ℕ) → i < length reached
    → n ≡ length lines + i → (reached_at reached i).from < n
    → line_at (lines_on lines reached) n
    ≡ line_at (lines_on lines reached) (reached_at reached i).from ++ (reached_at reached i).by ∷ []
line_on lines [] i n lt is earlier = absurd (omega arith)
line_on lines (r ∷ reached) zero n lt is earlier =
    let one = length-step lines r in
    let new : line_at (step lines r) n ≡ line_at lines r.from ++ r.by ∷ [] =
    get_or_push lines (line_at lines r.from ++ r.by ∷ []) [] n (omega arith) in
    let old : line_at (step lines r) r.from ≡ line_at lines r.from =
    get_or_append_left lines ((line_at lines r.from ++ r.by ∷ []) ∷ []) [] r.from (omega arith) in
    stays_on (step lines r) reached n (omega arith)
    ∙ new
    ∙ ap (λ l. l ++ r.by ∷ []) (sym (stays_on (step lines r) reached r.from (omega arith) ∙ old))
line_on lines (r ∷ reached) (suc i) n lt is earlier =
    let one = length-step lines r in
    line_on (step lines r) reached i n (omega arith) (omega arith) earlier

pub length-lines_of : (reached : List Reached) → length (lines_of reached) ≡ length reached + 1
unfolding lines_of
length-lines_of reached = let n = length-lines_on ([] ∷ []) reached in omega arith

-- the line of a board is that of the one before it, with a move behind it
pub line_at-reached : (reached : List Reached) (i : ℕ) → i < length reached → (reached_at reached i).from ≤ i
    → line_at (lines_of reached) (i + 1)
    ≡ line_at (lines_of reached) (reached_at reached i).from ++ (reached_at reached i).by ∷ []
unfolding lines_of
line_at-reached reached i lt earlier = line_on ([] ∷ []) reached i (i + 1) lt (omega arith) (omega arith)

-- the start has no moves
pub line_at-start : (reached : List Reached) → line_at (lines_of reached) 0 ≡ []
unfolding lines_of
line_at-start reached = stays_on ([] ∷ []) reached 0 (omega arith)

-- one more board in the table
pub table-push : (hash : List ℕ → ℕ) (keys : List (List ℕ)) (reached : List Reached) (hashes : List ℕ)
    (key : List ℕ) (r : Reached) → IsTable hash keys reached hashes → length key ≤ 320 → length keys < 4000000
    → r.from < length keys
    → IsTable hash (keys ++ key ∷ []) (reached ++ r ∷ []) (hashes ++ hash key ∷ [])
table-push hash keys reached hashes key r t short few there =
    let n = length-append keys (key ∷ []) in
    let m = length-append reached (r ∷ []) in
    let c = concat-append keys (key ∷ []) in
    let l : length (concat (keys ++ key ∷ [])) ≡ length (concat keys) + length (key ++ []) =
    ap (λ bytes. length bytes) c ∙ length-append (concat keys) (concat (key ∷ [])) in
    let e = length-append key [] in
    let count = t.count in
    let short_before = t.short in
    record {
      hashed = ap (λ hs. hs ++ hash key ∷ []) t.hashed ∙ sym (map-append hash keys (key ∷ []));
      count = omega arith;
      earlier = λ i lt. elim (cases_lt i (length reached)) [
        | inl below ↦ subst (λ x. x.from ≤ i) (sym (get_or_append_left reached (r ∷ []) _ i below)) (t.earlier i below)
        | inr above ↦ (let is : length reached ≡ i = omega arith in
            subst (λ x. x.from ≤ i) (sym (get_or_push reached r _ i is)) (omega arith))
      ];
      few = omega arith;
      short = omega arith;
    }
