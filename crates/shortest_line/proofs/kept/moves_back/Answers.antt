use Rattle.std.proofs.Common.{◌≡◌, ℕ, ◌+◌, ◌-◌, ◌<◌, ◌≤◌, List, [], ◌∷◌, ◌++◌, length, get_or, ap, sym, subst, ◌∙◌, arith, reverse}
use Rattle.std.proofs.lemmas.List.{get_or_default, append_assoc, reverse-append}
use Rattle.game_rules.specs.declared.Move.{Move}
use Rattle.shortest_line.specs.declared.kept.Reached.{Reached}
use Rattle.shortest_line.specs.Tree.{line_at, lines_of}
use Rattle.shortest_line.specs.Table.{reached_at}
use Rattle.shortest_line.proofs.Places.{line_at-reached, line_at-start}
use Rattle.shortest_line.proofs.kept.moves_back.Goals as goal

-- one step back
back : (reached : List Reached) (place at : ℕ) (moves : List Move) (r : Reached) → 0 < at → at ≤ length reached
    → r ≡ reached_at reached (at - 1) → (reached_at reached (at - 1)).from ≤ at - 1
    → line_at (lines_of reached) place ≡ line_at (lines_of reached) at ++ reverse moves
    → line_at (lines_of reached) place ≡ line_at (lines_of reached) r.from ++ reverse (moves ++ r.by ∷ [])
back reached place at moves r some there is earlier so_far =
    let lt : at - 1 < length reached = omega arith in
    let n : at - 1 + 1 ≡ at = omega arith in
    let line : line_at (lines_of reached) at ≡ line_at (lines_of reached) r.from ++ r.by ∷ [] =
    ap (λ k. line_at (lines_of reached) k) (sym n) ∙ line_at-reached reached (at - 1) lt earlier
    ∙ ap (λ x. line_at (lines_of reached) x.from ++ x.by ∷ []) (sym is) in
    so_far ∙ ap (λ l. l ++ reverse moves) line
    ∙ append_assoc (line_at (lines_of reached) r.from) (r.by ∷ []) (reverse moves)
    ∙ ap (λ l. line_at (lines_of reached) r.from ++ l) (sym (reverse-append moves (r.by ∷ [])))

read_at : (reached : List Reached) (i : ℕ) (r : Reached) → i < length reached → r ≡ get_or reached i r
    → r ≡ reached_at reached i
read_at reached i r lt is = is ∙ get_or_default reached i r _ lt

pub loop-at-preserved : goal.loop-at-preserved
loop-at-preserved c =
    let some : 0 < c.loop-at.at = (let t = c.loop-at-test.true in omega arith) in
    let there : c.loop-at.at ≤ length c.args.reached.now.items = c.loop-at.invariant.there in
    let lt : c.loop-at.at - 1 < length c.args.reached.now.items = omega arith in
    let earlier = c.requires.earlier (c.loop-at.at - 1) lt in
    let is : c.index-step.result.now ≡ reached_at c.args.reached.now.items (c.loop-at.at - 1) =
    read_at c.args.reached.now.items (c.loop-at.at - 1) c.index-step.result.now lt c.index-step.ensures in
    let from : c.index-step.result.now.from ≤ c.loop-at.at - 1 = subst (λ x. x.from ≤ c.loop-at.at - 1) (sym is) earlier in
    record {
      there = omega arith;
      line = back c.args.reached.now.items c.args.place c.loop-at.at c.loop-at.moves.items c.index-step.result.now some
          there is earlier c.loop-at.invariant.line
          ∙ ap (λ moves. line_at (lines_of c.args.reached.now.items) c.index-step.result.now.from ++ reverse moves)
          (sym c.in_ok-push.ensures.items);
    }

pub returns : goal.returns
returns c =
    c.loop-at.invariant.line
    ∙ ap (λ at. line_at (lines_of c.args.reached.now.items) at ++ reverse c.loop-at.moves.items) c.loop-at-test.false
    ∙ ap (λ l. l ++ reverse c.loop-at.moves.items) (line_at-start c.args.reached.now.items)
