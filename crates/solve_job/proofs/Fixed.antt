-- What follows from verdicts alone: where nothing is forgotten, there is one.
use Rattle.std.proofs.Common.{◌≡◌, ℕ, ◌≤◌, inl, inr, ap, sym, ◌∙◌, subst, List, length, arith}
use Rattle.trails.specs.Trails.{end}
use Rattle.trails.specs.Walks.{Follows, IsWalk, IsClosed}
use Rattle.trails.specs.Fresh.{IsFresh}
use Rattle.trails.specs.Order.{HasPlainSteps, IsOpen, IsEnded}
use Rattle.trails.proofs.TrailLaws.{at_end}
use Rattle.trails.proofs.Laws.{at_most_one, none_after_closed}
use Rattle.trails.proofs.EndedWalks.{open_after, one_walk}
use Rattle.game_rules.specs.declared.RuleParts.{RuleParts}
use Rattle.game_rules.specs.declared.Move.{Move}
use Rattle.game_rules.specs.Board.{Board}
use Rattle.game_rules.specs.Winning.{Won, Line, Winnable}
use Rattle.stock_steps.specs.declared.Step.{Step}
use Rattle.stock_steps.specs.Steps.{after_steps, expand_trail, steps}
use Rattle.stock_steps.proofs.StepsOnce.{steps-apart}
use Rattle.line_printer.specs.declared.verdict.Verdict.{Verdict}
use Rattle.line_printer.specs.declared.verdict.Verdict.TheVariants as verdict
use Rattle.search_space.specs.Game.{plain_game}
use Rattle.search_space.proofs.Alike.{plain_game-is_alike}
use Rattle.same_boards.specs.Same.{Same}
use Rattle.solve_job.specs.declared.limits.Limits.{Limits}
use Rattle.solve_job.proofs.Lines.{trail_end}
use Rattle.solve_job.specs.Verdicts.{IsSearched, IsVerdict, IsPassed}
use Rattle.solve_job.specs.Nodes.{nodes_of, narrow_nodes_of}

-- where the start is not winnable, no line wins
pub no_line_wins : (rules : RuleParts) (start : Board) (moves : List Move) (last : Board) → ¬ Winnable rules start
    → Line rules start moves last → ¬ Won rules last
no_line_wins rules start moves last never line won =
    never (length moves, record { moves = moves; end = last; short = omega arith; line = line; won = won })

-- the line of a verdict wins
pub line_wins : (rules : RuleParts) (start : Board) (limits : Limits) (line : List Move) (nodes narrow_nodes : ℕ)
    → IsVerdict rules start limits (verdict.Winnable line nodes narrow_nodes)
    → (end : Board) × Line rules start line end × Won rules end
line_wins rules start limits line nodes narrow_nodes (inl plain) =
    (after_steps rules start plain.finds.trail, plain.finds.legal, plain.finds.won)
line_wins rules start limits line nodes narrow_nodes (inr narrow) =
    (after_steps rules start narrow.finds.trail, narrow.finds.legal, narrow.finds.won)

-- no step stands twice
pub plain_steps : (rules : RuleParts) (start : Board) → HasPlainSteps (plain_game rules) start
plain_steps rules start = λ p is_trail. steps-apart rules (end (plain_game rules) start p)

-- how a verdict ends its walk: a trail with a won end follows, or the walk is closed, or a trail to a new board
-- follows that is not won
abbrev Ends : RuleParts → Board → ℕ → List (List Step) → Verdict → Type 0
Ends rules start limit walk (verdict.Winnable line nodes narrow_nodes) =
    (z : List Step) × (line ≡ expand_trail rules start z) × Follows (plain_game rules) start walk z
    × Won rules (end (plain_game rules) start z)
Ends rules start limit walk (verdict.Unwinnable nodes narrow_nodes) = IsClosed (plain_game rules) start walk
Ends rules start limit walk (verdict.Undecided nodes narrow_nodes) =
    (length walk ≡ limit) × (z : List Step) × Follows (plain_game rules) start walk z
    × IsOpen (plain_game rules) start walk z
    × (¬ Won rules (end (plain_game rules) start z))

-- what a verdict rests on
record Rests (rules : RuleParts) (start : Board) (cache limit : ℕ) (v : Verdict) : Type 0 where
  walk : List (List Step)
  searched : IsSearched (plain_game rules) start cache limit (nodes_of v) walk
  ends : Ends rules start limit walk v
  no_narrow : narrow_nodes_of v ≡ 0

-- without a restricted search no node of one is told
pub passed_none : (rules : RuleParts) (start : Board) (limits : Limits) (nodes : ℕ) → IsPassed rules start limits nodes
    → limits.narrow ≡ 0 → nodes ≡ 0
passed_none rules start limits nodes (inl none) no_narrow = none.1
passed_none rules start limits nodes (inr some) no_narrow = absurd (some.0 no_narrow)

rests_on : (rules : RuleParts) (start : Board) (limits : Limits) (v : Verdict) → IsVerdict rules start limits v
    → limits.narrow ≡ 0
    → nodes_of v ≤ limits.cache → Rests rules start limits.cache limits.nodes v
rests_on rules start limits (verdict.Winnable line nodes narrow_nodes) (inl is) none few =
    let h = is.finds in
    record {
      walk = h.walk;
      searched = h.searched;
      ends = (
        h.trail,
        h.expands,
        h.follows,
        subst (Won rules) (sym (trail_end rules (steps rules) (Won rules) (Same rules) start h.trail)) h.won,
      );
      no_narrow = passed_none rules start limits narrow_nodes is.passed none;
    }
rests_on rules start limits (verdict.Winnable line nodes narrow_nodes) (inr is) none few = absurd (is.restricted none)
rests_on rules start limits (verdict.Unwinnable nodes narrow_nodes) is none few =
    let h = is.0 in
    record {
      walk = h.walk;
      searched = h.searched;
      ends = h.closed;
      no_narrow = passed_none rules start limits narrow_nodes is.1 none;
    }
rests_on rules start limits (verdict.Undecided nodes narrow_nodes) is none few =
    let h = is.0 in
    let e = h.ends in
    let short : length h.walk ≤ limits.cache = omega (arith, h.searched.count, few) in
    record {
      walk = h.walk;
      searched = h.searched;
      ends = (
        h.searched.count ∙ e.spent,
        e.further,
        e.follows,
        open_after (plain_game rules) start (plain_game-is_alike rules) limits.cache h.walk e.further h.searched.is_walk
            e.follows e.fresh short,
        at_end (plain_game rules) (λ s. ¬ Won rules s) start e.further e.clean.not_won,
      );
      no_narrow = passed_none rules start limits narrow_nodes is.1 none;
    }

ended : (rules : RuleParts) (start : Board) (limit : ℕ) (walk : List (List Step)) (v : Verdict)
    → Ends rules start limit walk v
    → IsEnded (plain_game rules) start limit walk
ended rules start limit walk (verdict.Winnable line nodes narrow_nodes) ends = inl (ends.0, ends.2, ends.3)
ended rules start limit walk (verdict.Unwinnable nodes narrow_nodes) ends = inr (inl ends)
ended rules start limit walk (verdict.Undecided nodes narrow_nodes) ends = inr (inr ends.0)

-- one walk ends in one way
module _ (rules : RuleParts) (start : Board) (limit : ℕ) (walk : List (List Step))
    (is_walk : IsWalk (plain_game rules) start walk) where
  no_further : (z : List Step) → IsClosed (plain_game rules) start walk → Follows (plain_game rules) start walk z
      → IsOpen (plain_game rules) start walk z → ⊥
  no_further z closed follows opens =
      none_after_closed (plain_game rules) start walk is_walk (plain_steps rules start) closed z follows opens

  no_win : (line z : List Step) → Follows (plain_game rules) start walk line
      → Won rules (end (plain_game rules) start line)
      → Follows (plain_game rules) start walk z → IsOpen (plain_game rules) start walk z
      → ¬ Won rules (end (plain_game rules) start z) → ⊥
  no_win line z follows won follows' opens not_won =
      let same : line ≡ z = at_most_one (plain_game rules) start walk is_walk
      (plain_steps rules start) line z follows follows' (inl won) opens in
      not_won (subst (λ l. Won rules (end (plain_game rules) start l)) same won)

  one_ending : (v w : Verdict) → Ends rules start limit walk v → Ends rules start limit walk w → nodes_of v ≡ nodes_of w
      → narrow_nodes_of v ≡ narrow_nodes_of w → v ≡ w
  one_ending (verdict.Winnable line nodes narrow_nodes) (verdict.Winnable line' nodes' narrow_nodes') e f same narrow =
      let trails : e.0 ≡ f.0 = at_most_one (plain_game rules) start walk is_walk
      (plain_steps rules start) e.0 f.0 e.2 f.2 (inl e.3) (inl f.3) in
      let one : line ≡ line' = e.1 ∙ (ap (expand_trail rules start) trails ∙ sym f.1) in
      ap (λ l. verdict.Winnable l nodes narrow_nodes) one
      ∙ (ap (λ n. verdict.Winnable line' n narrow_nodes) same ∙ ap (λ k. verdict.Winnable line' nodes' k) narrow)
  one_ending (verdict.Winnable line nodes narrow_nodes) (verdict.Unwinnable nodes' narrow_nodes') e f same narrow =
      absurd (no_further e.0 f e.2 (inl e.3))
  one_ending (verdict.Winnable line nodes narrow_nodes) (verdict.Undecided nodes' narrow_nodes') e f same narrow =
      absurd (no_win e.0 f.1 e.2 e.3 f.2 f.3 f.4)
  one_ending (verdict.Unwinnable nodes narrow_nodes) (verdict.Winnable line' nodes' narrow_nodes') e f same narrow =
      absurd (no_further f.0 e f.2 (inl f.3))
  one_ending (verdict.Unwinnable nodes narrow_nodes) (verdict.Unwinnable nodes' narrow_nodes') e f same narrow =
      ap (λ n. verdict.Unwinnable n narrow_nodes) same ∙ ap (λ k. verdict.Unwinnable nodes' k) narrow
  one_ending (verdict.Unwinnable nodes narrow_nodes) (verdict.Undecided nodes' narrow_nodes') e f same narrow =
      absurd (no_further f.1 e f.2 f.3)
  one_ending (verdict.Undecided nodes narrow_nodes) (verdict.Winnable line' nodes' narrow_nodes') e f same narrow =
      absurd (no_win f.0 e.1 f.2 f.3 e.2 e.3 e.4)
  one_ending (verdict.Undecided nodes narrow_nodes) (verdict.Unwinnable nodes' narrow_nodes') e f same narrow =
      absurd (no_further e.1 f e.2 e.3)
  one_ending (verdict.Undecided nodes narrow_nodes) (verdict.Undecided nodes' narrow_nodes') e f same narrow =
      ap (λ n. verdict.Undecided n narrow_nodes) same ∙ ap (λ k. verdict.Undecided nodes' k) narrow

-- two verdicts of no more nodes than their caches have room for are one
pub one_verdict : (rules : RuleParts) (start : Board) (limits limits' : Limits) (v w : Verdict) → limits.narrow ≡ 0
    → limits'.narrow ≡ 0
    → limits.nodes ≡ limits'.nodes → IsVerdict rules start limits v → IsVerdict rules start limits' w
    → nodes_of v ≤ limits.cache → nodes_of w ≤ limits'.cache → v ≡ w
one_verdict rules start limits limits' v w none none' same is_v is_w few_v few_w =
    let a = subst (λ limit. Rests rules start limits.cache limit v) same
    (rests_on rules start limits v is_v none few_v) in
    let b = rests_on rules start limits' w is_w none' few_w in
    let short : length a.walk ≤ limits.cache = omega (arith, a.searched.count, few_v) in
    let short' : length b.walk ≤ limits'.cache = omega (arith, b.searched.count, few_w) in
    let within : length a.walk ≤ limits'.nodes = omega (arith, a.searched.count, a.searched.within) in
    let within' : length b.walk ≤ limits'.nodes = omega (arith, b.searched.count, b.searched.within) in
    let walks : a.walk ≡ b.walk = one_walk (plain_game rules) start (plain_game-is_alike rules)
    (plain_steps rules start) limits'.nodes limits.cache limits'.cache a.walk b.walk
    a.searched.is_walk b.searched.is_walk a.searched.fresh b.searched.fresh short short' within within'
    (ended rules start limits'.nodes a.walk v a.ends) (ended rules start limits'.nodes b.walk w b.ends) in
    let nodes : nodes_of v ≡ nodes_of w = sym a.searched.count ∙ (ap length walks ∙ b.searched.count) in
    one_ending rules start limits'.nodes b.walk b.searched.is_walk v w
    (subst (λ walk. Ends rules start limits'.nodes walk v) walks a.ends) b.ends nodes
    (a.no_narrow ∙ sym b.no_narrow)
