-- What follows from verdicts alone of a restricted search: where nothing is forgotten, there is one count of its nodes.
use Rattle.std.proofs.Common.{◌≡◌, ◌≢◌, ◌∙◌, ℕ, zero, suc, ◌≤◌, List, length, inl, inr, refl, ap, sym, subst}
use Rattle.std.proofs.Common.{⊎_elim, arith}
use Rattle.trails.specs.Trails.{end}
use Rattle.trails.specs.Walks.{IsWalk}
use Rattle.trails.specs.Fresh.{IsFresh}
use Rattle.trails.specs.Order.{HasPlainSteps, IsEnded}
use Rattle.trails.proofs.EndedWalks.{one_walk}
use Rattle.game_rules.specs.declared.RuleParts.{RuleParts}
use Rattle.game_rules.specs.declared.Move.{Move}
use Rattle.game_rules.specs.Board.{Board}
use Rattle.game_rules.specs.Winning.{Won}
use Rattle.stock_steps.specs.declared.Step.{Step}
use Rattle.line_printer.specs.declared.verdict.Verdict.{Verdict}
use Rattle.line_printer.specs.declared.verdict.Verdict.TheVariants as verdict
use Rattle.streamliner.specs.declared.Streamliner.{Streamliner}
use Rattle.search_space.specs.Narrow.{narrow_game, narrow_steps, NarrowSame}
use Rattle.search_space.proofs.NarrowAlike.{narrow_game-is_alike}
use Rattle.search_space.proofs.NarrowSteps.{narrow_steps-once}
use Rattle.solve_job.specs.declared.limits.Limits.{Limits}
use Rattle.solve_job.specs.Verdicts.{FindsWin, FindsNoWin, IsPassed, IsVerdict}
use Rattle.solve_job.specs.Nodes.{narrow_nodes_of}
use Rattle.solve_job.proofs.Lines.{trail_end}
use Rattle.solve_job.proofs.Fixed.{passed_none}

-- the walk of a restricted search, which came to an end
record Restricted (rules : RuleParts) (way : Streamliner) (start : Board) (cache limit nodes : ℕ) : Type 0 where
  walk : List (List Step)
  is_walk : IsWalk (narrow_game rules way) start walk
  fresh : IsFresh (narrow_game rules way) cache start walk
  count : length walk ≡ nodes
  within : length walk ≤ limit
  ended : IsEnded (narrow_game rules way) start limit walk

-- no step stands twice
narrow_plain_steps : (rules : RuleParts) (way : Streamliner) (start : Board)
    → HasPlainSteps (narrow_game rules way) start
narrow_plain_steps rules way start = λ p is_trail. narrow_steps-once rules way (end (narrow_game rules way) start p)

restricted-won : (rules : RuleParts) (way : Streamliner) (start : Board) (cache limit : ℕ)
    (line : List Move) (nodes : ℕ)
    → FindsWin (narrow_game rules way) rules start cache limit line nodes → Restricted rules way start cache limit nodes
restricted-won rules way start cache limit line nodes h = record {
  walk = h.walk;
  is_walk = h.searched.is_walk;
  fresh = h.searched.fresh;
  count = h.searched.count;
  within = omega (arith, h.searched.count, h.searched.within);
  ended = inl (
    h.trail,
    h.follows,
    subst (Won rules)
        (sym (trail_end rules (narrow_steps rules way) (Won rules) (NarrowSame rules way) start h.trail)) h.won,
  );
}

restricted-not_won : (rules : RuleParts) (way : Streamliner) (start : Board) (cache limit nodes : ℕ)
    → FindsNoWin (narrow_game rules way) start cache limit nodes → Restricted rules way start cache limit nodes
restricted-not_won rules way start cache limit nodes h = record {
  walk = h.walk;
  is_walk = h.searched.is_walk;
  fresh = h.searched.fresh;
  count = h.searched.count;
  within = omega (arith, h.searched.count, h.searched.within);
  ended = inr (⊎_elim (λ closed. inl closed) (λ spent. inr (h.searched.count ∙ spent.spent)) h.ends);
}

restricted-passed : (rules : RuleParts) (start : Board) (limits : Limits) (nodes : ℕ)
    → IsPassed rules start limits nodes → limits.narrow ≢ 0
    → Restricted rules limits.way start limits.cache limits.narrow nodes
restricted-passed rules start limits nodes (inl none) some = absurd (some none.0)
restricted-passed rules start limits nodes (inr search) some = restricted-not_won rules limits.way start limits.cache
    limits.narrow nodes search.1

-- a verdict tells the nodes of that walk
restricted_by : (rules : RuleParts) (start : Board) (limits : Limits) (v : Verdict) → IsVerdict rules start limits v
    → limits.narrow ≢ 0
    → Restricted rules limits.way start limits.cache limits.narrow (narrow_nodes_of v)
restricted_by rules start limits (verdict.Winnable line nodes narrow_nodes) (inl plain) some =
    restricted-passed rules start limits narrow_nodes plain.passed some
restricted_by rules start limits (verdict.Winnable line nodes narrow_nodes) (inr narrow) some =
    restricted-won rules limits.way start limits.cache limits.narrow line narrow_nodes narrow.finds
restricted_by rules start limits (verdict.Unwinnable nodes narrow_nodes) is some = restricted-passed rules start limits
    narrow_nodes is.1 some
restricted_by rules start limits (verdict.Undecided nodes narrow_nodes) is some = restricted-passed rules start limits
    narrow_nodes is.1 some

-- without a restricted search none of its nodes is told
none_told : (rules : RuleParts) (start : Board) (limits : Limits) (v : Verdict) → IsVerdict rules start limits v
    → limits.narrow ≡ 0
    → narrow_nodes_of v ≡ 0
none_told rules start limits (verdict.Winnable line nodes narrow_nodes) (inl plain) none =
    passed_none rules start limits narrow_nodes plain.passed none
none_told rules start limits (verdict.Winnable line nodes narrow_nodes) (inr narrow) none = absurd
    (narrow.restricted none)
none_told rules start limits (verdict.Unwinnable nodes narrow_nodes) is none =
    passed_none rules start limits narrow_nodes is.1 none
none_told rules start limits (verdict.Undecided nodes narrow_nodes) is none =
    passed_none rules start limits narrow_nodes is.1 none

-- two walks of restricted searches that forgot nothing have one length
one_length : (rules : RuleParts) (way : Streamliner) (start : Board) (cache cache' limit nodes nodes' : ℕ)
    → Restricted rules way start cache limit nodes → Restricted rules way start cache' limit nodes' → nodes ≤ cache
    → nodes' ≤ cache' → nodes ≡ nodes'
one_length rules way start cache cache' limit nodes nodes' a b few few' =
    let short : length a.walk ≤ cache = omega (arith, a.count, few) in
    let short' : length b.walk ≤ cache' = omega (arith, b.count, few') in
    let walks : a.walk ≡ b.walk = one_walk (narrow_game rules way) start (narrow_game-is_alike rules way)
    (narrow_plain_steps rules way start) limit cache cache'
    a.walk b.walk a.is_walk b.is_walk a.fresh b.fresh short short' a.within b.within a.ended b.ended in
    sym a.count ∙ (ap length walks ∙ b.count)

-- two verdicts whose restricted searches forgot nothing tell one count
pub one_count : (rules : RuleParts) (start : Board) (limits limits' : Limits) (v w : Verdict)
    → limits.narrow ≡ limits'.narrow → limits.way ≡ limits'.way
    → IsVerdict rules start limits v → IsVerdict rules start limits' w
    → narrow_nodes_of v ≤ limits.cache → narrow_nodes_of w ≤ limits'.cache → narrow_nodes_of v ≡ narrow_nodes_of w
one_count rules start limits limits' v w same same_way is_v is_w few few' = by_narrow limits'.narrow refl
  where
    by_narrow : (n : ℕ) → limits'.narrow ≡ n → narrow_nodes_of v ≡ narrow_nodes_of w
    by_narrow zero none = none_told rules start limits v is_v (same ∙ none)
        ∙ sym (none_told rules start limits' w is_w none)
    by_narrow (suc n) some =
        let asked' : limits'.narrow ≢ 0 = λ none. absurd (omega (arith, some, none)) in
        let asked : limits.narrow ≢ 0 = λ none. asked' (sym same ∙ none) in
        let a = subst (λ limit. Restricted rules limits'.way start limits.cache limit (narrow_nodes_of v)) same
        (subst (λ way. Restricted rules way start limits.cache limits.narrow (narrow_nodes_of v)) same_way
        (restricted_by rules start limits v is_v asked)) in
        one_length rules limits'.way start limits.cache limits'.cache limits'.narrow (narrow_nodes_of v)
        (narrow_nodes_of w)
        a (restricted_by rules start limits' w is_w asked') few few'
