-- A walk and a clean trail that follows it are more trails than the walk has, none of them long.
use Rattle.std.proofs.Common.{◌≡◌, ℕ, zero, suc, ◌+◌, ◌<◌, ◌≤◌, ⊎_elim, sym, ap, subst, List, [], ◌∷◌, ◌++◌, length}
use Rattle.std.proofs.Common.{length-append, arith, get_or, take, drop, All}
use Rattle.std.proofs.lemmas.List.{length-take-le}
use Rattle.trails.specs.Game.{Game}
use Rattle.trails.specs.Trails.{IsClean}
use Rattle.trails.specs.Walks.{Follows, IsWalk}
use Rattle.trails.specs.Order.{HasPlainSteps}
use Rattle.trails.specs.Many.{HasMoreTrails}
use Rattle.trails.proofs.Lists.{push_split, last_of, split_at}
use Rattle.trails.proofs.Laws.{split_earlier, trails_differ}
use Rattle.trails.proofs.FirstEnds.{each_follows}

module _ {State Step : Type 0} (game : Game State Step) (start : State) where
  -- a trail of a walk has no more steps than there are trails before it
  short_at : (walk : List (List Step)) → IsWalk game start walk → (n : ℕ) (earlier later : List (List Step))
      (z : List Step) → length earlier ≤ n → walk ≡ earlier ++ z ∷ later → length z ≤ length earlier
  short_at walk is_walk zero earlier later z le e = ⊎_elim
      (λ none. let first = ap length ((is_walk earlier later z e).1.first none) in omega (arith, first))
      (λ more. absurd (omega (arith, le, ap length more.2, length-append more.0 (more.1 ∷ []))))
      (last_of earlier)
  short_at walk is_walk (suc n) earlier later z le e = ⊎_elim
      (λ none. let first = ap length ((is_walk earlier later z e).1.first none) in omega (arith, first))
      (λ more.
      let go = (is_walk earlier later z e).1.next more.0 more.1 more.2 in
      let long = ap length more.2 in
      let one = length-append more.0 (more.1 ∷ []) in
      let less : length more.0 ≤ n = omega (arith, le, long, one) in
      let before = short_at walk is_walk n more.0 (z ∷ later) more.1 less
      (split_earlier game start walk is_walk earlier later more.0 more.1 z e more.2) in
      let front = ap length go.begins.1 in
      let parts = length-append go.front go.begins.0 in
      let whole = ap length go.is in
      let step = length-append go.front (go.step ∷ []) in
      omega (arith, before, long, one, front, parts, whole, step))
      (last_of earlier)

  -- a walk goes on by a clean trail that follows it
  IsWalk-push : (walk : List (List Step)) (z : List Step) → IsWalk game start walk → IsClean game start z
      → Follows game start walk z → IsWalk game start (walk ++ z ∷ [])
  IsWalk-push walk z is_walk clean follows earlier later x e = (
    ⊎_elim
        (λ h. subst (IsClean game start) (sym h.1) clean)
        (λ h. (is_walk earlier h.0 x h.1).0)
        (push_split walk earlier later z x e),
    each_follows game start walk z is_walk follows earlier later x e,
  )

  pub more_trails : (walk : List (List Step)) (z : List Step) → HasPlainSteps game start → IsWalk game start walk
      → IsClean game start z → Follows game start walk z → HasMoreTrails game start (length walk)
  more_trails walk z plain is_walk clean follows =
      let all : List (List Step) = walk ++ z ∷ [] in
      let long : length all ≡ length walk + 1 = length-append walk (z ∷ []) in
      let is : IsWalk game start all = IsWalk-push walk z is_walk clean follows in
      record {
        trails = all;
        more = omega (arith, long);
        differ = trails_differ game start all is plain;
        clean = λ k d lt. (is (take k all) (drop (k + 1) all) (get_or all k d) (split_at all k d lt)).0;
        short = λ k d lt.
            let le : length (take k all) ≡ k = length-take-le k all (omega (arith, lt)) in
            let least : length (take k all) ≤ k = omega (arith, le) in
            let at = short_at all is k (take k all) (drop (k + 1) all) (get_or all k d) least (split_at all k d lt) in
            omega (arith, at, le, lt, long);
      }
