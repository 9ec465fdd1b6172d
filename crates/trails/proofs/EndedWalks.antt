-- Of all walks that come to an end and expand no state twice there is one.
use Rattle.std.proofs.Common.{◌≡◌, ℕ, ◌+◌, ◌≤◌, ◌<◌, inr, ⊎_elim, sym, ◌∙◌, subst, List, [], ◌∷◌, ◌++◌, length}
use Rattle.std.proofs.Common.{length-append, arith, get_or}
use Rattle.std.proofs.lemmas.Bool.{cases_lt}
use Rattle.std.proofs.Math.Seq.{get_or-append_seam}
use Rattle.std.proofs.lemmas.List.{get_or_default, get_or_append_left}
use Rattle.trails.specs.Game.{Game}
use Rattle.trails.specs.Trails.{end}
use Rattle.trails.specs.Walks.{Follows, IsWalk}
use Rattle.trails.specs.Fresh.{IsFresh}
use Rattle.trails.specs.Order.{HasPlainSteps, IsOpen, IsAlike, IsEnded}
use Rattle.trails.proofs.FreshLaws.{ends_apart, same_walk, no_longer, none_after}
use Rattle.trails.proofs.FirstEnds.{each_follows}

module _ {State Step : Type 0} (game : Game State Step) (start : State) where
  -- a list that is fresh up to a number is fresh up to each that is less
  pub IsFresh-less : (c d : ℕ) (list : List (List Step)) → d ≤ c → IsFresh game c start list → IsFresh game d start list
  IsFresh-less c d list less fresh earlier between later l z e same others =
      let far = fresh earlier between later l z e same others in
      record {
        touched = far.touched;
        many = omega (arith, less, far.many);
        differ = far.differ;
        others =
            far.others;
        each = far.each;
      }

  module _ (alike : IsAlike game) where
    -- where the two together are fresh up to the length of the walk, the trail that follows it ends in a new state
    pub open_after : (fresh : ℕ) (walk : List (List Step)) (z : List Step) → IsWalk game start walk
        → Follows game start walk z
        → IsFresh game fresh start (walk ++ z ∷ []) → length walk ≤ fresh → IsOpen game start walk z
    open_after fresh walk z is_walk follows is_fresh few = inr (λ l listed same.
        let list : List (List Step) = walk ++ z ∷ [] in
        let long : length list ≡ length walk + 1 = length-append walk (z ∷ []) in
        let room : length walk < length list = omega (arith, long) in
        let at_l : get_or list listed.0 [] ≡ l =
        get_or_append_left walk (z ∷ []) [] listed.0 listed.1
        ∙ (get_or_default walk listed.0 [] l listed.1 ∙ listed.2) in
        let at_z : get_or list (length walk) [] ≡ z = get_or-append_seam walk z [] [] in
        let apart = ends_apart game start alike fresh list
        (each_follows game start walk z is_walk follows) is_fresh listed.0 (length walk) listed.1 room few in
        apart (subst (λ x. game.Same (end game start x) (end game start (get_or list (length walk) []))) (sym at_l)
        (subst (λ x. game.Same (end game start l) (end game start x)) (sym at_z)
        (alike.back (end game start z) (end game start l) same))))

    module _ (plain : HasPlainSteps game start) (limit : ℕ) where
      -- the first of two walks is no longer than the second, and comes to an end
      one_walk-ordered : (c c' : ℕ) (walk other : List (List Step)) → IsWalk game start walk → IsWalk game start other
          → IsFresh game c start walk → IsFresh game c' start other → length walk ≤ c → length other ≤ c'
          → length other ≤ limit
          → IsEnded game start limit walk → length walk ≤ length other → walk ≡ other
      one_walk-ordered c c' walk other is_walk is_walk' fresh fresh' few few' within ended le =
          let n : ℕ = length walk in
          let least : n ≤ n = omega arith in
          let less : n ≤ c' = omega (arith, le, few') in
          let f : IsFresh game n start walk = IsFresh-less c n walk few fresh in
          let f' : IsFresh game n start other = IsFresh-less c' n other less fresh' in
          let ge : length other ≤ n = ⊎_elim
          (λ w. no_longer game start alike plain n walk other is_walk is_walk' f f' w.0 w.1 w.2 least)
          (λ h. ⊎_elim
          (λ closed. none_after game start alike plain n walk other is_walk is_walk' f f' closed least)
          (λ spent. omega (arith, spent, within))
          h)
          ended in
          let same : n ≡ length other = omega (arith, le, ge) in
          let most : n ≤ n + 1 = omega arith in
          same_walk game start alike plain n walk other is_walk is_walk' f f' same most

      -- two walks that come to an end within one limit, each fresh up to a number that it is no longer than
      pub one_walk : (c c' : ℕ) (walk other : List (List Step)) → IsWalk game start walk → IsWalk game start other
          → IsFresh game c start walk → IsFresh game c' start other → length walk ≤ c → length other ≤ c'
          → length walk ≤ limit → length other ≤ limit → IsEnded game start limit walk
          → IsEnded game start limit other → walk ≡ other
      one_walk c c' walk other is_walk is_walk' fresh fresh' few few' within within' ended ended' = ⊎_elim
          (λ lt. let le : length walk ≤ length other = omega (arith, lt) in
          one_walk-ordered c c' walk other is_walk is_walk' fresh fresh' few few' within' ended le)
          (λ ge. let le : length other ≤ length walk = omega (arith, ge) in
          sym (one_walk-ordered c' c other walk is_walk' is_walk fresh' fresh few' few within ended' le))
          (cases_lt (length walk) (length other))
