-- The first ends of a fresh list are pairwise not the same, so a cover is longer.
use Rattle.std.proofs.Common.{◌≡◌, ℕ, ◌+◌, ◌<◌, ◌≤◌, ⊎_elim, sym, ◌∙◌, subst, List, [], ◌∷◌, ◌++◌, length, arith}
use Rattle.std.proofs.Common.{Contains, All, get_or, take, min}
use Rattle.std.proofs.lemmas.List.{get_or_default, get_or-take, length-take}
use Rattle.trails.specs.Game.{Game}
use Rattle.trails.specs.Trails.{end, IsClean}
use Rattle.trails.specs.Walks.{Follows, IsWalk}
use Rattle.trails.specs.Fresh.{IsFresh, IsCover}
use Rattle.trails.specs.Order.{HasPlainEnds, IsAlike}
use Rattle.trails.proofs.Lists.{push_split}
use Rattle.trails.proofs.FreshLaws.{few_places, ends_apart}

module _ {State Step : Type 0} (game : Game State Step) (start : State) where
  -- each trail of a walk with one that follows it follows those before it
  pub each_follows : (walk : List (List Step)) (last : List Step) → IsWalk game start walk
      → Follows game start walk last
      → (earlier later : List (List Step)) (z : List Step) → walk ++ last ∷ [] ≡ earlier ++ z ∷ later
      → Follows game start earlier z
  each_follows walk last is_walk follows earlier later z e = ⊎_elim
      (λ h. subst (Follows game start earlier) (sym h.1) (subst (λ w. Follows game start w last) (sym h.2) follows))
      (λ h. (is_walk earlier h.0 z h.1).1)
      (push_split walk earlier later last z e)

  module _ (alike : IsAlike game) (fresh : ℕ) (list : List (List Step))
      (each : (earlier later : List (List Step)) (z : List Step) → list ≡ earlier ++ z ∷ later
      → Follows game start earlier z)
      (is_fresh : IsFresh game fresh start list) where
    pub first_apart : HasPlainEnds game start (take (fresh + 1) list)
    first_apart i j d lt le =
        let long = length-take (fresh + 1) list in
        let few : j ≤ fresh = omega (arith, long, le) in
        let room : j < length list = omega (arith, long, le) in
        let room' : i < length list = omega (arith, lt, room) in
        let near : j < fresh + 1 = omega (arith, few) in
        let near' : i < fresh + 1 = omega (arith, few, lt) in
        let at : (k : ℕ) → k < length list → k < fresh + 1 → get_or (take (fresh + 1) list) k d ≡ get_or list k [] =
        λ k in_list below. get_or-take (fresh + 1) list k d below ∙ get_or_default list k d [] in_list in
        subst (λ l. ¬ game.Same (end game start l) (end game start (get_or (take (fresh + 1) list) j d)))
        (sym (at i room' near'))
        (subst (λ z. ¬ game.Same (end game start (get_or list i [])) (end game start z)) (sym (at j room near))
        (ends_apart game start alike fresh list each is_fresh i j lt room few))

    pub longer_cover : (states : List State) → ((l : List Step) → Contains list l → IsClean game start l)
        → IsCover game start states
        → min (fresh + 1) (length list) ≤ length states
    longer_cover states clean cover =
        let front : List (List Step) = take (fresh + 1) list in
        let long : length front ≡ min (fresh + 1) (length list) = length-take (fresh + 1) list in
        let P : List Step → Type 0 = λ l. (k : ℕ) × (k < length states)
        × game.Same (end game start l) (get_or states k start) in
        let at : All P front = λ k d lt.
        let room : k < length list = omega (arith, lt, long) in
        let below : k < fresh + 1 = omega (arith, lt, long) in
        let c : Contains list (get_or front k d) = (
          k,
          room,
          sym (get_or-take (fresh + 1) list k (get_or front k d) below)
              ∙ get_or_default front k (get_or front k d) d lt,
        ) in
        let a = cover (get_or front k d) (clean (get_or front k d) c) in (
          a.0,
          a.2,
          subst (game.Same (end game start (get_or front k d)))
              (sym a.3 ∙ get_or_default states a.0 a.1 start a.2) a.4,
        ) in
        let le : length front ≤ length states = few_places (λ l z. game.Same (end game start l) (end game start z))
        (λ l k. game.Same (end game start l) (get_or states k start)) (length states)
        (λ a b k p q. alike.through (end game start a) (get_or states k start) (end game start b) p
        (alike.back (end game start b) (get_or states k start) q))
        front first_apart at in
        omega (arith, le, long)
