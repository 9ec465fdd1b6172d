-- A closed walk of a complete game holds no win.
use Rattle.std.proofs.Common.{◌≡◌, ◌≢◌, ℕ, zero, suc, refl, sym, subst, List, [], ◌∷◌, ◌++◌, arith, Contains}
use Rattle.trails.specs.Game.{Game}
use Rattle.trails.specs.Trails.{end}
use Rattle.trails.specs.Walks.{IsWalk, IsClosed}
use Rattle.trails.specs.Complete.{IsComplete}
use Rattle.trails.proofs.TrailLaws.{end-push, IsTrail-push, at_end}
use Rattle.trails.proofs.Laws.{clean_in}

module _ {State Step : Type 0} (game : Game State Step) where
  module _ (Wins : ℕ → State → Type 0) (start : State) (walk : List (List Step)) (complete : IsComplete game Wins start)
      (is_walk : IsWalk game start walk) (closed : IsClosed game start walk) where
    none_at : (n : ℕ) (l : List Step) → Contains walk l → ¬ Wins n (end game start l)
    none_at zero l c wins =
        let clean = clean_in game start walk is_walk l c in
        at_end game (λ s. ¬ game.Won s) start l clean.not_won
        (complete.none (end game start l) (l, clean.steps, refl) wins)
    none_at (suc n) l c wins =
        let clean = clean_in game start walk is_walk l c in
        let near = complete.nearer n (end game start l) (l, clean.steps, refl)
        (at_end game (λ s. ¬ game.Won s) start l clean.not_won) wins in
        let settled = closed.each l near.0 c near.1 in
        let other = clean_in game start walk is_walk settled.trail settled.listed in
        none_at n settled.trail settled.listed
        (complete.alike n (game.after (end game start l) near.0) (end game start settled.trail)
        (l ++ near.0 ∷ [], IsTrail-push game start l near.0 clean.steps near.1, end-push game start l near.0)
        (settled.trail, other.steps, refl) settled.same near.2)

    first_in : (trails : List (List Step)) → trails ≡ walk → trails ≢ [] → Contains walk []
    first_in [] e none = absurd (none refl)
    first_in (z ∷ rest) e none =
        let f = (is_walk [] rest z (sym e)).1 in
        let g : z ≡ [] = f.first refl in
        subst (λ xs. Contains xs []) e (0, omega arith, g)

    -- the start doesn't win
    pub none_wins : (n : ℕ) → ¬ Wins n start
    none_wins n = none_at n [] (first_in walk refl closed.not_empty)
