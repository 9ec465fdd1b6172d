use Rattle.std.proofs.Common.{◌+◌, ⊎_elim, subst, length-append, [], ◌∷◌, ◌++◌, arith}
use Rattle.std.proofs.lemmas.List.Elements.{Contains-push_cases}
use Rattle.trails.specs.Trails.{IsClean}
use Rattle.trails.proofs.Laws.{clean_in}
use Rattle.trails.proofs.FirstEnds.{each_follows, longer_cover}
use Rattle.trails.proofs.walk_laws.covers_are_longer.Goals as goal

pub returns : goal.returns
returns g c = λ start walk z fresh states alike is_walk clean follows is_fresh cover.
    let game = g.G.HasGame.game c.args.of.now in
    let le = longer_cover game start alike fresh (walk ++ z ∷ [])
    (each_follows game start walk z is_walk follows) is_fresh states
    (λ l listed. ⊎_elim (λ old. clean_in game start walk is_walk l old) (λ new. subst (IsClean game start) new clean)
    (Contains-push_cases walk z l listed)) cover in
    omega (arith, le, length-append walk (z ∷ []))
