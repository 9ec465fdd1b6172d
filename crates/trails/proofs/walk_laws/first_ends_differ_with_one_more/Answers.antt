use Rattle.std.proofs.Common.{[], ◌∷◌, ◌++◌}
use Rattle.trails.proofs.FirstEnds.{each_follows, first_apart}
use Rattle.trails.proofs.walk_laws.first_ends_differ_with_one_more.Goals as goal

pub returns : goal.returns
returns g c = λ start walk z fresh alike is_walk follows is_fresh.
    first_apart (g.G.HasGame.game c.args.of.now) start alike fresh (walk ++ z ∷ [])
    (each_follows (g.G.HasGame.game c.args.of.now) start walk z is_walk follows) is_fresh
